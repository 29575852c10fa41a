-- `place_donors` meets its contract. The invariant: the keys from the turn's place on, given positions from `at` on in the
-- present work places, leave what all of them leave in those at entry.
use mathlib.Core.Path.{◌≡◌, refl}
use Prim.Native.Nat.{◌<◌, ◌+◌, ◌^◌}
use native.Mathlib.Omega.{arith}
use native.Mathlib.Numerals.{add-one}
use mathlib.Core.List.Memᴰ
use mathlib.Core.List.{◌∷◌, map}
use lib.ListN.{length, get_or, drop, length-set}
use lib.Seq.{drop-cons, drop-length}
use Rattle.claims.specs.Bounds.{sum}
use Rattle.upstream.specs.Work.{size_at}
use Rattle.order.specs.Keys.{cell_of}
use Rattle.order.specs.Places.{positioned, PositionsFit}
use Rattle.order.proofs.Placing.{fitting_next}
use Rattle.order.proofs.positions.place_donors.Goals as goal
use Rattle.order.proofs.positions.place_donors.Goals.{In-loop-key}

-- the key at the place of the turn, and those after it
rest : (c : In-loop-key)
    → drop c.loop-key.key-index c.args.keys.now ≡ get_or c.args.keys.now
    c.loop-key.key-index 0 ∷ drop (c.loop-key.key-index + 1) c.args.keys.now
rest c =
    rw (add-one c.loop-key.key-index)
    (drop-cons c.args.keys.now c.loop-key.key-index 0 c.loop-key-test.true)

fitted : (c : In-loop-key)
    → PositionsFit c.args.n c.loop-key.at
    (map cell_of (get_or c.args.keys.now c.loop-key.key-index 0 ∷ drop (c.loop-key.key-index + 1)
    c.args.keys.now)) c.loop-key.work
fitted c = rw (rest c) at c.loop-key.invariant.1

on : (c : In-loop-key)
    → cell_of (get_or c.args.keys.now c.loop-key.key-index 0) < c.args.n
on c = (fitted c).on _ (Memᴰ.head refl)

fits : (c : In-loop-key)
    → c.loop-key.at + size_at c.args.n c.loop-key.work
    (cell_of (get_or c.args.keys.now c.loop-key.key-index 0)) < 2 ^ 32
unfolding sum
fits c = let f = (fitted c).fits in omega arith

pub bounds-work-sizes : goal.bounds-work-sizes
bounds-work-sizes c =
    omega (arith, on (goal.at.bounds-work-sizes c).In-loop-key, (fitted (goal.at.bounds-work-sizes c).In-loop-key).room, (fitted (goal.at.bounds-work-sizes c).In-loop-key).small)

pub bounds-work-positions : goal.bounds-work-positions
bounds-work-positions c =
    omega (arith, on (goal.at.bounds-work-positions c).In-loop-key, (fitted (goal.at.bounds-work-positions c).In-loop-key).room, (fitted (goal.at.bounds-work-positions c).In-loop-key).small)

pub overflow_add-at : goal.overflow_add-at
overflow_add-at c = record { fits = fits (goal.at.overflow_add-at c).In-loop-key }

pub loop-key-preserved : goal.loop-key-preserved
unfolding positioned
loop-key-preserved c =
    let l = c.loop-key in (
      simp length-set l.invariant.0,
      fitting_next (fitted (goal.at.loop-key-preserved c).In-loop-key),
      (rw (rest (goal.at.loop-key-preserved c).In-loop-key) at l.invariant.2),
    )

pub returns : goal.returns
unfolding positioned
returns c =
    let l = c.loop-key in
    let keys = c.args.keys.now in
    let e : l.key-index ≡ length keys = omega arith in
    rw (e, drop-length keys) at l.invariant.2
