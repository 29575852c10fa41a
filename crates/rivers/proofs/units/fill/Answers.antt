-- `rivers::units::fill` meets its contract. Invariant: what is still to be filled makes of the labels what the whole
-- makes of those at entry.
use mathlib.Core.Path.{◌≡◌, sym, ap, ◌∙◌}
use Prim.Native.Nat.{ℕ, ◌*◌, ◌+◌, ◌≤◌, ◌<◌}
use native.Mathlib.Omega.{arith}
use lib.ListN.{length-set}
use Rattle.sheet.specs.Record.{label_places}
use Rattle.sheet.proofs.Slices.{places_enough}
use Rattle.rivers.proofs.Relabelled.{filled_none, filled_more}
use Rattle.rivers.proofs.units.fill.Goals as goal

-- the two numbers of a cell's label stand in the slice
room : {n m : ℕ} (cell : ℕ) → cell < label_places n → m ≡ n → 2 * cell + 1 < m
room {n} cell on e =
    let on' : cell + 1 ≤ label_places n = omega (arith, on) in
    let long = places_enough (cell + 1) n on' in
    omega (arith, e, long)

pub bounds-labels-at : goal.bounds-labels-at
bounds-labels-at c =
    let on = c.requires.by_index c.loop-j.j (omega arith) in
    omega (arith, room _ on c.loop-j.invariant.0)

pub bounds-labels-at-in-loop-j : goal.bounds-labels-at-in-loop-j
bounds-labels-at-in-loop-j c =
    let on = c.requires.by_index c.loop-j.j (omega arith) in
    simp length-set (omega (arith, room _ on c.loop-j.invariant.0))

pub loop-j-preserved : goal.loop-j-preserved
loop-j-preserved c =
    let on = c.requires.by_index c.loop-j.j (omega arith) in
    let same = ap label_places c.loop-j.invariant.0 in (
      simp length-set (omega arith),
      filled_more _ _ _ _ _ c.loop-j-test.true (omega (arith, on, same))
          ∙ c.loop-j.invariant.1,
    )

pub returns : goal.returns
returns c = sym (filled_none _ _ _ _ _ c.loop-j-test.false) ∙ c.loop-j.invariant.1
