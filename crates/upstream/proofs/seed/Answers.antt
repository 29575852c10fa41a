-- `seed` meets its contract: before each turn the outlets of the rows before it are queued.
use mathlib.Core.Path.{◌≡◌, refl, ◌∙◌}
use Prim.Native.Nat.{◌*◌}
use native.Mathlib.Omega.{arith}
use Rattle.upstream.proofs.Seeds.{seeded_start}
use Rattle.upstream.proofs.seed.Goals as goal

pub loop-row-init : goal.loop-row-init
loop-row-init c =
    let a = c.args in
    let e : 0 * a.grid.cols ≡ 0 = omega arith in
    (omega arith, refl, rw e (seeded_start _ c.requires.1), refl)

pub seed_row-end-requires : goal.seed_row-end-requires
seed_row-end-requires c =
    (c.requires.0, c.loop-row-test.true, c.loop-row.invariant.2)

pub loop-row-preserved : goal.loop-row-preserved
loop-row-preserved c =
    let l = c.loop-row in (
      omega arith,
      c.seed_row-end.auto.work ∙ l.invariant.1,
      c.seed_row-end.ensures.0,
      c.seed_row-end.ensures.1 ∙ l.invariant.3,
    )

pub shape_of-work : goal.shape_of-work
shape_of-work c = c.loop-row.invariant.1

pub returns : goal.returns
returns c =
    let e : c.loop-row.row ≡ c.args.grid.rows = omega arith in
    (rw e at c.loop-row.invariant.2, c.loop-row.invariant.3)
