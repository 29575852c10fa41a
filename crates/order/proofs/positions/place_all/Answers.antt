-- `place_all` meets its contract. The invariant: the donors of the first i cells of the queue have their positions, and
-- so have the outlets.
use mathlib.Core.Path.{◌≡◌, refl, ◌∙◌}
use Prim.Native.Nat.{◌≤◌, ◌*◌}
use native.Mathlib.Omega.{arith}
use lib.ListN.{length}
use Rattle.sheet.specs.Sheet.{grid}
use Rattle.sheet.proofs.Cells.{cells_most}
use Rattle.order.specs.Places.{outlets_in, positioned, Placed}
use Rattle.order.proofs.Queued.{queue_most, outlets_first, outlets_fit, placed_none, standing, placed_more}
use Rattle.order.proofs.positions.place_all.Goals as goal
use Rattle.order.proofs.positions.place_all.Goals.{At-loop-i, Start}

most : (c : Start) → c.args.grid.rows * c.args.grid.cols ≤ 65536
most c = cells_most c.requires.measured.sized.rows_most c.requires.measured.sized.cols_most

-- the outlets have their positions
outlets-placed-At-loop-i : (c : At-loop-i)
    → let a = c.args in
    c.place_outlets.new.work ≡ positioned (a.grid.rows * a.grid.cols) 0
    (outlets_in (grid a.grid.rows a.grid.cols a.grid.dirs.now) a.work.now) a.work.now
outlets-placed-At-loop-i c = c.place_outlets.ensures ∙ (rw (outlets_first c.requires))

-- the first cells of the queue have been gone through
present : (c : At-loop-i)
    → Placed
    (grid c.args.grid.rows c.args.grid.cols
    c.args.grid.dirs.now) c.args.areas.now
    c.args.work.now c.loop-i.work
    c.args.queued c.loop-i.i
present c =
    c.loop-i.invariant.2 c.args.work.now c.requires
    (outlets-placed-At-loop-i c)

length-kept : (c : At-loop-i)
    → length c.loop-i.work ≡ length c.args.work.now
length-kept c = c.loop-i.invariant.1 ∙ c.place_outlets.auto.work

pub place_outlets-requires : goal.place_outlets-requires
place_outlets-requires c = outlets_fit c.requires

pub loop-i-init : goal.loop-i-init
loop-i-init c = (omega arith, refl, λ w s e. rw e (placed_none s))

pub offset_bounds-work-i : goal.offset_bounds-work-i
offset_bounds-work-i c =
    omega (
      arith,
      queue_most c.requires,
      most (goal.at.offset_bounds-work-i c).Start,
    )

pub bounds-work-i : goal.bounds-work-i
bounds-work-i c =
    omega (
      arith,
      queue_most c.requires,
      length-kept (goal.at.bounds-work-i c).At-loop-i,
      c.requires.room,
    )

pub place_upstream-requires-clause-standing : goal.place_upstream-requires-clause-standing
place_upstream-requires-clause-standing c =
    let at = (goal.at.place_upstream-requires-clause-standing c).At-loop-i in
    standing c.requires (present at) c.loop-i-test.true (length-kept at)

pub loop-i-preserved : goal.loop-i-preserved
loop-i-preserved c =
    let l = c.loop-i in (
      omega arith,
      c.place_upstream.auto.work ∙ l.invariant.1,
      λ w s e. placed_more s (l.invariant.2 w s e) c.loop-i-test.true
          c.place_upstream.ensures,
    )

pub returns : goal.returns
returns c =
    let e : c.loop-i.i ≡ c.args.queued = omega arith in
    rw e at (present (goal.at.returns c).At-loop-i)
