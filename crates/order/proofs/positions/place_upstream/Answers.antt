use Prim.Native.Nat.{◌<◌, ◌*◌}
use native.Mathlib.Omega.{arith}
use Rattle.sheet.proofs.Cells.{inside_lt}
use Rattle.order.proofs.Listed.{listed_first}
use Rattle.order.proofs.Standing.{none_placed, key_cells, fitting, donors_placed}
use Rattle.order.proofs.positions.place_upstream.Goals as goal
use Rattle.order.proofs.positions.place_upstream.Goals.{Start}

on : (c : Start) → c.args.cell < c.args.grid.rows * c.args.grid.cols
on c = inside_lt _ _ c.requires.standing.is_inside_lem

pub overflow_add-n : goal.overflow_add-n
overflow_add-n c = omega (arith, on (goal.at.overflow_add-n c).Start, c.requires.standing.room)

pub offset_bounds-work-n : goal.offset_bounds-work-n
offset_bounds-work-n c = omega (arith, on (goal.at.offset_bounds-work-n c).Start, c.requires.standing.room)

pub bounds-work-n : goal.bounds-work-n
bounds-work-n c =
    omega (arith, on (goal.at.bounds-work-n c).Start, c.requires.standing.room)

pub returns-then-work-n-eq1 : goal.returns-then-work-n-eq1
returns-then-work-n-eq1 c = none_placed c.requires.standing c.if-work-n-eq1.true

pub overflow_add-first : goal.overflow_add-first
overflow_add-first c =
    omega (
      arith,
      on (goal.at.overflow_add-first c).Start,
      c.requires.standing.room,
    )

pub offset_bounds-work-n-2 : goal.offset_bounds-work-n-2
offset_bounds-work-n-2 c =
    omega (
      arith,
      on (goal.at.offset_bounds-work-n-2 c).Start,
      c.requires.standing.room,
    )

pub bounds-work-n-2 : goal.bounds-work-n-2
bounds-work-n-2 c =
    omega (
      arith,
      on (goal.at.bounds-work-n-2 c).Start,
      c.requires.standing.room,
    )

pub place_donors-requires : goal.place_donors-requires
place_donors-requires c =
    rw (listed_first c.donors_of-count.ensures, key_cells c.requires.measured c.requires.standing)
    (fitting c.requires.measured c.requires.standing)

pub returns : goal.returns
returns c =
    rw (
      c.place_donors.ensures,
      listed_first c.donors_of-count.ensures,
      key_cells c.requires.measured c.requires.standing,
    ) (donors_placed c.requires.measured c.requires.standing)
