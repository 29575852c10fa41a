-- `push_donor` meets its contract.
use mathlib.Core.Path.{◌≡◌, sym, ◌∙◌}
use Prim.Native.Nat.{◌+◌, ◌*◌, ◌<◌, ◌≤◌}
use native.Mathlib.Omega.{arith}
use Rattle.sheet.specs.Sheet.{grid}
use Rattle.directions.specs.Steps.{neighbour_against}
use Rattle.sheet.proofs.Cells.{cells_most, cell_lt}
use Rattle.directions.proofs.Neighbours.{neighbour_lt}
use Rattle.upstream.proofs.Queues.{end_on}
use Rattle.upstream.proofs.Spreading.{donors_off, donors_old, donors_new}
use Rattle.upstream.proofs.push_donor.Goals as goal
use Rattle.upstream.proofs.push_donor.Goals.{In-Some, Start}
use Rattle.std.specs.Prelude.{Some}

pub neighbour_against-requires : goal.neighbour_against-requires
neighbour_against-requires c = let p = c.requires in (p.0.sized, p.0.on, p.1)

pub returns-in_default : goal.returns-in_default
returns-in_default c =
    donors_off c.requires.0 _
    (sym c.neighbour_against.ensures ∙ c.in_default.is)

-- the donor, which lies on the sheet
found : (c : In-Some)
    → let a =
    c.args in neighbour_against
    (grid a.grid.rows a.grid.cols a.grid.dirs.now) a.row a.col a.k ≡ Some c.in-Some.donor
found c = sym c.neighbour_against.ensures ∙ c.in-Some.is

donor-on : (c : In-Some)
    → let a =
    c.args in c.in-Some.donor < a.grid.rows * a.grid.cols
donor-on c =
    let a = c.args in
    neighbour_lt (grid a.grid.rows a.grid.cols a.grid.dirs.now) a.row a.col a.k (found c)

-- the cell, which lies on the sheet
on_sheet_lem : (c : Start) → c.args.row * c.args.grid.cols + c.args.col < c.args.grid.rows * c.args.grid.cols
on_sheet_lem c = cell_lt c.requires.0.on.row_on c.requires.0.on.col_on

cells_fit : (c : Start) → c.args.grid.rows * c.args.grid.cols ≤ 65536
cells_fit c = cells_most c.requires.0.sized.rows_most c.requires.0.sized.cols_most

pub overflow_mul-n-2 : goal.overflow_mul-n-2
overflow_mul-n-2 c = omega (arith, donor-on c, cells_fit (goal.at.overflow_mul-n-2 c).Start)

pub overflow_add-n : goal.overflow_add-n
overflow_add-n c = omega (arith, donor-on c, cells_fit (goal.at.overflow_add-n c).Start)

pub offset_bounds-work-n : goal.offset_bounds-work-n
offset_bounds-work-n c = omega (arith, donor-on c, cells_fit (goal.at.offset_bounds-work-n c).Start)

pub bounds-work-n : goal.bounds-work-n
bounds-work-n c =
    omega (
      arith,
      donor-on (goal.at.bounds-work-n c).In-Some,
      c.requires.0.upstream.queue.room,
    )

pub overflow_mul-row : goal.overflow_mul-row
overflow_mul-row c =
    omega (
      arith,
      on_sheet_lem (goal.at.overflow_mul-row c).Start,
      cells_fit (goal.at.overflow_mul-row c).Start,
    )

pub overflow_add-row : goal.overflow_add-row
overflow_add-row c =
    omega (
      arith,
      on_sheet_lem (goal.at.overflow_add-row c).Start,
      cells_fit (goal.at.overflow_add-row c).Start,
    )

pub overflow_add-row-then-work-n-eq0 : goal.overflow_add-row-then-work-n-eq0
overflow_add-row-then-work-n-eq0 c =
    omega (
      arith,
      on_sheet_lem (goal.at.overflow_add-row-then-work-n-eq0 c).Start,
      cells_fit (goal.at.overflow_add-row-then-work-n-eq0 c).Start,
    )

pub push-requires : goal.push-requires
push-requires c =
    let q = c.requires.0.upstream.queue in
    let on = donor-on (goal.at.push-requires c).In-Some in (
      q.room,
      cells_fit (goal.at.push-requires c).Start,
      end_on q _ on c.if-work-n-eq0.true,
      on,
      omega (
        arith,
        on_sheet_lem (goal.at.push-requires c).Start,
      ),
    )

pub returns-then-work-n-eq0 : goal.returns-then-work-n-eq0
returns-then-work-n-eq0 c =
    rw (
      c.push.ensures.0,
      c.push.ensures.1,
    ) (donors_new c.requires.0 _
    (found (goal.at.returns-then-work-n-eq0 c).In-Some)
    c.requires.1
    c.if-work-n-eq0.true)

pub returns-else-work-n-eq0 : goal.returns-else-work-n-eq0
returns-else-work-n-eq0 c =
    donors_old c.requires.0 _ (found (goal.at.returns-else-work-n-eq0 c).In-Some)
    (omega (arith, c.if-work-n-eq0.false))
