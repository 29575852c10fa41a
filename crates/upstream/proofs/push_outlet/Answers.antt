-- `push_outlet` meets its contract.
use mathlib.Core.Path.{◌≡◌, refl, sym, ◌∙◌}
use mathlib.Core.Bool.{true}
use Prim.Native.Nat.{ℕ, ◌+◌, ◌*◌, ◌<◌, ◌≤◌}
use native.Mathlib.Omega.{arith}
use Rattle.sheet.specs.Sheet.{grid, is_outlet}
use Rattle.sheet.proofs.Cells.{cells_most, cell_lt}
use Rattle.upstream.proofs.Queues.{end_on}
use Rattle.upstream.proofs.Seeds.{seed_free, seed_grown, seeded_none, seeded_push}
use Rattle.upstream.proofs.push_outlet.Goals as goal
use Rattle.upstream.proofs.push_outlet.Goals.{Start, Then-is_outlet}

abbrev cell : Start → ℕ
cell c = c.args.row * c.args.grid.cols + c.args.col

abbrev cell-Then-is_outlet : Then-is_outlet → ℕ
cell-Then-is_outlet c = c.args.row * c.args.grid.cols + c.args.col

on_sheet_lem : (c : Start) → cell c < c.args.grid.rows * c.args.grid.cols
on_sheet_lem c = cell_lt c.requires.1.row_on c.requires.1.col_on

cells_fit : (c : Start) → c.args.grid.rows * c.args.grid.cols ≤ 65536
cells_fit c = cells_most c.requires.0.rows_most c.requires.0.cols_most

pub overflow_mul-row : goal.overflow_mul-row
overflow_mul-row c =
    omega (
      arith,
      on_sheet_lem (goal.at.overflow_mul-row c).Start,
      cells_fit (goal.at.overflow_mul-row c).Start,
    )

pub overflow_add-row : goal.overflow_add-row
overflow_add-row c =
    omega (
      arith,
      on_sheet_lem (goal.at.overflow_add-row c).Start,
      cells_fit (goal.at.overflow_add-row c).Start,
    )

is : (c : Then-is_outlet)
    → let a =
    c.args in is_outlet (grid a.grid.rows a.grid.cols a.grid.dirs.now)
    (cell-Then-is_outlet c) ≡ true
is c = sym c.is_outlet.ensures ∙ c.if-is_outlet.true

pub push-requires : goal.push-requires
push-requires c =
    let s = c.requires.2 in
    let on = on_sheet_lem (goal.at.push-requires c).Start in (
      s.upstream.queue.room,
      cells_fit (goal.at.push-requires c).Start,
      end_on s.upstream.queue _ on (seed_free _ s on (is (goal.at.push-requires c).Then-is_outlet)),
      on,
      omega arith,
    )

pub returns-then-is_outlet : goal.returns-then-is_outlet
returns-then-is_outlet c =
    let s = c.requires.2 in
    let on = on_sheet_lem (goal.at.returns-then-is_outlet c).Start in
    rw (
      c.push.ensures.0,
      c.push.ensures.1,
    ) (
      seeded_push _ s on (is (goal.at.returns-then-is_outlet c).Then-is_outlet),
      (seed_grown _ s on (is (goal.at.returns-then-is_outlet c).Then-is_outlet)).kept,
    )

pub returns-else-is_outlet : goal.returns-else-is_outlet
returns-else-is_outlet c = (
  seeded_none _ c.requires.2 (sym c.is_outlet.ensures ∙ c.if-is_outlet.false),
  refl,
)
