-- `own_weights` meets its contract: before each turn the cells of the rows before it are written.
use mathlib.Core.Path.{◌≡◌, ◌∙◌, ap}
use mathlib.Core.List.{List}
use Prim.Native.Nat.{ℕ, ◌+◌, ◌*◌, ◌-◌, ◌≤◌, ◌<◌}
use native.Mathlib.Nat.{mul-le-mul_right, zero-mul}
use native.Mathlib.Omega.{arith}
use lib.ListN.{length, get_or, take, drop, length-drop}
use lib.Seq.{take_all, get_or-drop}
use borrow.Rule.Slice.PartMut.{put_mid}
use Rattle.sheet.proofs.Cells.{cells_most, cell_row, row_end}
use Rattle.sheet.specs.Area.{row_weight}
use Rattle.drainage.specs.Total.{own_values}
use Rattle.drainage.proofs.Lists.{filled, filled_none, filled_part, filled_long, filled_written}
use Rattle.drainage.proofs.measure.own_weights.Goals as goal
use Rattle.drainage.proofs.measure.own_weights.Goals.{After-loop-row, In-loop-row}

-- the row under way ends on the sheet
row_on : (c : In-loop-row)
    → let a = c.args in c.loop-row.row * a.grid.cols + a.grid.cols ≤ a.grid.rows * a.grid.cols
row_on c =
    let a = c.args in
    let l : c.loop-row.row + 1 ≤ a.grid.rows = omega (arith, c.loop-row-test.true) in
    rw (row_end c.loop-row.row a.grid.cols) (mul-le-mul_right a.grid.cols l)

few : (c : In-loop-row) → let a = c.args in a.grid.rows * a.grid.cols ≤ 65536
few c = let p = c.requires in cells_most p.0.rows_most p.0.cols_most

long : (c : In-loop-row) → length c.loop-row.totals ≡ length c.args.totals.now
long c =
    let a = c.args in
    let l = c.loop-row in
    ap length l.invariant.1
    ∙ filled_long (own_values a.grid.dirs.now (row_weight a.grid.cols a.weights.now)) (l.row * a.grid.cols) a.totals.now
    (omega (arith, row_on c, c.requires.2))

pub loop-row-init : goal.loop-row-init
loop-row-init c = (omega arith, rw (zero-mul c.args.grid.cols) (filled_none _ _))

pub overflow_mul-first : goal.overflow_mul-first
overflow_mul-first c = record { fits = omega (arith, row_on c, few c) }

pub slice_bounds-own_values-count : goal.slice_bounds-own_values-count
slice_bounds-own_values-count c = omega (arith, row_on (goal.at.slice_bounds-own_values-count c).In-loop-row, c.requires.0.long)

pub slice_bounds-own_values-start : goal.slice_bounds-own_values-start
slice_bounds-own_values-start c = omega (arith, row_on (goal.at.slice_bounds-own_values-start c).In-loop-row, c.requires.0.long)

pub bounds-weights-row : goal.bounds-weights-row
bounds-weights-row c = omega (arith, c.requires.1)

pub overflow_cast-weights : goal.overflow_cast-weights
overflow_cast-weights c = omega (arith, c.type_inv.weights c.loop-row.row)

pub offset_bounds-totals-first : goal.offset_bounds-totals-first
offset_bounds-totals-first c = record { fits = omega (arith, row_on (goal.at.offset_bounds-totals-first c).In-loop-row, few (goal.at.offset_bounds-totals-first c).In-loop-row) }

pub slice_bounds-own_values-count-in-loop-row : goal.slice_bounds-own_values-count-in-loop-row
slice_bounds-own_values-count-in-loop-row c = omega (arith, row_on (goal.at.slice_bounds-own_values-count-in-loop-row c).In-loop-row, long (goal.at.slice_bounds-own_values-count-in-loop-row c).In-loop-row, c.requires.2)

pub slice_bounds-own_values-start-in-loop-row : goal.slice_bounds-own_values-start-in-loop-row
slice_bounds-own_values-start-in-loop-row c = omega (arith, row_on (goal.at.slice_bounds-own_values-start-in-loop-row c).In-loop-row, long (goal.at.slice_bounds-own_values-start-in-loop-row c).In-loop-row, c.requires.2)

-- the rest of a slice from a place on has room for what fits before its end
rest-long : (first count : ℕ) (l : List ℕ) → first + count ≤ length l
    → count ≤ length (take (length l - first) (drop first l))
rest-long first count l h =
    rw (take_all (length l - first) (drop first l) (omega (arith, length-drop first l)))
    (omega (arith, length-drop first l))

pub own_values-requires : goal.own_values-requires
own_values-requires c =
    let a = c.args in
    let first = c.loop-row.row * a.grid.cols in (
      rest-long first a.grid.cols a.grid.dirs.now (omega (arith, row_on (goal.at.own_values-requires c).In-loop-row, c.requires.0.long)),
      rest-long first a.grid.cols c.loop-row.totals (omega (arith, row_on (goal.at.own_values-requires c).In-loop-row, long (goal.at.own_values-requires c).In-loop-row, c.requires.2)),
    )

-- what the cells of the row add, by their places in the row
row-values : (dirs weights : List ℕ) (row cols : ℕ) (k : ℕ) → k < cols
    → own_values (take (length dirs - row * cols) (drop (row * cols) dirs)) (λ c. get_or weights row 0) k
    ≡ own_values dirs (row_weight cols weights) (row * cols + k)
row-values dirs weights row cols k l =
    let first = row * cols in
    let e = take_all (length dirs - first) (drop first dirs) (omega (arith, length-drop first dirs)) in
    rw (e, get_or-drop first dirs k 0, cell_row row l)

pub loop-row-preserved : goal.loop-row-preserved
loop-row-preserved c =
    let a = c.args in
    let l = c.loop-row in
    let first = l.row * a.grid.cols in (
      omega arith,
      ap (put_mid first (length l.totals - first) l.totals) c.own_values.ensures
          ∙ filled_part (own_values a.grid.dirs.now (row_weight a.grid.cols a.weights.now)) _ first a.grid.cols
          a.totals.now l.totals (omega (arith, row_on (goal.at.loop-row-preserved c).In-loop-row, c.requires.2)) l.invariant.1
          (row-values a.grid.dirs.now a.weights.now l.row a.grid.cols)
          ∙ ap (λ (k : ℕ). filled (own_values a.grid.dirs.now (row_weight a.grid.cols a.weights.now)) k a.totals.now)
          (row_end l.row a.grid.cols),
    )

-- after the last row
whole : (c : After-loop-row)
    → let a =
    c.args in c.loop-row.totals ≡ filled
    (own_values a.grid.dirs.now (row_weight a.grid.cols a.weights.now)) (a.grid.rows * a.grid.cols) a.totals.now
whole c =
    let l = c.loop-row in
    let e : l.row ≡ c.args.grid.rows = omega arith in
    rw e at l.invariant.1

pub shape_of-totals : goal.shape_of-totals
shape_of-totals c =
    let a = c.args in
    ap length (whole c)
    ∙ filled_long (own_values a.grid.dirs.now (row_weight a.grid.cols a.weights.now)) (a.grid.rows * a.grid.cols)
    a.totals.now c.requires.2

pub returns : goal.returns
returns c = whole c ∙ filled_written _ _ _
