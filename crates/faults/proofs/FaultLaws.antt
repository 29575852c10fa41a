-- Laws of the faults of sizes, rows, weights and cells: what holds where there is none.
use mathlib.Core.Path.{◌≡◌, refl, sym, ◌∙◌}
use mathlib.Core.Bool.{Bool, true, false, cond}
use mathlib.Core.List.{List, [], ◌∷◌}
use Prim.Native.Nat.{ℕ, zero, suc, ◌+◌, ◌*◌, ◌^◌, ◌<◌, ◌≤◌}
use native.Mathlib.Omega.{arith}
use lib.Dec.{leb, ltb, eqb}
use lib.ListN.{length}
use borrow.Author.Tests.{leb-true, ltb-true, lt-ltb, le-ltb, eqb-true, eq-eqb, ne_eqb}
use Rattle.sheet.specs.declared.Step.{Step}
use Rattle.sheet.specs.Direction.{steps, step_in, step_of, is_code, cell_number}
use Rattle.sheet.specs.Refusal.{both, within, sizes_fit, depth_fits, least_and_split_fit, weight_fits}
use Rattle.sheet.proofs.Cells.{cells_most, cell_lt}
use Rattle.sheet.proofs.Within.{both_true, within_both, least_bounds, split_bounds}
use Rattle.directions.specs.Sizes.{Sized}
use Rattle.faults.specs.declared.Sizes.{Sizes}
use Rattle.faults.specs.declared.Cell.{Cell}
use Rattle.faults.specs.Faults.{cell_count, lent_enough, sizes_fault, row_fault, weight_fault, on_sheet}
use Rattle.faults.specs.Faults.{cell_fault}

-- a fault that is not given: its test is passed, and so are the later ones
passed : (t : Bool) (rest number : ℕ) → 0 < number → cond t rest number ≡ 0 → (t ≡ true) × (rest ≡ 0)
passed true rest number some e = (refl, e)
passed false rest number some e = absurd (omega arith)

-- ---- sizes

-- sizes within the documents' bounds, with a direction byte lent for each cell and a weight for each row
pub record Fits (z : Sizes) (dirs weights : ℕ) : Type 0 where
  pub rows_some : 1 ≤ z.rows
  pub rows_most : z.rows ≤ 256
  pub cols_some : 1 ≤ z.cols
  pub cols_most : z.cols ≤ 256
  pub depth_some : 1 ≤ z.depth
  pub depth_most : z.depth ≤ 36
  pub least_some : 1 ≤ z.least
  pub least_most : z.least ≤ 65536000
  pub split_some : 1 ≤ z.split
  pub split_most : z.split ≤ 4
  pub dirs_enough : cell_count z ≤ dirs
  pub weights_enough : z.rows ≤ weights

module _ (z : Sizes) (dirs weights : ℕ) where
  pub sizes_fit_lem : sizes_fault z dirs weights ≡ 0 → Fits z dirs weights
  unfolding sizes_fault sizes_fit depth_fits lent_enough
  sizes_fit_lem e =
      let one = passed (sizes_fit z.rows z.cols) _ 1 (omega arith) e in
      let two = passed (depth_fits z.depth) _ 2 (omega arith) one.1 in
      let nineteen = passed (least_and_split_fit z.least z.split) _ 19 (omega arith) two.1 in
      let three = passed (lent_enough z dirs weights) _ 3 (omega arith) nineteen.1 in
      let fit = both_true (within 256 z.rows) (within 256 z.cols) one.0 in
      let rows = within_both 256 z.rows fit.0 in
      let cols = within_both 256 z.cols fit.1 in
      let depth = within_both 36 z.depth two.0 in
      let least = least_bounds z.least z.split nineteen.0 in
      let split = split_bounds z.least z.split nineteen.0 in
      let lent = both_true (leb (cell_count z) dirs) (leb z.rows weights) three.0 in
      record {
        rows_some = rows.0;
        rows_most = rows.1;
        cols_some = cols.0;
        cols_most = cols.1;
        depth_some = depth.0;
        depth_most = depth.1;
        least_some = least.0;
        least_most = least.1;
        split_some = split.0;
        split_most = split.1;
        dirs_enough = leb-true (cell_count z) dirs lent.0;
        weights_enough = leb-true z.rows weights lent.1;
      }

  -- a row is judged after the sizes
  module _ (row : ℕ) where
    -- the first of the four tests that fails, and else a number
    abbrev first : Bool → Bool → Bool → Bool → ℕ → ℕ
    first one two nineteen three rest = cond one (cond two (cond nineteen (cond three rest 3) 19) 2) 1

    row_fault_is : row_fault z row dirs weights
        ≡ cond (eqb (sizes_fault z dirs weights) 0) (cond (ltb row z.rows) 0 9) (sizes_fault z dirs weights)
    unfolding row_fault sizes_fault
    row_fault_is =
        go (sizes_fit z.rows z.cols) (depth_fits z.depth) (least_and_split_fit z.least z.split)
        (lent_enough z dirs weights) (cond (ltb row z.rows) 0 9)
      where
        go : (one two nineteen three : Bool) (rest : ℕ) → first one two nineteen three rest
            ≡ cond (eqb (first one two nineteen three 0) 0) rest (first one two nineteen three 0)
        go true true true true rest = refl
        go true true true false rest = refl
        go true true false three rest = refl
        go true false nineteen three rest = refl
        go false two nineteen three rest = refl

    pub row_within : sizes_fault z dirs weights ≡ 0 → row < z.rows → row_fault z row dirs weights ≡ 0
    row_within e l = row_fault_is ∙ rw (eq-eqb _ 0 e, lt-ltb row z.rows l)

    pub row_outside : sizes_fault z dirs weights ≡ 0 → z.rows ≤ row → row_fault z row dirs weights ≡ 9
    row_outside e l = row_fault_is ∙ rw (eq-eqb _ 0 e, le-ltb row z.rows l)

    pub row_sizes : (sizes_fault z dirs weights ≡ 0 → ⊥) → row_fault z row dirs weights ≡ sizes_fault z dirs weights
    row_sizes n = row_fault_is ∙ rw (ne_eqb _ 0 n)

    pub row_good : row_fault z row dirs weights ≡ 0 → (sizes_fault z dirs weights ≡ 0) × (row < z.rows)
    row_good e = go (sizes_fault z dirs weights) refl (sym row_fault_is ∙ e)
      where
        go : (fault : ℕ) → sizes_fault z dirs weights ≡ fault
            → cond (eqb fault 0) (cond (ltb row z.rows) 0 9) fault ≡ 0
            → (sizes_fault z dirs weights ≡ 0) × (row < z.rows)
        go zero is e = (is, ltb-true row z.rows (passed (ltb row z.rows) 0 9 (omega arith) e).0)
        go (suc n) is e = absurd (omega (arith, rw (ne_eqb (suc n) 0 (λ z. omega arith)) at e))

-- sizes that fit, as steps that know no depth and no weights ask for them
pub fits_sized : {z : Sizes} {dirs : List ℕ} {weights : ℕ} → Fits z (length dirs) weights
    → Sized z.rows z.cols dirs
fits_sized f = record {
  rows_most = f.rows_most;
  cols_most = f.cols_most;
  cols_some = f.cols_some;
  long = f.dirs_enough;
}

-- ---- weights

-- a weight without a fault is from 1 to 1000
pub weight_good : (weight : ℕ) → weight_fault weight ≡ 0 → weight_fits weight ≡ true
unfolding weight_fault
weight_good weight e = (passed (weight_fits weight) 0 17 (omega arith) e).0

-- ---- codes

codes_most : List Step → Bool
codes_most [] = true
codes_most (s ∷ ss) = both (leb s.code 128) (codes_most ss)

in_most : (l : List Step) (dir : ℕ) → codes_most l ≡ true → (step_in l dir).code ≤ 128
unfolding codes_most step_in
in_most [] dir e = omega arith
in_most (s ∷ ss) dir e =
    let w = both_true (leb s.code 128) (codes_most ss) e in
    go (eqb s.code dir) (leb-true s.code 128 w.0) (in_most ss dir w.1)
  where
    go : (t : Bool) → s.code ≤ 128 → (step_in ss dir).code ≤ 128 → (cond t s (step_in ss dir)).code ≤ 128
    go true h k = h
    go false h k = k

code_most : (dir : ℕ) → is_code dir ≡ true → dir ≤ 128
unfolding is_code step_of codes_most
code_most dir e = omega (arith, eqb-true (step_of dir).code dir e, in_most steps dir refl)

-- a number that is no byte is no code
pub code_none : (dir : ℕ) → 256 ≤ dir → is_code dir ≡ false
code_none dir h = go (is_code dir) refl
  where
    go : (t : Bool) → is_code dir ≡ t → is_code dir ≡ false
    go true e = absurd (omega (arith, code_most dir e))
    go false e = e

-- ---- a cell

-- a cell whose direction byte is lent, with a small number
pub record Placed (z : Sizes) (x : Cell) (dirs : List ℕ) : Type 0 where
  pub byte_lent : cell_number z.cols x.row x.col < length dirs
  pub number_small : cell_number z.cols x.row x.col < 65536

-- a row and a column of the sheet
pub on_sheet_both : (z : Sizes) (x : Cell) → on_sheet z x ≡ true → (x.row < z.rows) × (x.col < z.cols)
unfolding on_sheet
on_sheet_both z x e =
    let on = both_true (ltb x.row z.rows) (ltb x.col z.cols) e in
    (ltb-true x.row z.rows on.0, ltb-true x.col z.cols on.1)

pub on_sheet_placed : (z : Sizes) (x : Cell) (dirs : List ℕ) → Sized z.rows z.cols dirs → on_sheet z x ≡ true
    → Placed z x dirs
on_sheet_placed z x dirs f e =
    let on = on_sheet_both z x e in
    let number : cell_number z.cols x.row x.col < cell_count z = cell_lt on.0 on.1 in
    let count : cell_count z ≤ 65536 = cells_most f.rows_most f.cols_most in
    record { byte_lent = omega (arith, f.long); number_small = omega arith }

-- a cell without a fault stands on the sheet and has a code
pub cell_good : (z : Sizes) (x : Cell) (dirs : List ℕ) → cell_fault z x dirs ≡ 0 → (on_sheet z x ≡ true) × (x.dir ≤ 128)
unfolding cell_fault
cell_good z x dirs e =
    let nine = passed (on_sheet z x) _ 9 (omega arith) e in
    let four = passed (is_code x.dir) _ 4 (omega arith) nine.1 in
    (nine.0, code_most x.dir four.0)

-- a cell without a fault can be written: what its line sets is a byte, and the place is lent
pub code_fits : (z : Sizes) (x : Cell) (dirs : List ℕ) → cell_fault z x dirs ≡ 0 → x.dir < 256
code_fits z x dirs e = omega (arith, (cell_good z x dirs e).1)

module _ (z : Sizes) (x : Cell) (dirs : List ℕ) (s : Sized z.rows z.cols dirs) (e : cell_fault z x dirs ≡ 0) where
  placed : Placed z x dirs
  placed = on_sheet_placed z x dirs s (cell_good z x dirs e).0

  pub row_fits : x.row * z.cols < 2 ^ 64
  row_fits = omega (arith, placed.number_small)

  pub number_fits_lem : x.row * z.cols + x.col < 2 ^ 64
  number_fits_lem = omega (arith, placed.number_small)

  pub byte_lent : cell_number z.cols x.row x.col < length dirs
  byte_lent = placed.byte_lent
