-- Laws of weights: when those of the rows fit, and what that says of the weight of each cell.
use mathlib.Core.Path.{◌≡◌, refl, sym, ◌∙◌}
use mathlib.Core.Bool.{Bool, true, false, true≢false}
use mathlib.Core.List.{List}
use Prim.Native.Nat.{ℕ, zero, suc, ◌<◌, ◌≤◌}
use native.Mathlib.Decide.{ℕ_discrete}
use native.Mathlib.Omega.{arith}
use lib.ListN.{get_or}
use Rattle.sheet.specs.Sheet.{Sheet, cells}
use Rattle.sheet.specs.Area.{weight}
use Rattle.sheet.specs.Refusal.{weight_fits, weights_fit}
use Rattle.sheet.proofs.Cells.{row_lt}
use Rattle.sheet.proofs.Within.{both_true, within_both}

-- none fails yet
pub fit_none : (weights : List ℕ) → weights_fit 0 weights ≡ true
unfolding weights_fit
fit_none weights = refl

-- one row more
pub fit_more : (row : ℕ) (weights : List ℕ) → weights_fit row weights ≡ true → weight_fits (get_or weights row 0) ≡ true
    → weights_fit (suc row) weights ≡ true
unfolding weights_fit
fit_more row weights e f = rw (e, f)

-- the weight of each row fits
pub fits_at : (rows : ℕ) (weights : List ℕ) → weights_fit rows weights ≡ true → (row : ℕ) → row < rows
    → weight_fits (get_or weights row 0) ≡ true
unfolding weights_fit
fits_at zero weights e row l = absurd (omega arith)
fits_at (suc k) weights e row l =
    let b = both_true (weights_fit k weights) (weight_fits (get_or weights k 0)) e in
    elim (ℕ_discrete row k) [ yes s ↦ rw s b.1 | no d ↦ fits_at k weights b.0 row (omega arith) ]

-- weights each of which fits
pub all_fit : (rows : ℕ) (weights : List ℕ) → ((row : ℕ) → row < rows → weight_fits (get_or weights row 0) ≡ true)
    → weights_fit rows weights ≡ true
all_fit zero weights each = fit_none weights
all_fit (suc rows) weights each =
    fit_more rows weights (all_fit rows weights (λ row l. each row (omega arith))) (each rows (omega arith))

-- one row's weight that does not fit is enough
pub fits_not : (rows : ℕ) (weights : List ℕ) (row : ℕ) → row < rows → weight_fits (get_or weights row 0) ≡ false
    → weights_fit rows weights ≡ false
fits_not rows weights row l e = go (weights_fit rows weights) refl
  where
    go : (b : Bool) → weights_fit rows weights ≡ b → b ≡ false
    go true f = absurd (true≢false (sym (fits_at rows weights f row l) ∙ e))
    go false f = refl

pub weight_bounds : (weight : ℕ) → weight_fits weight ≡ true → (1 ≤ weight) × (weight ≤ 1000)
unfolding weight_fits
weight_bounds weight e = within_both 1000 weight e

-- the weight of each cell, where those of the rows fit
pub cell_weight : (S : Sheet) → 0 < S.grid.cols → weights_fit S.grid.rows S.weights ≡ true
    → (c : ℕ) → c < cells S.grid → (1 ≤ weight S c) × (weight S c ≤ 1000)
unfolding weight
cell_weight S some e c l = weight_bounds _ (fits_at S.grid.rows S.weights e _ (row_lt some l))
