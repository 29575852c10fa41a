-- Laws of size lines, weight lines and cell lines, as a reader that has the sizes, the weight or the cell in hand uses
-- them.
use mathlib.Core.Path.{◌≡◌, refl, sym, ap, ◌∙◌}
use mathlib.Core.Bool.{true, false}
use mathlib.Core.List.{List}
use Prim.Native.Nat.{ℕ, zero, suc, ◌+◌}
use native.Mathlib.Omega.{arith}
use lib.ListN.{length}
use borrow.Author.Tests.{eq-eqb, ne_eqb}
use Rattle.lines.specs.Values.{first_value}
use Rattle.std.proofs.Common.{Some}
use Rattle.std.specs.Prelude.{Err}
use Rattle.sheet.specs.declared.Refusal.{Refusal}
use Rattle.lines.specs.declared.columns.Columns.{Columns}
use Rattle.lines.specs.declared.values.Values.{Values}
use Rattle.sheet.specs.Refusal.{weight_fits}
use Rattle.faults.specs.declared.Sizes.{Sizes}
use Rattle.faults.specs.declared.Cell.{Cell}
use Rattle.faults.specs.Faults.{sizes_in, cell_in, sizes_fault, weight_fault, cell_fault}
use Rattle.faults.proofs.FaultLaws.{weight_good}
use Rattle.intake.specs.declared.Stage.{Stage}
use Rattle.intake.specs.declared.Stage.TheVariants.{WaitingForSizes, WaitingForWeightOrCellNames}
use Rattle.intake.specs.declared.Stage.TheVariants.{WaitingForWeight, TakingCells}
use Rattle.intake.specs.declared.Intake.{Intake}
use Rattle.intake.specs.Intake.{LentSheet, After, accept, refuse, unless, sizes_written, weight_written}
use Rattle.intake.specs.Intake.{cell_written, on_sizes, after_weights, on_weight, on_cells, state_fault, line_in}
use Rattle.intake.specs.Intake.{line_after}
use Rattle.sheet.specs.Answer.{Accepted}

module _ {fault : ℕ} (stage : Stage) (lent : LentSheet) (next : After) where
  pub unless_none : fault ≡ 0 → unless fault stage lent next ≡ next
  unfolding unless
  unless_none e = rw (eq-eqb fault 0 e)

  pub unless_some : (fault ≡ 0 → ⊥) → unless fault stage lent next ≡ refuse stage lent fault
  unfolding unless
  unless_some n = rw (ne_eqb fault 0 n)

pub accepted_not_refused : {refusal : Refusal} → Accepted ≡ Err refusal → ⊥
accepted_not_refused e = cc

-- what is accepted has no fault
pub unless_accepted : (fault : ℕ) (stage : Stage) (lent : LentSheet) (next : After)
    → (unless fault stage lent next).taken.outcome ≡ Accepted → fault ≡ 0
unless_accepted zero stage lent next e = refl
unless_accepted (suc n) stage lent next e =
    let is = unless_some {fault = suc n} stage lent next (λ z. omega arith) in
    absurd (accepted_not_refused (sym e ∙ ap (λ (a : After). a.taken.outcome) is))

-- the sizes z of a size line
module _ (c : Columns) (v : Values) (lent : LentSheet) {z : Sizes} (is : z ≡ sizes_in c v) where
  abbrev fault : ℕ
  fault = sizes_fault z (length lent.dirs) (length lent.weights)

  sizes_line_lem : on_sizes c (Some v) lent ≡ unless fault (WaitingForSizes c) lent
      (accept (WaitingForWeightOrCellNames z) (sizes_written z lent))
  unfolding on_sizes
  sizes_line_lem = rw is

  pub sizes_accepted : fault ≡ 0
      → on_sizes c (Some v) lent ≡ accept (WaitingForWeightOrCellNames z) (sizes_written z lent)
  sizes_accepted e = sizes_line_lem ∙ unless_none _ _ _ e

  pub sizes_refused : (fault ≡ 0 → ⊥) → on_sizes c (Some v) lent ≡ refuse (WaitingForSizes c) lent fault
  sizes_refused n = sizes_line_lem ∙ unless_some _ _ _ n

  pub sizes_none : (on_sizes c (Some v) lent).taken.outcome ≡ Accepted → fault ≡ 0
  sizes_none e =
      unless_accepted fault (WaitingForSizes c) lent _ (sym (ap (λ (a : After). a.taken.outcome) sizes_line_lem) ∙ e)

-- the weight of a weight line
module _ (z : Sizes) (row : ℕ) (v : Values) (lent : LentSheet) where
  pub weight_accepted : weight_fits (first_value v) ≡ true
      → on_weight z row (Some v) lent ≡ accept (after_weights z (row + 1)) (weight_written row (first_value v) lent)
  unfolding on_weight weight_fault
  weight_accepted e = rw e

  pub weight_refused : weight_fits (first_value v) ≡ false
      → on_weight z row (Some v) lent ≡ refuse (WaitingForWeight z row) lent 17
  unfolding on_weight weight_fault
  weight_refused e = rw e

  pub weight_fits_lem : (on_weight z row (Some v) lent).taken.outcome ≡ Accepted → weight_fits (first_value v) ≡ true
  unfolding on_weight
  weight_fits_lem e = weight_good (first_value v) (unless_accepted (weight_fault (first_value v)) (WaitingForWeight z row) lent _ e)

-- the cell x of a cell line
module _ (z : Sizes) (c : Columns) (v : Values) (lent : LentSheet) {x : Cell} (is : x ≡ cell_in c v) where
  cell_line_lem : on_cells z c (Some v) lent ≡ unless (cell_fault z x lent.dirs) (TakingCells z c) lent
      (accept (TakingCells z c) (cell_written z x lent))
  unfolding on_cells
  cell_line_lem = rw is

  pub cell_accepted : cell_fault z x lent.dirs ≡ 0
      → on_cells z c (Some v) lent ≡ accept (TakingCells z c) (cell_written z x lent)
  cell_accepted e = cell_line_lem ∙ unless_none _ _ _ e

  pub cell_refused : (cell_fault z x lent.dirs ≡ 0 → ⊥)
      → on_cells z c (Some v) lent ≡ refuse (TakingCells z c) lent (cell_fault z x lent.dirs)
  cell_refused n = cell_line_lem ∙ unless_some _ _ _ n

  pub cell_none : (on_cells z c (Some v) lent).taken.outcome ≡ Accepted → cell_fault z x lent.dirs ≡ 0
  cell_none e =
      unless_accepted (cell_fault z x lent.dirs) (TakingCells z c) lent _
      (sym (ap (λ (a : After). a.taken.outcome) cell_line_lem) ∙ e)

-- a line in a state
module _ (i : Intake) (line : List ℕ) (lent : LentSheet) where
  pub line_good : state_fault i.stage (length lent.dirs) (length lent.weights) ≡ 0
      → line_after i line lent ≡ line_in i.stage line lent
  unfolding line_after
  line_good e = unless_none _ _ _ e

  pub line_fault : (state_fault i.stage (length lent.dirs) (length lent.weights) ≡ 0 → ⊥)
      → line_after i line lent
      ≡ refuse i.stage lent (state_fault i.stage (length lent.dirs) (length lent.weights))
  unfolding line_after
  line_fault n = unless_some _ _ _ n

  pub line_none : (line_after i line lent).taken.outcome ≡ Accepted
      → state_fault i.stage (length lent.dirs) (length lent.weights) ≡ 0
  unfolding line_after
  line_none e =
      unless_accepted (state_fault i.stage (length lent.dirs) (length lent.weights)) i.stage lent
      (line_in i.stage line lent) e
