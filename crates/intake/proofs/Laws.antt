-- Laws of the intake, for every state, line and lent slices: what a refused line leaves, what an accepted line leaves,
-- and the sizes that a state holds.
use mathlib.Core.Path.{◌≡◌, refl, sym, ap, ◌∙◌, subst}
use mathlib.Core.Bool.{Bool, true, false, cond}
use mathlib.Core.List.{List}
use mathlib.Core.Logic.{◌⊎◌, inl, inr}
use Prim.Native.Nat.{ℕ, zero, suc, ◌+◌, ◌<◌, ◌≤◌}
use native.Mathlib.Omega.{arith}
use borrow.Author.Tests.{ltb-true}
use lib.Dec.{ltb}
use lib.ListN.{length, length-append, length-replicate, length-drop, length-set}
use Rattle.std.proofs.Common.{Some, None}
use Rattle.std.specs.Prelude.{Err}
use Rattle.sheet.specs.declared.Refusal.{Refusal as AnyRefusal}
use Rattle.names.specs.Names.{NamesLine}
use Rattle.lines.specs.declared.columns.Columns.{Columns}
use Rattle.lines.specs.Values.{first_value, ValuesLine}
use Rattle.names.specs.Columns.{weight_columns, cell_columns}
use Rattle.names.specs.Names.{names_line, size_names_line}
use Rattle.lines.specs.Values.{values_line}
use Rattle.faults.specs.declared.Sizes.{Sizes}
use Rattle.faults.specs.declared.Cell.{Cell}
use Rattle.faults.specs.Faults.{sizes_in, cell_in, sizes_fault, row_fault, weight_fault, cell_fault}
use Rattle.faults.proofs.FaultLaws.{Fits, sizes_fit_lem, row_within, row_good}
use Rattle.intake.specs.declared.Stage.{Stage}
use Rattle.intake.specs.declared.Stage.TheVariants.{WaitingForSizeNames, WaitingForSizes}
use Rattle.intake.specs.declared.Stage.TheVariants.{WaitingForWeightOrCellNames, WaitingForWeight}
use Rattle.intake.specs.declared.Stage.TheVariants.{WaitingForCellNames, TakingCells, Ended}
use Rattle.intake.specs.declared.Intake.{Intake}
use Rattle.intake.specs.Intake.{taken_values, LentSheet, After, keep, accept, refuse, unless, first_set}
use Rattle.intake.specs.Intake.{sizes_written, weight_written, cell_written, on_size_names, on_sizes, on_cell_names}
use Rattle.intake.specs.Intake.{on_weight_or_cell_names, after_weights, on_weight, on_cells, state_fault, line_in}
use Rattle.intake.specs.Intake.{line_after, end_in, end_taken, new_intake}
use Rattle.intake.proofs.LineLaws.{unless_none, unless_some, accepted_not_refused}
use Rattle.sheet.proofs.Answer.{same_number}
use Rattle.sheet.specs.Answer.{Accepted}

-- the stages in the order of a file with weights
abbrev pub stage_number : Stage → ℕ
stage_number WaitingForSizeNames = 0
stage_number (WaitingForSizes c) = 1
stage_number (WaitingForWeightOrCellNames z) = 2
stage_number (WaitingForWeight z row) = 3
stage_number (WaitingForCellNames z) = 4
stage_number (TakingCells z c) = 5
stage_number (Ended z) = 6

-- the fault of a state, by what is lent
abbrev pub fault_of : Stage → LentSheet → ℕ
fault_of stage lent = state_fault stage (length lent.dirs) (length lent.weights)

-- The fault of what a stage holds, ended or not: 1, 2, 19, 3 of the sizes, if it holds any, then 9 of the row whose
-- weight it waits for.
abbrev pub held_fault : Stage → ℕ → ℕ → ℕ
held_fault WaitingForSizeNames dirs weights = 0
held_fault (WaitingForSizes c) dirs weights = 0
held_fault (WaitingForWeightOrCellNames z) dirs weights = sizes_fault z dirs weights
held_fault (WaitingForWeight z row) dirs weights = row_fault z row dirs weights
held_fault (WaitingForCellNames z) dirs weights = sizes_fault z dirs weights
held_fault (TakingCells z c) dirs weights = sizes_fault z dirs weights
held_fault (Ended z) dirs weights = sizes_fault z dirs weights

abbrev pub held_fault_of : Stage → LentSheet → ℕ
held_fault_of stage lent = held_fault stage (length lent.dirs) (length lent.weights)

-- as many direction bytes and as many weights
pub record AsLong (new lent : LentSheet) : Type 0 where
  pub dirs_long : length new.dirs ≡ length lent.dirs
  pub weights_long : length new.weights ≡ length lent.weights

-- a refusal returns the state that it got, and writes nothing
pub record Refusal (stage : Stage) (lent : LentSheet) (a : After) : Type 0 where
  pub number : ℕ
  pub number_some : 0 < number
  pub is : a ≡ refuse stage lent number

-- an accepted line goes back no stage, keeps the lengths of the slices, and leaves a state without a fault
pub record Acceptance (stage : Stage) (lent : LentSheet) (a : After) : Type 0 where
  pub next : Stage
  pub new : LentSheet
  pub is : a ≡ accept next new
  pub onward : stage_number stage ≤ stage_number next
  pub as_long : AsLong new lent
  pub fits : held_fault_of next lent ≡ 0

abbrev pub Answer : Stage → LentSheet → After → Type 0
Answer stage lent a = Refusal stage lent a ⊎ Acceptance stage lent a

first_set_length : (n x : ℕ) (places : List ℕ) → n ≤ length places → length (first_set n x places) ≡ length places
first_set_length n x places h = simp (length-append, length-replicate, length-drop) (omega arith)

same_long : (lent : LentSheet) → AsLong lent lent
same_long lent = record { dirs_long = refl; weights_long = refl }

sizes_written_long : (z : Sizes) (lent : LentSheet) → Fits z (length lent.dirs) (length lent.weights)
    → AsLong (sizes_written z lent) lent
unfolding sizes_written
sizes_written_long z lent f = record {
  dirs_long = first_set_length _ 0 lent.dirs f.dirs_enough;
  weights_long = first_set_length _ 1 lent.weights f.weights_enough;
}

weight_written_long : (row weight : ℕ) (lent : LentSheet) → AsLong (weight_written row weight lent) lent
unfolding weight_written
weight_written_long row weight lent = record { dirs_long = refl; weights_long = simp length-set }

cell_written_long : (z : Sizes) (x : Cell) (lent : LentSheet) → AsLong (cell_written z x lent) lent
unfolding cell_written
cell_written_long z x lent = record { dirs_long = simp length-set; weights_long = refl }

module _ (stage : Stage) (lent : LentSheet) where
  refuses : (number : ℕ) → 0 < number → Answer stage lent (refuse stage lent number)
  refuses number some = inl (record { number = number; number_some = some; is = refl })

  accepts : (next : Stage) (new : LentSheet) → stage_number stage ≤ stage_number next → AsLong new lent
      → held_fault_of next lent ≡ 0 → Answer stage lent (accept next new)
  accepts next new onward as_long fits =
      inr (record { next = next; new = new; is = refl; onward = onward; as_long = as_long; fits = fits })

  unless_answer : (fault : ℕ) (next : After) → (fault ≡ 0 → Answer stage lent next)
      → Answer stage lent (unless fault stage lent next)
  unless_answer zero next h = subst (Answer stage lent) (sym (unless_none stage lent next refl)) (h refl)
  unless_answer (suc n) next h =
      subst (Answer stage lent) (sym (unless_some {fault = suc n} stage lent next (λ e. omega arith)))
      (refuses (suc n) (omega arith))

sizes_answer : (c : Columns) (v : ValuesLine) (lent : LentSheet) → Answer (WaitingForSizes c) lent (on_sizes c v lent)
unfolding on_sizes
sizes_answer c None lent = refuses _ _ 8 (omega arith)
sizes_answer c (Some v) lent =
    let z : Sizes = sizes_in c v in
    let next : After = accept (WaitingForWeightOrCellNames z) (sizes_written z lent) in
    unless_answer (WaitingForSizes c) lent (sizes_fault z (length lent.dirs) (length lent.weights)) next
    (λ e. accepts _ _ _ _ (omega arith) (sizes_written_long z lent (sizes_fit_lem z _ _ e)) e)

cell_names_answer : (stage : Stage) (z : Sizes) (n : NamesLine) (lent : LentSheet) → stage_number stage ≤ 5
    → sizes_fault z (length lent.dirs) (length lent.weights) ≡ 0
    → Answer stage lent (keep lent (on_cell_names stage z n))
unfolding on_cell_names
cell_names_answer stage z (Some c) lent h good = accepts _ _ _ _ h (same_long lent) good
cell_names_answer stage z None lent h good = refuses _ _ 8 (omega arith)

weight_answer : (z : Sizes) (row : ℕ) (v : ValuesLine) (lent : LentSheet)
    → row_fault z row (length lent.dirs) (length lent.weights) ≡ 0
    → Answer (WaitingForWeight z row) lent (on_weight z row v lent)
unfolding on_weight after_weights
weight_answer z row None lent good = refuses _ _ 8 (omega arith)
weight_answer z row (Some v) lent good =
    unless_answer (WaitingForWeight z row) lent (weight_fault (first_value v))
    (accept (after_weights z (row + 1)) (weight_written row (first_value v) lent))
    (λ e. go (ltb (row + 1) z.rows) refl)
  where
    sizes : sizes_fault z (length lent.dirs) (length lent.weights) ≡ 0
    sizes = (row_good z _ _ row good).0

    go : (t : Bool) → ltb (row + 1) z.rows ≡ t
        → Answer (WaitingForWeight z row) lent
        (accept (cond t (WaitingForWeight z (row + 1)) (WaitingForCellNames z)) (weight_written row (first_value v) lent))
    go true h =
        accepts _ _ _ _ (omega arith) (weight_written_long row (first_value v) lent)
        (row_within z _ _ (row + 1) sizes (ltb-true (row + 1) z.rows h))
    go false h = accepts _ _ _ _ (omega arith) (weight_written_long row (first_value v) lent) sizes

cells_answer : (z : Sizes) (c : Columns) (v : ValuesLine) (lent : LentSheet)
    → sizes_fault z (length lent.dirs) (length lent.weights) ≡ 0
    → Answer (TakingCells z c) lent (on_cells z c v lent)
unfolding on_cells
cells_answer z c None lent good = refuses _ _ 8 (omega arith)
cells_answer z c (Some v) lent good =
    let x : Cell = cell_in c v in
    let next : After = accept (TakingCells z c) (cell_written z x lent) in
    unless_answer (TakingCells z c) lent (cell_fault z x lent.dirs) next
    (λ e. accepts _ _ _ _ (omega arith) (cell_written_long z x lent) good)

line_in_answer : (stage : Stage) (line : List ℕ) (lent : LentSheet) → fault_of stage lent ≡ 0
    → Answer stage lent (line_in stage line lent)
unfolding line_in state_fault
line_in_answer WaitingForSizeNames line lent good = go (size_names_line line)
  where
    go : (n : NamesLine) → Answer WaitingForSizeNames lent (keep lent (on_size_names n))
    go (Some c) = accepts _ _ _ _ (omega arith) (same_long lent) refl
    go None = refuses _ _ 8 (omega arith)
line_in_answer (WaitingForSizes c) line lent good = sizes_answer c (values_line c line) lent
line_in_answer (WaitingForWeightOrCellNames z) line lent good = go (names_line weight_columns line)
  where
    go : (n : NamesLine) → Answer (WaitingForWeightOrCellNames z) lent
        (keep lent (on_weight_or_cell_names z n (names_line cell_columns line)))
    go (Some c) =
        accepts _ _ _ _ (omega arith) (same_long lent)
        (row_within z _ _ 0 good (sizes_fit_lem z _ _ good).rows_some)
    go None = cell_names_answer _ z (names_line cell_columns line) lent (omega arith) good
line_in_answer (WaitingForWeight z row) line lent good = weight_answer z row (values_line weight_columns line) lent good
line_in_answer (WaitingForCellNames z) line lent good =
    cell_names_answer (WaitingForCellNames z) z (names_line cell_columns line) lent (omega arith) good
line_in_answer (TakingCells z c) line lent good = cells_answer z c (values_line c line) lent good
line_in_answer (Ended z) line lent good = refuses _ _ 13 (omega arith)

pub line_answer : (i : Intake) (line : List ℕ) (lent : LentSheet) → Answer i.stage lent (line_after i line lent)
unfolding line_after
line_answer i line lent = unless_answer _ _ _ _ (line_in_answer i.stage line lent)

-- ---- one line

module _ (i : Intake) (line : List ℕ) (lent : LentSheet) where
  -- "A refused line or end returns the state it got and writes no byte."
  pub refused_line : {refusal : AnyRefusal} → (line_after i line lent).taken.outcome ≡ Err refusal
      → line_after i line lent ≡ refuse i.stage lent refusal.number
  refused_line {refusal} e = go (line_answer i line lent)
    where
      go : Answer i.stage lent (line_after i line lent) → line_after i line lent ≡ refuse i.stage lent refusal.number
      go (inl r) =
          let same : r.number ≡ refusal.number = same_number (sym (ap (λ (a : After). a.taken.outcome) r.is) ∙ e) in
          r.is ∙ ap (refuse i.stage lent) same
      go (inr a) = absurd (accepted_not_refused (sym (ap (λ (b : After). b.taken.outcome) a.is) ∙ e))

  -- the slices keep their lengths
  pub line_long : AsLong (line_after i line lent).lent lent
  line_long = go (line_answer i line lent)
    where
      go : Answer i.stage lent (line_after i line lent) → AsLong (line_after i line lent).lent lent
      go (inl r) = subst (λ (b : After). AsLong b.lent lent) (sym r.is) (same_long lent)
      go (inr a) = subst (λ (b : After). AsLong b.lent lent) (sym a.is) a.as_long

  -- no refusal has the number 0, so the number tells the outcome
  pub accepted_number : (taken_values (line_after i line lent).taken.outcome).number ≡ 0
      → (line_after i line lent).taken.outcome ≡ Accepted
  accepted_number e = go (line_answer i line lent)
    where
      go : Answer i.stage lent (line_after i line lent) → (line_after i line lent).taken.outcome ≡ Accepted
      go (inl r) =
          absurd (omega (
            arith,
            r.number_some,
            sym (ap (λ (b : After). (taken_values b.taken.outcome).number) r.is) ∙ e,
          ))
      go (inr a) = ap (λ (b : After). b.taken.outcome) a.is

  module _ (e : (line_after i line lent).taken.outcome ≡ Accepted) where
    acceptance : Acceptance i.stage lent (line_after i line lent)
    acceptance = go (line_answer i line lent)
      where
        go : Answer i.stage lent (line_after i line lent) → Acceptance i.stage lent (line_after i line lent)
        go (inl r) = absurd (accepted_not_refused (sym e ∙ ap (λ (b : After). b.taken.outcome) r.is))
        go (inr a) = a

    -- an accepted line never goes back a stage
    pub accepted_onward : stage_number i.stage ≤ stage_number (line_after i line lent).taken.intake.stage
    accepted_onward =
        subst (λ (b : After). stage_number i.stage ≤ stage_number b.taken.intake.stage) (sym acceptance.is)
        acceptance.onward

    pub accepted_fits : held_fault_of (line_after i line lent).taken.intake.stage lent ≡ 0
    accepted_fits =
        subst (λ (b : After). held_fault_of b.taken.intake.stage lent ≡ 0) (sym acceptance.is)
        acceptance.fits

-- ---- the end

refused_end_in : (s : Stage) {refusal : AnyRefusal} → (end_in s).outcome ≡ Err refusal
    → (end_in s).intake ≡ record { stage = s }
unfolding end_in
refused_end_in WaitingForSizeNames e = refl
refused_end_in (WaitingForSizes c) e = refl
refused_end_in (WaitingForWeightOrCellNames z) e = refl
refused_end_in (WaitingForWeight z row) e = refl
refused_end_in (WaitingForCellNames z) e = refl
refused_end_in (TakingCells z c) e = absurd (accepted_not_refused e)
refused_end_in (Ended z) e = refl

pub refused_end : (i : Intake) {refusal : AnyRefusal} → (end_taken i).outcome ≡ Err refusal → (end_taken i).intake ≡ i
unfolding end_taken
refused_end i e = refused_end_in i.stage e

-- the end changes no sizes
end_holds : (s : Stage) (lent : LentSheet) → held_fault_of (end_in s).intake.stage lent ≡ held_fault_of s lent
unfolding end_in
end_holds WaitingForSizeNames lent = refl
end_holds (WaitingForSizes c) lent = refl
end_holds (WaitingForWeightOrCellNames z) lent = refl
end_holds (WaitingForWeight z row) lent = refl
end_holds (WaitingForCellNames z) lent = refl
end_holds (TakingCells z c) lent = refl
end_holds (Ended z) lent = refl

-- ---- states reached

-- a state that is reached from a new one by accepted lines and an accepted end, and what is lent then
pub data Reached : Intake → LentSheet → Type 0 where
  at_start : (lent : LentSheet) → Reached new_intake lent
  by_line : {i : Intake} {lent : LentSheet} → Reached i lent → (line : List ℕ)
      → (line_after i line lent).taken.outcome ≡ Accepted → Reached (line_after i line lent).taken.intake
      (line_after i line lent).lent
  by_end : {i : Intake} {lent : LentSheet} → Reached i lent → (end_taken i).outcome ≡ Accepted
      → Reached (end_taken i).intake lent

-- such a state has no fault: none of its lines gets 9 by its row
pub reached_fits : {i : Intake} {lent : LentSheet} → Reached i lent → held_fault_of i.stage lent ≡ 0
unfolding end_taken
reached_fits (at_start lent) = refl
reached_fits (by_line {i} {lent} r line e) =
    let long = line_long i line lent in
    rw (long.dirs_long, long.weights_long) (accepted_fits i line lent e)
reached_fits (by_end {i} {lent} r e) = end_holds i.stage lent ∙ reached_fits r

-- the sizes that a stage holds
pub data Holds : Stage → Sizes → Type 0 where
  weight_or_names : {z : Sizes} → Holds (WaitingForWeightOrCellNames z) z
  weight_of_row : {z : Sizes} {row : ℕ} → Holds (WaitingForWeight z row) z
  names : {z : Sizes} → Holds (WaitingForCellNames z) z
  cells : {z : Sizes} {c : Columns} → Holds (TakingCells z c) z
  ended : {z : Sizes} → Holds (Ended z) z

held : {s : Stage} {z : Sizes} (lent : LentSheet) → Holds s z → held_fault_of s lent ≡ 0
    → sizes_fault z (length lent.dirs) (length lent.weights) ≡ 0
held lent weight_or_names e = e
held {z = z} lent (weight_of_row {row = row}) e = (row_good z _ _ row e).0
held lent names e = e
held lent cells e = e
held lent ended e = e

-- the sizes in a state that is reached are within the documents' bounds and fit the slices
pub reached_sizes : {i : Intake} {lent : LentSheet} {z : Sizes} → Reached i lent → Holds i.stage z
    → Fits z (length lent.dirs) (length lent.weights)
reached_sizes {i} {lent} {z} r h = sizes_fit_lem z _ _ (held lent h (reached_fits r))
