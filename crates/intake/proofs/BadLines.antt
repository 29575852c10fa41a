-- Lines that break the file's rules in every stage: those with a line feed, and those of more than 80 bytes.
use mathlib.Core.Path.{◌≡◌, refl, sym, ap, ◌∙◌}
use mathlib.Core.List.{List}
use Prim.Native.Nat.{ℕ, zero, suc, ◌<◌}
use native.Mathlib.Omega.{arith}
use lib.ListN.{length, get_or}
use Rattle.std.proofs.Common.{None}
use Rattle.decimal.specs.Ascii.{line_feed}
use Rattle.lines.specs.declared.columns.Columns.{Columns}
use Rattle.names.specs.Columns.{weight_columns, cell_columns}
use Rattle.names.specs.Names.{names_line, size_names_line}
use Rattle.lines.specs.Fields.{line_bytes}
use Rattle.lines.specs.Values.{values_line}
use Rattle.names.proofs.NamesLaws.{names_long, size_names_long}
use Rattle.lines.proofs.ValuesLaws.{values_long}
use Rattle.names.proofs.OtherBytes.{names_line_feed, size_names_line_feed}
use Rattle.lines.proofs.OtherBytes.{values_line_feed}
use Rattle.intake.specs.declared.Stage.{Stage}
use Rattle.intake.specs.declared.Stage.TheVariants.{WaitingForSizeNames, WaitingForSizes}
use Rattle.intake.specs.declared.Stage.TheVariants.{WaitingForWeightOrCellNames, WaitingForWeight}
use Rattle.intake.specs.declared.Stage.TheVariants.{WaitingForCellNames, TakingCells, Ended}
use Rattle.intake.specs.declared.Intake.{Intake}
use Rattle.intake.specs.Intake.{LentSheet, After, refuse, unless, line_in, line_after}
use Rattle.intake.proofs.LineLaws.{unless_none, unless_some}
use Rattle.intake.proofs.LineLaws.{accepted_not_refused}
use Rattle.intake.proofs.Laws.{stage_number, fault_of}
use Rattle.sheet.specs.Answer.{Accepted}

-- a line that is no names line and no line of values
pub record BadLine (line : List ℕ) : Type 0 where
  pub size_names : size_names_line line ≡ None
  pub names : (expected : Columns) → names_line expected line ≡ None
  pub values : (c : Columns) → values_line c line ≡ None

pub line_feed_lem : (line : List ℕ) (at : ℕ) → at < length line → get_or line at 0 ≡ line_feed → BadLine line
line_feed_lem line at h e =
    record {
      size_names = size_names_line_feed line at h e;
      names = λ expected. names_line_feed expected line at h e;
      values = λ c. values_line_feed c line at h e;
    }

pub over_eighty : (line : List ℕ) → line_bytes < length line → BadLine line
over_eighty line h =
    record {
      size_names = size_names_long line h;
      names = λ expected. names_long expected line h;
      values = λ c. values_long c line h;
    }

-- 13 where the intake has ended, and else 8
abbrev pub bad_line_number : Stage → ℕ
bad_line_number WaitingForSizeNames = 8
bad_line_number (WaitingForSizes c) = 8
bad_line_number (WaitingForWeightOrCellNames z) = 8
bad_line_number (WaitingForWeight z row) = 8
bad_line_number (WaitingForCellNames z) = 8
bad_line_number (TakingCells z c) = 8
bad_line_number (Ended z) = 13

bad_line_in : (stage : Stage) (line : List ℕ) (lent : LentSheet) → BadLine line
    → line_in stage line lent ≡ refuse stage lent (bad_line_number stage)
unfolding line_in
bad_line_in WaitingForSizeNames line lent b = rw b.size_names
bad_line_in (WaitingForSizes c) line lent b = rw (b.values _)
bad_line_in (WaitingForWeightOrCellNames z) line lent b = rw (b.names weight_columns, b.names cell_columns)
bad_line_in (WaitingForWeight z row) line lent b = rw (b.values _)
bad_line_in (WaitingForCellNames z) line lent b = rw (b.names _)
bad_line_in (TakingCells z c) line lent b = rw (b.values _)
bad_line_in (Ended z) line lent b = refl

-- the state's fault goes before 8
pub bad_line : (i : Intake) (line : List ℕ) (lent : LentSheet) → BadLine line
    → line_after i line lent ≡ unless (fault_of i.stage lent) i.stage lent
    (refuse i.stage lent (bad_line_number i.stage))
unfolding line_after
bad_line i line lent b =
    ap (unless (fault_of i.stage lent) i.stage lent) (bad_line_in i.stage line lent b)

-- all bad lines get the same answer
pub bad_lines_alike : (i : Intake) (line other : List ℕ) (lent : LentSheet) → BadLine line → BadLine other
    → line_after i line lent ≡ line_after i other lent
bad_lines_alike i line other lent b d = bad_line i line lent b ∙ sym (bad_line i other lent d)

pub bad_line_refused : (i : Intake) (line : List ℕ) (lent : LentSheet) → BadLine line
    → (line_after i line lent).taken.outcome ≡ Accepted → ⊥
bad_line_refused i line lent b e =
    go (fault_of i.stage lent) (sym (ap (λ (a : After). a.taken.outcome) (bad_line i line lent b)) ∙ e)
  where
    go : (fault : ℕ)
        → (unless fault i.stage lent
        (refuse i.stage lent (bad_line_number i.stage))).taken.outcome ≡ Accepted → ⊥
    go zero e =
        accepted_not_refused
        (sym e ∙ ap (λ (a : After). a.taken.outcome) (unless_none {fault = 0} i.stage lent _ refl))
    go (suc n) e =
        accepted_not_refused
        (sym e ∙ ap (λ (a : After). a.taken.outcome)
        (unless_some {fault = suc n} i.stage lent _ (λ z. omega arith)))

-- "a byte 10 in it gives 8": in a state that has not ended and has no fault
module _ (stage : Stage) (line : List ℕ) (lent : LentSheet) (at : ℕ) (within : at < length line)
    (is : get_or line at 0 ≡ line_feed) where
  pub line_feed_eight : stage_number stage < 6 → fault_of stage lent ≡ 0
      → line_after (record { stage = stage }) line lent ≡ refuse stage lent 8
  line_feed_eight early good =
      bad_line _ line lent (line_feed_lem line at within is) ∙ unless_none stage lent _ good ∙ ap (refuse stage lent)
      (eight stage early)
    where
      eight : (s : Stage) → stage_number s < 6 → bad_line_number s ≡ 8
      eight WaitingForSizeNames h = refl
      eight (WaitingForSizes c) h = refl
      eight (WaitingForWeightOrCellNames z) h = refl
      eight (WaitingForWeight z row) h = refl
      eight (WaitingForCellNames z) h = refl
      eight (TakingCells z c) h = refl
      eight (Ended z) h = absurd (omega arith)

  -- in any state such a line is refused
  pub line_feed_refused : (line_after (record { stage = stage }) line lent).taken.outcome ≡ Accepted → ⊥
  line_feed_refused = bad_line_refused _ line lent (line_feed_lem line at within is)
