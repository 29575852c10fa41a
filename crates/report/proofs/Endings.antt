-- The verdict on every file is one of the four endings.
use mathlib.Core.Path.{◌≡◌, refl, ap, ◌∙◌}
use mathlib.Core.List.{List, [], ◌∷◌, ◌++◌}
use Prim.Native.Nat.{ℕ, suc, ◌+◌}
use native.Mathlib.Omega.{arith}
use lib.ListN.{length, get_or}
use Rattle.sheet.specs.Sheet.{Grid}
use Rattle.sheet.specs.Refusal.{Lent, outcome}
use Rattle.faults.specs.declared.Sizes.{Sizes}
use Rattle.intake.specs.declared.Stage.{Stage}
use Rattle.intake.specs.declared.Stage.TheVariants.{WaitingForSizeNames, WaitingForSizes}
use Rattle.intake.specs.declared.Stage.TheVariants.{WaitingForWeightOrCellNames, WaitingForWeight}
use Rattle.intake.specs.declared.Stage.TheVariants.{WaitingForCellNames, TakingCells, Ended as AtEnd}
use Rattle.intake.specs.declared.Intake.{Intake}
use Rattle.intake.specs.Intake.{LentSheet, line_after, end_in, end_taken, new_intake, accepted}
use Rattle.labelling.specs.FromIntake.{sheet_of}
use Rattle.listing.specs.Listing.{listing_text, refusal_text}
use Rattle.reading.specs.Lines.{lines_of, FileRead, end_after, read_from, read_file}
use Rattle.report.specs.Report.{sheet_verdict, verdict_of, file_verdict}
use Rattle.intake.specs.Takes.{Takes, takes_none, takes_line}
use Rattle.report.specs.Conditions.{FileEnded, Ending, line_refused, end_refused}
use Rattle.report.specs.Conditions.{LinesTaken, sheet_refused, labelled}
use Rattle.report.proofs.Numbers.{takes_on, line_number, end_number, file_number}
use Rattle.report.proofs.Unplaced.{by_number, line_unplaced, end_unplaced}
use Rattle.sheet.specs.Answer.{Outcome, Accepted, Refused}
use Rattle.reading.specs.Answer.{Read}
use Rattle.std.specs.Prelude.{Err, Ok}

-- ---- how the reading of lines ends

pub data ReadEnding (i : Intake) (n : ℕ) (T : LentSheet) (lines : List (List ℕ)) (f : FileRead) : Type 0 where
  at_line : (before after : List (List ℕ)) (line : List ℕ) (j : Intake) (U : LentSheet) (number : ℕ)
      → lines ≡ before ++ line ∷ after → Takes i T before j U
      → (line_after j line U).taken.outcome ≡ Refused number 0
      → f.read ≡ Refused number (n + suc (length before)) → ReadEnding i n T lines f
  at_end_lem : (j : Intake) (U : LentSheet) (number : ℕ) → Takes i T lines j U → (end_taken j).outcome ≡ Refused number 0
      → f.read ≡ Refused number (n + suc (length lines)) → ReadEnding i n T lines f
  ended : (j : Intake) (U : LentSheet) → Takes i T lines j U → (end_taken j).outcome ≡ Accepted
      → f ≡ record { read = Ok (end_taken j).intake; lent = U } → ReadEnding i n T lines f

later : (number n k : ℕ) → ◌≡◌ {A = Read} (Refused number (suc n + k)) (Refused number (n + suc k))
later number n k = ap (Refused number) (omega arith)

-- one accepted line before
one_more : (i : Intake) (n : ℕ) (T : LentSheet) (line : List ℕ) (lines : List (List ℕ)) (f : FileRead)
    → (line_after i line T).taken.outcome ≡ Accepted
    → ReadEnding (line_after i line T).taken.intake (suc n) (line_after i line T).lent lines f
    → ReadEnding i n T (line ∷ lines) f
one_more i n T line lines f e (at_line before after bad j U number parts t r is) =
    at_line (line ∷ before) after bad j U number (ap (λ (x : List (List ℕ)). line ∷ x) parts) (takes_line line e t) r
    (is ∙ later number n (suc (length before)))
one_more i n T line lines f e (at_end_lem j U number t r is) =
    at_end_lem j U number (takes_line line e t) r (is ∙ later number n (suc (length lines)))
one_more i n T line lines f e (ended j U t r is) = ended j U (takes_line line e t) r is

at_end_ending : (i : Intake) (n : ℕ) (T : LentSheet) (o : Outcome) → (end_taken i).outcome ≡ o
    → ReadEnding i n T [] (read_from i n T [])
unfolding read_from end_after
at_end_ending i n T Accepted e = ended i T takes_none e (rw e)
at_end_ending i n T (Err refusal) e =
    at_end_lem i T refusal.number takes_none (by_number (end_unplaced i) e)
    (rw e (ap (Refused refusal.number) (omega arith)))

at_line_ending : (i : Intake) (n : ℕ) (T : LentSheet) (line : List ℕ) (lines : List (List ℕ)) (o : Outcome)
    → (line_after i line T).taken.outcome ≡ o
    → ReadEnding (line_after i line T).taken.intake (suc n) (line_after i line T).lent lines
    (read_from (line_after i line T).taken.intake (suc n) (line_after i line T).lent lines)
    → ReadEnding i n T (line ∷ lines) (read_from i n T (line ∷ lines))
unfolding read_from
at_line_ending i n T line lines Accepted e rest = rw e (one_more i n T line lines _ e rest)
at_line_ending i n T line lines (Err refusal) e rest =
    at_line [] lines line i T refusal.number refl takes_none (by_number (line_unplaced i line T) e)
    (rw e (ap (Refused refusal.number) (omega arith)))

pub read_ending : (lines : List (List ℕ)) (i : Intake) (n : ℕ) (T : LentSheet)
    → ReadEnding i n T lines (read_from i n T lines)
read_ending [] i n T = at_end_ending i n T (end_taken i).outcome refl
read_ending (line ∷ lines) i n T =
    at_line_ending i n T line lines (line_after i line T).taken.outcome refl
    (read_ending lines (line_after i line T).taken.intake (suc n) (line_after i line T).lent)

-- ---- the verdict

end_accepted : (s : Stage) → (end_in s).outcome ≡ Accepted → (z : Sizes) × (end_in s ≡ accepted (AtEnd z))
unfolding end_in
end_accepted WaitingForSizeNames e = let z : ◌≡◌ {A = ℕ} 0 1 = cc in absurd (omega arith)
end_accepted (WaitingForSizes c) e = let z : ◌≡◌ {A = ℕ} 0 1 = cc in absurd (omega arith)
end_accepted (WaitingForWeightOrCellNames z) e = let y : ◌≡◌ {A = ℕ} 0 1 = cc in absurd (omega arith)
end_accepted (WaitingForWeight z row) e = let y : ◌≡◌ {A = ℕ} 0 1 = cc in absurd (omega arith)
end_accepted (WaitingForCellNames z) e = let y : ◌≡◌ {A = ℕ} 0 1 = cc in absurd (omega arith)
end_accepted (TakingCells z c) e = (z, refl)
end_accepted (AtEnd z) e = let y : ◌≡◌ {A = ℕ} 0 1 = cc in absurd (omega arith)

module _ (T : LentSheet) (L : Lent) (bytes : List ℕ) where
  sheet_ending : {z : Sizes} (file : FileEnded T bytes z) (o : Outcome)
      → outcome (sheet_of z file.lines.held) L ≡ o → Ending T L bytes
      (sheet_verdict z o)
  unfolding sheet_verdict
  sheet_ending {z} file Accepted e = labelled (record { file = file; accepted = e })
  sheet_ending {z} file (Err refusal) e =
      sheet_refused (record { sizes = z; file = file; refused = e; number_is = (file_number file L refusal.number refusal.place e).0 })

  module _ (i : Intake) (U : LentSheet) (takes : Takes new_intake T (lines_of bytes) i U) where
    ended_ending : (end_taken i).outcome ≡ Accepted → Ending T L bytes (verdict_of (Ok (end_taken i).intake) U L)
    unfolding end_taken verdict_of
    ended_ending e =
        let a = end_accepted i.stage e in
        let z : Sizes = a.0 in
        let lines : LinesTaken T bytes = record { intake = i; held = U; takes = takes } in
        let file : FileEnded T bytes z = record { lines = lines; ended = a.1 } in
        rw a.1 (sheet_ending file (outcome (sheet_of z U) L) refl)

  from_reading : (f : FileRead) → ReadEnding new_intake 0 T (lines_of bytes) f
      → Ending T L bytes (verdict_of f.read f.lent L)
  unfolding verdict_of
  from_reading f (at_line before after line j U number parts t r is) =
      rw is
      (line_refused {place = 0 + suc (length before)} (record {
        before = before;
        line = line;
        after = after;
        intake = j;
        held = U;
        lines = parts;
        takes = t;
        refused = r;
        number_is = line_number j line U number (takes_on t tt) r;
        place_is = omega arith;
      }))
  from_reading f (at_end_lem j U number t r is) =
      rw is
      (end_refused {place = 0 + suc (length (lines_of bytes))} (record {
        lines = record { intake = j; held = U; takes = t };
        refused = r;
        number_is = end_number j number (takes_on t tt) r;
        place_is = omega arith;
      }))
  from_reading f (ended j U t r is) = rw is (ended_ending j U t r)

  pub file_ending : Ending T L bytes (file_verdict T L bytes)
  unfolding file_verdict read_file
  file_ending = from_reading (read_from new_intake 0 T (lines_of bytes)) (read_ending (lines_of bytes) new_intake 0 T)

-- a listing is no refusal: the first byte tells
pub listing_no_refusal : (G : Grid) (areas labels basins : List ℕ) (number place : ℕ)
    → listing_text G areas labels basins ≡ refusal_text number place → ⊥
unfolding listing_text refusal_text
listing_no_refusal G areas labels basins number place e =
    let first : ◌≡◌ {A = ℕ} 98 114 = ap (λ (s : List ℕ). get_or s 0 0) e in omega arith
