-- Documents 01 and 02's rules for a label given as a record or as digits: refusals 2, 11 and 3, and what a lent slice holds
-- afterwards.
use Rattle.std.specs.Prelude.{cond, List, ℕ, leb, length, Err, Ok}
use Rattle.sheet.specs.declared.Label.{Label as Record}
use Rattle.sheet.specs.Record.{record_of, digits_of, no_digits}
use Rattle.sheet.specs.Refusal.{depth_fits, written}
use Rattle.sheet.specs.Flow.{are_digits, is_label}
use Rattle.sheet.specs.Answer.{Counted, Refused}
use Rattle.sheet.specs.Answer.{LabelAnswer}

-- a label's digits are written where so many places are lent: 2, 11, 3, in this order
unfoldable pub digits_answer : ℕ → Record → ℕ → Counted
unfolding depth_fits is_label digits_of
digits_answer depth label places =
    let count : ℕ = length (digits_of label) in
    let room : Counted = cond (leb count places) (Ok count) (Refused 3 0) in
    let judged : Counted = cond (is_label depth label) room (Refused 11 0) in
    cond (depth_fits depth) judged (Refused 2 0)

-- refused, no place is written; written, the first places hold the digits and the others keep their values
abbrev pub if_written : Counted → List ℕ → List ℕ → List ℕ
if_written (Ok count) digits out = written digits out
if_written (Err refusal) digits out = out

-- the lent places afterwards
unfoldable pub digits_places : ℕ → Record → List ℕ → List ℕ
unfolding digits_answer digits_of
digits_places depth label out = if_written (digits_answer depth label (length out)) (digits_of label) out

-- the label of digits: 2, 11, in this order
unfoldable pub label_answer : ℕ → List ℕ → LabelAnswer
unfolding depth_fits are_digits record_of
label_answer depth x =
    let judged : LabelAnswer = cond (are_digits depth x) (Ok (record_of x)) (Refused 11 0) in
    cond (depth_fits depth) judged (Refused 2 0)

-- the refusal's number, or 0, and how many digits were written, or 0
pub record DigitsValues : Type 0 where
  pub number : ℕ
  pub count : ℕ

abbrev pub digits_values : Counted → DigitsValues
digits_values (Ok count) = record { number = 0; count = count }
digits_values (Err refusal) = record { number = refusal.number; count = 0 }

-- the refusal's number, or 0, and the label, or no digits
pub record LabelValues : Type 0 where
  pub number : ℕ
  pub label : Record

abbrev pub label_values : LabelAnswer → LabelValues
label_values (Ok label) = record { number = 0; label = label }
label_values (Err refusal) = record { number = refusal.number; label = no_digits }
