-- Writing a label's digits and reading a label from digits undo each other; both are laws of the definitions.
use mathlib.Core.Path.{◌≡◌, refl, sym, ap, ◌∙◌}
use mathlib.Core.Bool.{Bool, true, false, cond}
use mathlib.Core.List.{List}
use Prim.Native.Nat.{ℕ, ◌≤◌}
use native.Mathlib.Omega.{arith}
use borrow.Author.Tests.{le-leb}
use lib.Dec.{leb}
use lib.ListN.{length, take, drop}
use lib.Seq.{take_at}
use Rattle.sheet.specs.declared.Label.{Label as Record}
use Rattle.sheet.specs.Record.{record_of, digits_of}
use Rattle.sheet.specs.Refusal.{depth_fits, written}
use Rattle.sheet.specs.Flow.{are_digits, is_label}
use Rattle.sheet.proofs.Records.{digits_record, record_digits, record_is_label, label_shape}
use Rattle.digits.specs.Digits.{digits_answer, digits_places, label_answer}
use Rattle.sheet.proofs.Within.{depth_most, digits_label, label_digits_lem}
use Rattle.sheet.specs.Answer.{Refused}
use Rattle.std.specs.Prelude.{Ok}

-- what is known where digits were written
record WrittenBy (depth : ℕ) (m : Record) (places n : ℕ) : Type 0 where
  fits : depth_fits depth ≡ true
  label : is_label depth m ≡ true
  room : leb (length (digits_of m)) places ≡ true
  count : length (digits_of m) ≡ n

written_by : (depth : ℕ) (label : Record) (places count : ℕ) → digits_answer depth label places ≡ Ok count
    → WrittenBy depth label places count
unfolding digits_answer
written_by depth label places count e =
    go (depth_fits depth) refl (is_label depth label) refl (leb (length (digits_of label)) places) refl e
  where
    go : (f : Bool) → depth_fits depth ≡ f → (l : Bool) → is_label depth label ≡ l → (r : Bool)
        → leb (length (digits_of label)) places ≡ r → cond f
        (cond l (cond r (Ok (length (digits_of label))) (Refused 3 0)) (Refused 11 0))
        (Refused 2 0) ≡ Ok count → WrittenBy depth label places count
    go true f true l true r e = record { fits = f; label = l; room = r; count = cc }
    go true f true l false r e = let z : ◌≡◌ {A = ℕ} 0 1 = cc in absurd (omega arith)
    go true f false l r s e = let z : ◌≡◌ {A = ℕ} 0 1 = cc in absurd (omega arith)
    go false f l k r s e = let z : ◌≡◌ {A = ℕ} 0 1 = cc in absurd (omega arith)

-- what is known where a label was read
record ReadFrom (depth : ℕ) (x : List ℕ) (m : Record) : Type 0 where
  fits : depth_fits depth ≡ true
  digits : are_digits depth x ≡ true
  label : record_of x ≡ m

read_from_lem : (depth : ℕ) (x : List ℕ) (label : Record) → label_answer depth x ≡ Ok label → ReadFrom depth x label
unfolding label_answer
read_from_lem depth x label e = go (depth_fits depth) refl (are_digits depth x) refl e
  where
    go : (f : Bool) → depth_fits depth ≡ f → (d : Bool) → are_digits depth x ≡ d
        → cond f (cond d (Ok (record_of x)) (Refused 11 0)) (Refused 2 0) ≡ Ok label → ReadFrom depth x label
    go true f true d e = record { fits = f; digits = d; label = cc }
    go true f false d e = let z : ◌≡◌ {A = ℕ} 0 1 = cc in absurd (omega arith)
    go false f d k e = let z : ◌≡◌ {A = ℕ} 0 1 = cc in absurd (omega arith)

-- the label is read again from the places that its digits were written to
pub label_again : (depth : ℕ) (label : Record) (out : List ℕ) (count : ℕ)
    → digits_answer depth label (length out) ≡ Ok count
    → label_answer depth (take count (digits_places depth label out)) ≡ Ok label
unfolding digits_places label_answer
label_again depth label out count e =
    let w = written_by depth label (length out) count e in
    let s = label_shape depth label w.label in
    rw (
      e,
      take_at (digits_of label) (drop (length (digits_of label)) out) count w.count,
      w.fits,
      digits_label depth (digits_of label) s.1 s.2,
      record_digits label s.0,
    )

-- what is written where the record is a label, and there is room
written_where : (depth : ℕ) (label : Record) (out : List ℕ) → depth_fits depth ≡ true → is_label depth label ≡ true
    → length (digits_of label) ≤ length out → (digits_answer depth label (length out) ≡ Ok (length (digits_of label)))
    × (digits_places depth label out ≡ written (digits_of label) out)
unfolding digits_answer digits_places
written_where depth label out fits judged room = (
  rw (fits, judged, le-leb (length (digits_of label)) (length out) room),
  rw (fits, judged, le-leb (length (digits_of label)) (length out) room),
)

-- the digits that a label was read from are written again
pub digits_again : (depth : ℕ) (x out : List ℕ) (label : Record) → length x ≤ length out
    → label_answer depth x ≡ Ok label
    → (digits_answer depth label (length out) ≡ Ok (length x)) × (digits_places depth label out ≡ written x out)
digits_again depth x out label room e =
    let r = read_from_lem depth x label e in
    let d = label_digits_lem depth x r.digits in
    let most : length x ≤ 36 = omega (arith, depth_most depth r.fits) in
    let back : digits_of label ≡ x = ap digits_of (sym r.label) ∙ digits_record x d.0 most in
    let judged : is_label depth label ≡ true =
    ap (is_label depth) (sym r.label) ∙ record_is_label x d.0 most depth d.1 in
    rw back at (written_where depth label out r.fits judged (rw back room))
