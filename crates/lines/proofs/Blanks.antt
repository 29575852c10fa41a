-- Blanks in front of the values of a line: the statements of specs/Blanks, proved.
use Rattle.std.proofs.Common.{Some, None}
use Prim.Native.Nat.{ℕ, ◌+◌, ◌<◌, ◌≤◌}
use mathlib.Core.Path.{◌≡◌, refl, sym, ap, ◌∙◌}
use mathlib.Core.List.{List, [], ◌∷◌, ◌++◌, append_assoc, append-nil}
use mathlib.Core.Bool.{Bool, true, false, cond}
use native.Mathlib.Omega.{arith}
use borrow.Author.Tests.{eq-eqb, eqb-true}
use lib.ListN.{length, take, drop, replicate, length-append, length-replicate, take-append-drop}
use lib.Seq.{take-length}
use lib.Dec.{eqb}
use Rattle.decimal.specs.Ascii.{blank}
use Rattle.decimal.specs.Value.{Value, Found}
use Rattle.decimal.specs.Value.{is_digit, take_while, digit_run, most_digits, most_blanks, unpadded_at, value_at}
use Rattle.decimal.specs.Blanks.{with_blanks}
use Rattle.decimal.proofs.TakeWhile.{while_stop, while_take, while_append}
use Rattle.decimal.proofs.ValueLaws.{unpadded_found, found_same}
use Rattle.std.proofs.lemmas.List.{set_past as set_past_end}
use Rattle.decimal.proofs.Blanks.{unpadded_moved, padded_values}
use Rattle.lines.specs.declared.columns.Columns.{Columns}
use Rattle.lines.specs.declared.values.Values.{Values}
use Rattle.lines.specs.Fields.{fits_line, fields}
use Rattle.lines.specs.Columns.{column_at, column_digits, column_count}
use Rattle.lines.specs.Values.{if_whole, field_value, no_values, with_value, values_from, values_line}
use Rattle.lines.specs.Blanks.{unpadded_field, IsUnpadded, PaddedField, EachField, no_field, field, first_five}
use Rattle.lines.specs.Blanks.{ValueFields, PaddedLines}
use Rattle.lines.proofs.ColumnLaws.{digits_allowed}
use Rattle.lines.proofs.ValuesLaws.{field_none, field_whole, field_more, values_other, values_value}

-- ---- fields

-- where if_whole gives a value, it stops at the field's end
whole_is : (f : List ℕ) (x : Value) {v end : ℕ} → if_whole f x ≡ Found v end → x ≡ Found v (length f)
whole_is f None e = let z : ◌≡◌ {A = ℕ} 0 1 = cc in absurd (omega arith)
whole_is f (Found w stop) {v} {end} e = go (eqb stop (length f)) refl e
  where
    go : (t : Bool) → eqb stop (length f) ≡ t → cond t (Found w stop) None ≡ Found v end
        → Found w stop ≡ Found v (length f)
    go true h e =
        let p : stop ≡ length f = eqb-true stop (length f) h in
        rw (p, (found_same e).0)
    go false h e = let z : ◌≡◌ {A = ℕ} 0 1 = cc in absurd (omega arith)

unpadded_is : (most : ℕ) (f : List ℕ) {v end : ℕ} → unpadded_field most f ≡ Found v end
    → unpadded_at most f 0 ≡ Found v (length f)
unfolding unpadded_field
unpadded_is most f e = whole_is f (unpadded_at most f 0) e

-- up to eight blanks in front of bytes that begin with a value
module _ (blanks : ℕ) (few : blanks ≤ most_blanks) (s : List ℕ) where
  after : (most : ℕ) {v end : ℕ} → most ≤ most_digits → unpadded_at most s 0 ≡ Found v end
      → value_at most (with_blanks blanks s) 0 ≡ Found v (blanks + end)
  after most {v} {end} allowed e =
      let p : 0 + blanks + end ≡ blanks + end = omega arith in
      rw p at (padded_values.after_blanks most blanks [] s allowed few e)

  padded_length : length (with_blanks blanks s) ≡ blanks + length s
  padded_length = simp (length-append, length-replicate)

padded_field : (most : ℕ) → most ≤ most_digits → (f : List ℕ) (v : ℕ) → PaddedField most f v
    → field_value most f ≡ Found v (length f)
padded_field most allowed f v p =
    let n = p.blanks in
    let l : length f ≡ n + length p.value = ap length p.field_is ∙ padded_length n p.few p.value in
    let e : value_at most f 0 ≡ Found v (length f) =
    rw (l, p.field_is) (after n p.few p.value most allowed (unpadded_is most p.value p.value_is)) in
    field_whole most f e refl

-- a reader that finds a value allows no more digits than fit 32 bits
field_allowed : (most : ℕ) (f : List ℕ) {v end : ℕ} → field_value most f ≡ Found v end → most ≤ most_digits
unfolding field_value
field_allowed most f e = (padded_values.no_other most f 0 (whole_is f (value_at most f 0) e)).allowed

field_padded : (most : ℕ) (f : List ℕ) {v end : ℕ} → field_value most f ≡ Found v end → PaddedField most f v
unfolding field_value unpadded_field
field_padded most f {v} {end} e =
    let b = padded_values.no_other most f 0 (whole_is f (value_at most f 0) e) in
    let n = b.blanks in
    let g : List ℕ = drop n f in
    let is : f ≡ with_blanks n g = sym (take-append-drop n f) ∙ ap (λ (p : List ℕ). p ++ g) b.blanks_are in
    let l : length f ≡ n + length g = ap length is ∙ padded_length n b.few g in
    let at : 0 + n ≡ n = omega arith in
    let stop : 0 + length g ≡ length g = omega arith in
    let found : unpadded_at most g 0 ≡ Found v (length g) =
    rw stop at (unpadded_moved most f g n 0 (length g) refl l (rw at at b.value_is)) in
    record {
      blanks = n;
      few = b.few;
      value = g;
      value_is = rw (found, eq-eqb (length g) (length g) refl);
      field_is = is;
    }

-- a value without blanks is a value
unpadded_field_lem : (most : ℕ) (f : List ℕ) (v : ℕ) → IsUnpadded most f v → PaddedField most f v
unpadded_field_lem most f v e = record { blanks = 0; few = omega arith; value = f; value_is = e; field_is = refl }

-- all bytes of a value without blanks are digits
all_digits : (most : ℕ) (f : List ℕ) {v end : ℕ} → unpadded_field most f ≡ Found v end → digit_run f ≡ f
all_digits most f e =
    let l : length (digit_run f) ≡ length f = omega (arith, (unpadded_found most f 0 (unpadded_is most f e)).stops) in
    sym (while_take is_digit f) ∙ ap (λ (n : ℕ). take n f) l ∙ take-length f

-- ---- lines

-- values set from a place on
set_from : ℕ → List ℕ → Values → Values
set_from place [] v = v
set_from place (x ∷ xs) v = set_from (place + 1) xs (with_value v place x)

-- there are no more places than columns
set_past : (place : ℕ) (xs : List ℕ) (v : Values) → length v.places ≤ place → set_from place xs v ≡ v
unfolding set_from with_value
set_past place [] v h = refl
set_past place (x ∷ xs) v h = rw (set_past_end v.places place x h) (set_past (place + 1) xs v (omega arith))

set_five : (xs : List ℕ) → set_from 0 xs no_values ≡ first_five xs
unfolding set_from with_value
set_five [] = refl
set_five (a ∷ []) = refl
set_five (a ∷ b ∷ []) = refl
set_five (a ∷ b ∷ c ∷ []) = refl
set_five (a ∷ b ∷ c ∷ d ∷ []) = refl
set_five (a ∷ b ∷ c ∷ d ∷ e ∷ xs) =
    set_past 5 xs (record { places = a ∷ b ∷ c ∷ d ∷ e ∷ [] }) (omega arith)

module _ (Field : ℕ → List ℕ → ℕ → Type 0)
    (is : (most : ℕ) → most ≤ most_digits → (f : List ℕ) (v : ℕ) → Field most f v
    → field_value most f ≡ Found v (length f)) (c : Columns) where
  from_fields : (place : ℕ) (v : Values) {fs : List (List ℕ)} {xs : List ℕ} → EachField Field c place fs xs
      → place + length xs ≡ column_count c → values_from c place fs v ≡ Some (set_from place xs v)
  unfolding values_from set_from
  from_fields place v no_field e = rw (eq-eqb place (column_count c) (omega arith))
  from_fields place v (field {f = f} {x = x} {fs = fs} {xs = xs} h hs) e =
      values_value c place v f fs (is _ (digits_allowed (column_at c place)) f x h)
      ∙ from_fields (place + 1) (with_value v place x) hs (omega arith)

  line_of_lem : (s : List ℕ) (v : Values) → ValueFields Field c s v → values_line c s ≡ Some v
  unfolding values_line
  line_of_lem s v t =
      rw t.fits
      (from_fields 0 no_values t.fields_are (omega (arith, t.count_is))
      ∙ ap Some (set_five t.values ∙ sym t.values_are))

-- a line's values, field by field from a place on
record FirstValue (c : Columns) (place : ℕ) (f : List ℕ) (fs : List (List ℕ)) (v w : Values) : Type 0 where
  value : ℕ
  field : PaddedField (column_digits (column_at c place)) f value
  later : values_from c (place + 1) fs (with_value v place value) ≡ Some w

first_value : (c : Columns) (place : ℕ) (f : List ℕ) (fs : List (List ℕ)) (v w : Values)
    → values_from c place (f ∷ fs) v ≡ Some w → FirstValue c place f fs v w
first_value c place f fs v w e = go (field_value (column_digits (column_at c place)) f) refl
  where
    go : (x : Value) → field_value (column_digits (column_at c place)) f ≡ x → FirstValue c place f fs v w
    go (Found x end) h =
        record { value = x; field = field_padded _ f h; later = sym (values_value c place v f fs h) ∙ e }
    go None h =
        let b : None ≡ Some w = sym (values_other c place v f fs h) ∙ e in
        let z : ◌≡◌ {A = ℕ} 0 1 = cc in absurd (omega arith)

-- the values of a good line
record ReadFrom (c : Columns) (place : ℕ) (fs : List (List ℕ)) (v w : Values) : Type 0 where
  values : List ℕ
  fields_are : EachField PaddedField c place fs values
  count_is : place + length values ≡ column_count c
  values_are : w ≡ set_from place values v

read_from_lem : (c : Columns) (place : ℕ) (fs : List (List ℕ)) (v w : Values) → values_from c place fs v ≡ Some w
    → ReadFrom c place fs v w
unfolding values_from set_from
read_from_lem c place [] v w e = go (eqb place (column_count c)) refl e
  where
    go : (t : Bool) → eqb place (column_count c) ≡ t → cond t (Some v) None ≡ Some w → ReadFrom c place [] v w
    go true h e =
        let is : w ≡ v = cc in
        record {
          values = [];
          fields_are = no_field;
          count_is = omega (arith, eqb-true place (column_count c) h);
          values_are = is;
        }
    go false h e = let z : ◌≡◌ {A = ℕ} 0 1 = cc in absurd (omega arith)
read_from_lem c place (f ∷ fs) v w e =
    let x = first_value c place f fs v w e in
    let r = read_from_lem c (place + 1) fs (with_value v place x.value) w x.later in
    record {
      values = x.value ∷ r.values;
      fields_are = field x.field r.fields_are;
      count_is = omega (arith, r.count_is);
      values_are = r.values_are;
    }

value_fields : (c : Columns) (s : List ℕ) (v : Values) → values_line c s ≡ Some v → ValueFields PaddedField c s v
unfolding values_line
value_fields c s v e = go (fits_line s) refl e
  where
    go : (t : Bool) → fits_line s ≡ t → cond t (values_from c 0 (fields s) no_values) None ≡ Some v
        → ValueFields PaddedField c s v
    go true fits e =
        let r = read_from_lem c 0 (fields s) no_values v e in
        record {
          fits = fits;
          values = r.values;
          count_is = omega (arith, r.count_is);
          fields_are = r.fields_are;
          values_are = r.values_are ∙ set_five r.values;
        }
    go false fits e = let z : ◌≡◌ {A = ℕ} 0 1 = cc in absurd (omega arith)

-- ---- what is no value

too_many : (most blanks : ℕ) (f : List ℕ) → most_blanks < blanks → field_value most (with_blanks blanks f) ≡ None
too_many most blanks f h = field_none most (with_blanks blanks f) (padded_values.too_many most blanks [] f h)

blanks_alone : (most blanks : ℕ) → field_value most (with_blanks blanks []) ≡ None
unfolding take_while
blanks_alone most blanks =
    field_none most (with_blanks blanks []) (padded_values.no_digit most blanks [] [] refl refl)

-- the digits of a value go on no further than a byte that is none
stops_at : (most : ℕ) (f : List ℕ) (b : ℕ) (g : List ℕ) {v : ℕ} → IsUnpadded most f v → is_digit b ≡ false
    → unpadded_at most (f ++ (b ∷ g)) 0 ≡ Found v (length f)
unfolding unpadded_at
stops_at most f b g {v} e n =
    let all = all_digits most f e in
    let run : digit_run (f ++ (b ∷ g)) ≡ digit_run f =
    while_append is_digit f (b ∷ g) all ∙ rw (while_stop is_digit b g n) (append-nil f) ∙ sym all in
    rw run (unpadded_is most f e)

nothing_after : (most : ℕ) (f : List ℕ) (b : ℕ) (g : List ℕ) {v end : ℕ} → field_value most f ≡ Found v end
    → is_digit b ≡ false → field_value most (f ++ (b ∷ g)) ≡ None
nothing_after most f b g {v} e n =
    let p = field_padded most f e in
    let k = p.blanks in
    let d = p.value in
    let whole : f ++ (b ∷ g) ≡ with_blanks k (d ++ (b ∷ g)) =
    ap (λ (s : List ℕ). s ++ (b ∷ g)) p.field_is ∙ append_assoc (replicate k blank) d (b ∷ g) in
    let found = after k p.few (d ++ (b ∷ g)) most (field_allowed most f e)
    (stops_at most d b g p.value_is n) in
    rw whole (field_more most (with_blanks k (d ++ (b ∷ g))) found
    (λ l. omega (arith, padded_length k p.few (d ++ (b ∷ g)), length-append d (b ∷ g))))

pub padded_lines : PaddedLines
padded_lines = record {
  as_before = line_of_lem IsUnpadded (λ most allowed f v e. padded_field most allowed f v (unpadded_field_lem most f v e));
  padded_line = line_of_lem PaddedField padded_field;
  no_other = value_fields;
  too_many = too_many;
  blanks_alone = blanks_alone;
  nothing_after = nothing_after;
}
