-- A values line with a byte that the rules do not allow, such as a line feed, is None.
use Rattle.std.proofs.Common.{None}
use Prim.Native.Nat.{ℕ, zero, suc, ◌+◌, ◌<◌}
use mathlib.Core.Path.{◌≡◌, refl, sym, ap, ◌∙◌}
use mathlib.Core.List.{List, [], ◌∷◌}
use mathlib.Core.Bool.{Bool, true, false, cond, ◌||◌, false≢true, or-true, or-false, or_assoc}
use native.Mathlib.Omega.{arith}
use borrow.Author.Tests.{eq-eqb, ne_eqb, eqb-true}
use lib.ListN.{length, get_or}
use lib.Dec.{eqb}
use Rattle.decimal.specs.Ascii.{comma, line_feed}
use Rattle.decimal.specs.Value.{Value, Found}
use Rattle.decimal.specs.Value.{is_digit, value_at}
use Rattle.decimal.proofs.Answers.{either_way}
use Rattle.decimal.proofs.ValueLaws.{is_value_byte, value_bytes}
use Rattle.lines.specs.declared.columns.Columns.{Columns}
use Rattle.lines.specs.declared.values.Values.{Values}
use Rattle.lines.specs.Fields.{fits_line, longer, fields}
use Rattle.lines.specs.Columns.{column_at, column_digits}
use Rattle.lines.specs.Values.{field_value, if_whole, with_value, no_values, values_from, values_line}
use Rattle.lines.proofs.ValuesLaws.{values_other, values_value}

unfoldable pub contains : ℕ → List ℕ → Bool
contains b [] = false
contains b (x ∷ s) = eqb x b || contains b s

unfoldable pub contains_any : ℕ → List (List ℕ) → Bool
contains_any b [] = false
contains_any b (f ∷ fs) = contains b f || contains_any b fs

pub contains_at : (b : ℕ) (s : List ℕ) (i : ℕ) → i < length s → get_or s i 0 ≡ b → contains b s ≡ true
unfolding contains
contains_at b [] i h e = absurd (omega arith)
contains_at b (x ∷ s) zero h e = rw (eq-eqb x b e)
contains_at b (x ∷ s) (suc i) h e = rw (contains_at b s i (omega arith) e) (or-true (eqb x b))

at_contains : (b : ℕ) (s : List ℕ) → contains b s ≡ true → (i : ℕ) × (i < length s) × (get_or s i 0 ≡ b)
unfolding contains
at_contains b [] e = absurd (false≢true e)
at_contains b (x ∷ s) e = go (eqb x b) refl e (at_contains b s)
  where
    go : (t : Bool) → eqb x b ≡ t → (t || contains b s) ≡ true
        → (contains b s ≡ true → (i : ℕ) × (i < length s) × (get_or s i 0 ≡ b)) → (i : ℕ) × (i < suc (length s)) ×
        (get_or (x ∷ s) i 0 ≡ b)
    go true h e ih = (0, omega arith, eqb-true x b h)
    go false h e ih = let (i, l, g) = ih e in (suc i, omega arith, g)

-- A byte that is no comma stands in a line where it stands in one of its fields.
pub fields_contain : (b : ℕ) (s : List ℕ) → (b ≡ comma → ⊥) → contains b s ≡ contains_any b (fields s)
unfolding contains contains_any fields
fields_contain b [] n = refl
fields_contain b (x ∷ s) n = go (eqb x comma) refl (fields_contain b s n)
  where
    put : (fs : List (List ℕ)) → contains_any b (longer x fs) ≡ (eqb x b || contains_any b fs)
    put [] = or-false (eqb x b || false) ∙ refl
    put (f ∷ fs) = or_assoc (eqb x b) (contains b f) (contains_any b fs)

    go : (t : Bool) → eqb x comma ≡ t → contains b s ≡ contains_any b (fields s)
        → (eqb x b || contains b s) ≡ contains_any b (cond t ([] ∷ fields s) (longer x (fields s)))
    go true h ih = rw (ne_eqb x b (λ e. n (sym e ∙ eqb-true x comma h))) ih
    go false h ih = rw ih (sym (put (fields s)))

-- A values line and a byte that is no comma and cannot stand in a value.
module _ (b : ℕ) (other : is_value_byte b ≡ false) where
  field_other : (most : ℕ) (f : List ℕ) → contains b f ≡ true → field_value most f ≡ None
  unfolding field_value
  field_other most f h = go (value_at most f 0) refl
    where
      whole : (v end : ℕ) → value_at most f 0 ≡ Found v end → (t : Bool) → eqb end (length f) ≡ t
          → cond t (Found v end) None ≡ None
      whole v end e true w =
          let (i, l, g) = at_contains b f h in
          absurd (false≢true
          (sym other ∙ ap is_value_byte (sym g) ∙ value_bytes most f 0 e i (omega arith)
          (omega (arith, eqb-true end (length f) w))))
      whole v end e false w = refl

      go : (x : Value) → value_at most f 0 ≡ x → if_whole f x ≡ None
      go (Found v end) e = whole v end e (eqb end (length f)) refl
      go None e = refl

  values_from_other : (c : Columns) (place : ℕ) (fs : List (List ℕ)) (v : Values) → contains_any b fs ≡ true
      → values_from c place fs v ≡ None
  unfolding contains_any
  values_from_other c place [] v h = absurd (false≢true h)
  values_from_other c place (f ∷ fs) v h =
      go (contains b f) refl h (λ (x : ℕ). values_from_other c (place + 1) fs (with_value v place x))
    where
      known : (x : Value) → field_value (column_digits (column_at c place)) f ≡ x
          → ((y : ℕ) → values_from c (place + 1) fs (with_value v place y) ≡ None) → values_from c place
          (f ∷ fs) v ≡ None
      known (Found y end) e ih = values_value c place v f fs e ∙ ih y
      known None e ih = values_other c place v f fs e

      go : (t : Bool) → contains b f ≡ t → (t || contains_any b fs) ≡ true
          → ((x : ℕ) → contains_any b fs ≡ true → values_from c (place + 1) fs (with_value v place x) ≡ None)
          → values_from c place (f ∷ fs) v ≡ None
      go true e h ih = values_other c place v f fs (field_other (column_digits (column_at c place)) f e)
      go false e h ih = known (field_value (column_digits (column_at c place)) f) refl (λ y. ih y h)

  pub values_other_byte : (b ≡ comma → ⊥) → (c : Columns) (s : List ℕ) (i : ℕ) → i < length s → get_or s i 0 ≡ b
      → values_line c s ≡ None
  unfolding values_line
  values_other_byte no_comma c s i h e =
      rw (values_from_other c 0 (fields s) no_values
      (sym (fields_contain b s no_comma) ∙ contains_at b s i h e)) (either_way (fits_line s) None)

-- A line feed.
pub values_line_feed : (c : Columns) (s : List ℕ) (i : ℕ) → i < length s → get_or s i 0 ≡ line_feed
    → values_line c s ≡ None
unfolding is_digit
values_line_feed = values_other_byte line_feed refl (λ e. omega arith)
