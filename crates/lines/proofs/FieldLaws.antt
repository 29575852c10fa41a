-- Laws of the fields of a line.
use Prim.Native.Nat.{ℕ, ◌+◌, ◌<◌}
use mathlib.Core.Path.{◌≡◌, refl, sym, ap, ◌∙◌}
use mathlib.Core.List.{List, [], ◌∷◌}
use mathlib.Core.Bool.{Bool, true, false, cond}
use lib.ListN.{length, drop, get_or}
use native.Mathlib.Numerals.{add-one}
use lib.Seq.{drop-cons}
use lib.Dec.{eqb}
use Rattle.std.specs.List.{slice_split, onto_first, join_with_byte}
use Rattle.std.proofs.lemmas.List.Splits.{join_with_byte-slice_split}
use Rattle.std.proofs.lemmas.Slice.Eq.{bytes_eq-Decides}
use Rattle.decimal.specs.Ascii.{comma}
use Rattle.lines.specs.Fields.{longer, fields, same_bytes}

-- the fields of a line are what the library's split at commas gives
pub fields_split : (s : List ℕ) → fields s ≡ slice_split (λ b. eqb b comma) s
unfolding fields
fields_split [] = refl
fields_split (b ∷ s) = rw (fields_split s) (go (eqb b comma) (slice_split (λ b. eqb b comma) s))
  where
    go : (t : Bool) (parts : List (List ℕ)) → cond t ([] ∷ parts) (longer b parts) ≡ cond t ([] ∷ parts) (onto_first b parts)
    go true parts = refl
    go false [] = refl
    go false (part ∷ parts) = refl

-- a line of one field is that field
pub one_field : (s : List ℕ) {f : List ℕ} → fields s ≡ f ∷ [] → s ≡ f
one_field s e =
    sym (join_with_byte-slice_split comma s) ∙ ap (join_with_byte comma) (sym (fields_split s) ∙ e)

-- the field at a place and those after it
pub field_and_later : (fs : List (List ℕ)) (place : ℕ) {f : List ℕ} → place < length fs → f ≡ get_or fs place f
    → drop place fs ≡ f ∷ drop (place + 1) fs
field_and_later fs place {f} h e = rw add-one (drop-cons fs place f h) ∙ ap (λ g. g ∷ drop (place + 1) fs) (sym e)

-- Lists of bytes compared.
pub same_equal : (s t : List ℕ) → same_bytes s t ≡ true → s ≡ t
unfolding same_bytes
same_equal s t e = (bytes_eq-Decides s t).0 e
