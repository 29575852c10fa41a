-- The answer of the lookup by the results of its tests, and what is handed back by that answer.
use mathlib.Core.Path.{◌≡◌, refl, sym, ap, ◌∙◌}
use mathlib.Core.Bool.{true, false}
use mathlib.Core.List.{List, [], ◌∷◌}
use Prim.Native.Nat.{ℕ, zero, suc, ◌+◌, ◌*◌, ◌-◌, ◌≤◌, ◌<◌}
use native.Mathlib.Omega.{arith}
use borrow.Author.Tests.{le-leb, lt-leb}
use lib.Dec.{leb}
use lib.ListN.{length, take, drop, length-drop}
use Rattle.sheet.specs.declared.Label.{Label}
use Rattle.sheet.specs.declared.UnitName.{UnitName}
use Rattle.sheet.specs.Record.{labels_in, numbers_of, units_in}
use Rattle.sheet.specs.Flow.{every, is_label}
use Rattle.sheet.proofs.Slices.{labels_length, labels_drop, places_enough}
use Rattle.lookup.specs.Lookup.{greatest_depth, is_rising, part_found}
use Rattle.lookup.specs.Lookup.{lookup_answer, lookup_values, lookup_part, lookup_place}
use Rattle.lookup.specs.Answer.{PartFrom}
use Rattle.sheet.specs.declared.Refusal.{Refusal}
use Rattle.sheet.specs.Answer.{Refused}
use Rattle.std.specs.Prelude.{Ok, Err}

-- ---- the answer

module _ (leading : UnitName) (labels : List Label) (basins : List ℕ) where
  pub answer_3 : length basins < length labels → Refused 3 0 ≡ lookup_answer leading labels basins
  unfolding lookup_answer
  answer_3 h = rw (lt-leb (length labels) (length basins) h)

  module _ (enough : length labels ≤ length basins) where
    fit : leb (length labels) (length basins) ≡ true
    fit = le-leb (length labels) (length basins) enough

    pub answer_11 : is_label greatest_depth leading.label ≡ false → Refused 11 0 ≡ lookup_answer leading labels basins
    unfolding lookup_answer
    answer_11 e = rw (fit, e)

    module _ (label : is_label greatest_depth leading.label ≡ true) where
      pub entries_11 : every (is_label greatest_depth) labels ≡ false → Refused 11 0 ≡ lookup_answer leading labels basins
      unfolding lookup_answer
      entries_11 e = rw (fit, label, e)

      module _ (entries : every (is_label greatest_depth) labels ≡ true) where
        pub answer_16 : is_rising (units_in basins labels) ≡ false → Refused 16 0 ≡ lookup_answer leading labels basins
        unfolding lookup_answer
        answer_16 e = rw (fit, label, entries, e)

        pub answer_part : is_rising (units_in basins labels) ≡ true
            → Ok (part_found leading (units_in basins labels)) ≡ lookup_answer leading labels basins
        unfolding lookup_answer
        answer_part e = rw (fit, label, entries, e)

-- ---- what is handed back

-- so many labels of a slice from a place on, as numbers
numbers_labels : (k : ℕ) (l : List ℕ) → 2 * k ≤ length l → numbers_of (take k (labels_in l)) ≡ take (2 * k) l
unfolding labels_in numbers_of
numbers_labels zero l h = refl
numbers_labels (suc k) [] h = absurd (omega arith)
numbers_labels (suc k) (a ∷ []) h = absurd (omega arith)
numbers_labels (suc k) (a ∷ b ∷ l) h =
    let twice : 2 * suc k ≡ suc (suc (2 * k)) = omega arith in
    rw twice (ap (λ (r : List ℕ). a ∷ b ∷ r) (numbers_labels k l (omega arith)))

part_numbers : (start count : ℕ) (l : List ℕ) → start + count ≤ length (labels_in l)
    → take (2 * start + 2 * count - 2 * start) (drop (2 * start) l)
    ≡ numbers_of (take count (drop start (labels_in l)))
part_numbers start count l h =
    let most : 2 * (start + count) ≤ length l =
    places_enough (start + count) (length l) (omega (arith, labels_length l)) in
    let size : 2 * start + 2 * count - 2 * start ≡ 2 * count = omega arith in
    rw (size, ← labels_drop start l)
    (sym (numbers_labels count (drop (2 * start) l) (omega (arith, length-drop (2 * start) l))))

module _ (leading : UnitName) (l basins : List ℕ) (start count : ℕ)
    (is : lookup_answer leading (labels_in l) basins ≡ PartFrom start count) where
  pub found_part : start + count ≤ length (labels_in l) → take (2 * start + 2 * count - 2 * start) (drop (2 * start) l)
      ≡ numbers_of (lookup_part leading (labels_in l) basins)
  unfolding lookup_part
  found_part h = part_numbers start count l h ∙ rw is

  pub found_place : (first : ℕ × ℕ)
      → (first.0, 2 * start * 8 + first.1) ≡ lookup_place leading (labels_in l) basins first
  unfolding lookup_place
  found_place first = let e : 2 * start * 8 + first.1 ≡ first.1 + 16 * start = omega arith in rw (is, e)

  pub found_number : 0 ≡ (lookup_values (lookup_answer leading (labels_in l) basins)).number
  found_number = rw is

module _ (leading : UnitName) (l basins : List ℕ) (refusal : Refusal)
    (is : lookup_answer leading (labels_in l) basins ≡ Err refusal) where
  pub refused_part : [] ≡ numbers_of (lookup_part leading (labels_in l) basins)
  unfolding lookup_part numbers_of
  refused_part = rw is

  pub refused_place : (first : ℕ × ℕ) → first ≡ lookup_place leading (labels_in l) basins first
  unfolding lookup_place
  refused_place first = let e : first.1 + 16 * 0 ≡ first.1 = omega arith in rw (is, e)

  pub refused_number : refusal.number ≡ (lookup_values (lookup_answer leading (labels_in l) basins)).number
  refused_number = rw is
