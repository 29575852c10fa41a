-- The tests of the index say what they mean, by places: all are labels, they rise, and every two part.
use mathlib.Core.Path.{◌≡◌, refl, ◌∙◌}
use mathlib.Core.Bool.{true}
use mathlib.Core.List.{List, [], ◌∷◌}
use mathlib.Core.Logic.{◌↔◌}
use Prim.Native.Nat.{ℕ, zero, suc, ◌<◌}
use native.Mathlib.Omega.{arith}
use lib.ListN.{length}
use Rattle.sheet.specs.declared.Label.{Label}
use Rattle.sheet.specs.Record.{no_digits}
use Rattle.sheet.specs.Flow.{every, is_label}
use Rattle.sheet.proofs.Within.{both_true}
use Rattle.claims.specs.Dictionary.{is_before}
use Rattle.claims.specs.Parting.{PartAt}
use Rattle.claims.proofs.Parting.{parted_at, at_parted}
use Rattle.lookup.specs.Lookup.{greatest_depth, is_rising}
use Rattle.lookup.specs.Exactly.{entry_digits}
use Rattle.lookup.proofs.Counted.{every_at, at_every}
use Rattle.lookup.proofs.Rising.{pairs_rising}
use Rattle.plan.specs.Plan.{units_of_one, parts, all_part}
use Rattle.plan.specs.Meaning.{label_in, digits_in, AllLabels, AllRise, AllParted}
use Rattle.plan.proofs.Parted.{parts_agree}
use Rattle.plan.proofs.UnitsOfOne.{units_of_one_length, digits_of_one, rising_of_one}

-- 11
pub labels_agree : (index : List Label) → (every (is_label greatest_depth) index ≡ true) ↔ AllLabels index
labels_agree index = (
  λ e. record { labels = λ i l. every_at no_digits (is_label greatest_depth) index i e l },
  λ a. at_every no_digits (is_label greatest_depth) index a.labels,
)

-- 16
rise_rising : (index : List Label) → AllRise index → is_rising (units_of_one index) ≡ true
rise_rising index a = pairs_rising (units_of_one index) (record { earlier = earlier })
  where
    earlier : (i j : ℕ) → i < j → j < length (units_of_one index)
        → is_before (entry_digits (units_of_one index) i) (entry_digits (units_of_one index) j) ≡ true
    earlier i j l h =
        let within : j < length index = omega (arith, units_of_one_length index) in
        digits_of_one index i j (omega arith) within ∙ a.rise i j l within

pub rising_agree : (index : List Label) → (is_rising (units_of_one index) ≡ true) ↔ AllRise index
rising_agree index = (λ e. record { rise = rising_of_one index e }, rise_rising index)

-- 12, of two labels
parts_at : (labels : List Label) → all_part labels ≡ true → (i j : ℕ) → i < j → j < length labels
    → parts (label_in labels i) (label_in labels j) ≡ true
unfolding all_part
parts_at [] e i j l h = absurd (omega arith)
parts_at (p ∷ labels) e i zero l h = absurd (omega arith)
parts_at (p ∷ labels) e zero (suc j) l h =
    every_at no_digits (parts p) labels j (both_true (every (parts p) labels) (all_part labels) e).0 (omega arith)
parts_at (p ∷ labels) e (suc i) (suc j) l h =
    parts_at labels (both_true (every (parts p) labels) (all_part labels) e).1 i j (omega arith) (omega arith)

at_parts : (labels : List Label)
    → ((i j : ℕ) → i < j → j < length labels → parts (label_in labels i) (label_in labels j) ≡ true)
    → all_part labels ≡ true
unfolding all_part
at_parts [] f = refl
at_parts (p ∷ labels) f =
    rw (at_every no_digits (parts p) labels (λ j l. f 0 (suc j) (omega arith) (omega arith)))
    (at_parts labels (λ i j l h. f (suc i) (suc j) (omega arith) (omega arith)))

-- of all
pub parted_agree : (index : List Label) → (all_part index ≡ true) ↔ AllParted index
parted_agree index = (λ e. record { parted = parted e }, λ a. at_parts index (part a))
  where
    parted : all_part index ≡ true → (i j : ℕ) → i < j → j < length index
        → (k : ℕ) × PartAt (digits_in index i) (digits_in index j) k
    parted e i j l h = parted_at ((parts_agree (label_in index i) (label_in index j)).0 (parts_at index e i j l h))

    part : AllParted index → (i j : ℕ) → i < j → j < length index → parts (label_in index i) (label_in index j) ≡ true
    part a i j l h =
        let r = a.parted i j l h in
        (parts_agree (label_in index i) (label_in index j)).1
        (at_parted (digits_in index i) (digits_in index j) r.0 r.1)
