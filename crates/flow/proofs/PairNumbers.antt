-- Laws of the call for many pairs: as many numbers as pairs, each that of its own pair, and how they are written one by
-- one.
use mathlib.Core.Path.{◌≡◌, refl, sym, ap, ◌∙◌}
use mathlib.Core.Bool.{Bool, true, false, cond}
use mathlib.Core.List.{List, [], ◌∷◌}
use Prim.Native.Nat.{ℕ, zero, suc, ◌+◌, ◌≤◌, ◌<◌}
use native.Mathlib.Numerals.{add-one}
use native.Mathlib.Omega.{arith}
use borrow.Author.Tests.{le-leb, lt-leb, leb-true, leb-false}
use lib.Dec.{leb, leb-suc-suc}
use lib.ListN.{length, get_or, drop, set, length-set, drop_of_length-le}
use lib.Seq.{drop-cons, sets}
use Rattle.sheet.specs.declared.UnitName.{UnitName}
use Rattle.sheet.specs.Record.{no_digits, unit_name, labels_in, label_places, units_in, unit_at}
use Rattle.sheet.specs.Refusal.{both, written}
use Rattle.sheet.specs.Flow.{flow, answer_number}
use Rattle.sheet.proofs.Lists.{written_whole}
use Rattle.sheet.proofs.Slices.{labels_length}
use Rattle.sheet.proofs.Units.{units_most, units_enough, unit_listed}
use Rattle.sheet.proofs.Within.{both_true}
use Rattle.flow.specs.Pairs.{pair_numbers, pair_count, slices_fit}

-- a unit for places past the last
abbrev pub no_unit : UnitName
no_unit = unit_name 0 no_digits

-- ---- the count of pairs

module _ (m n : ℕ) where
  count_within : (pair_count m n ≤ m) × (pair_count m n ≤ n)
  unfolding pair_count
  count_within = go (leb m n) refl
    where
      go : (b : Bool) → leb m n ≡ b → (cond b m n ≤ m) × (cond b m n ≤ n)
      go true e = (omega arith, leb-true m n e)
      go false e = (omega (arith, leb-false m n e), omega arith)

  pub count_p : pair_count m n ≤ m
  count_p = count_within.0

  pub count_q : pair_count m n ≤ n
  count_q = count_within.1

count_suc : (m n : ℕ) → suc (pair_count m n) ≡ pair_count (suc m) (suc n)
unfolding pair_count
count_suc m n = rw leb-suc-suc (go (leb m n))
  where
    go : (b : Bool) → suc (cond b m n) ≡ cond b (suc m) (suc n)
    go true = refl
    go false = refl

-- one number for each pair
pub numbers_count : (depth least : ℕ) (x y : List UnitName)
    → length (pair_numbers depth least x y) ≡ pair_count (length x) (length y)
unfolding pair_numbers pair_count
numbers_count depth least [] y = rw (le-leb 0 (length y) (omega arith))
numbers_count depth least (p ∷ x) [] = rw (lt-leb (suc (length x)) 0 (omega arith))
numbers_count depth least (p ∷ x) (q ∷ y) = ap suc (numbers_count depth least x y) ∙ count_suc (length x) (length y)

-- the least of two numbers
count_least : (k m n : ℕ) → k ≤ m → k ≤ n → k ≤ pair_count m n
unfolding pair_count
count_least k m n h g = go (leb m n)
  where
    go : (b : Bool) → k ≤ cond b m n
    go true = h
    go false = g

count_same : (k m n a b : ℕ) → k ≡ pair_count m n → a ≤ m → b ≤ n → k ≤ a → k ≤ b → k ≡ pair_count a b
count_same k m n a b e h g s t =
    let more : pair_count a b ≤ pair_count m n =
    count_least (pair_count a b) m n (omega (arith, count_p a b)) (omega (arith, count_q a b)) in
    omega (arith, count_least k a b s t)

-- ---- the lent slices

-- what is known where basins and answers have a place for each pair
pub record SlicesFit (count p-basins q-basins answers : ℕ) : Type 0 where
  pub of_p : count ≤ p-basins
  pub of_q : count ≤ q-basins
  pub of_answers : count ≤ answers

pub slices_fit_lem : (count p-basins q-basins answers : ℕ) → slices_fit count p-basins q-basins answers ≡ true
    → SlicesFit count p-basins q-basins answers
unfolding slices_fit
slices_fit_lem count p-basins q-basins answers e =
    let a = both_true (leb count p-basins) (both (leb count q-basins) (leb count answers)) e in
    let b = both_true (leb count q-basins) (leb count answers) a.1 in
    record {
      of_p = leb-true count p-basins a.0;
      of_q = leb-true count q-basins b.0;
      of_answers = leb-true count answers b.1;
    }

-- there are as many pairs of units as pairs of labels where each has its basins
pub units_counted : (count : ℕ) (p p-basins q q-basins : List ℕ)
    → count ≡ pair_count (label_places (length p)) (label_places (length q))
    → count ≤ length p-basins → count ≤ length q-basins
    → count ≡ pair_count (length (units_in p-basins (labels_in p))) (length (units_in q-basins (labels_in q)))
units_counted count p p-basins q q-basins e h g =
    let m = label_places (length p) in
    let n = label_places (length q) in
    let of_p : count ≤ length (labels_in p) = omega (arith, labels_length p, count_p m n) in
    let of_q : count ≤ length (labels_in q) = omega (arith, labels_length q, count_q m n) in
    count_same count m n _ _ e (omega (arith, units_most p-basins (labels_in p), labels_length p))
    (omega (arith, units_most q-basins (labels_in q), labels_length q))
    (units_enough count p-basins (labels_in p) h of_p) (units_enough count q-basins (labels_in q) g of_q)

-- the unit at a place, among all
pub unit_at_lem : (basins numbers : List ℕ) (i : ℕ) → i < length basins → i < label_places (length numbers)
    → unit_at basins numbers i ≡ get_or (units_in basins (labels_in numbers)) i no_unit
unit_at_lem basins numbers i h g =
    sym (unit_listed basins (labels_in numbers) i h (omega (arith, labels_length numbers)))

-- ---- the numbers by place

none_of_q : (depth least : ℕ) (x : List UnitName) → pair_numbers depth least x [] ≡ []
unfolding pair_numbers
none_of_q depth least [] = refl
none_of_q depth least (p ∷ x) = refl

module _ (depth least : ℕ) (x y : List UnitName) (i : ℕ) where
  numbers_here : i < pair_count (length x) (length y)
      → pair_numbers depth least (drop i x) (drop i y)
      ≡ answer_number (flow depth least (get_or x i no_unit) (get_or y i no_unit))
      ∷ pair_numbers depth least (drop (suc i) x) (drop (suc i) y)
  unfolding pair_numbers
  numbers_here h =
      rw (
        drop-cons x i no_unit (omega (arith, count_p (length x) (length y))),
        drop-cons y i no_unit (omega (arith, count_q (length x) (length y))),
      )

  numbers_end : pair_count (length x) (length y) ≤ i → pair_numbers depth least (drop i x) (drop i y) ≡ []
  unfolding pair_numbers pair_count
  numbers_end h = go (leb (length x) (length y)) h
    where
      go : (b : Bool) → cond b (length x) (length y) ≤ i → pair_numbers depth least (drop i x) (drop i y) ≡ []
      go true g = rw (drop_of_length-le x g)
      go false g = rw (drop_of_length-le y g) (none_of_q depth least (drop i x))

-- the number at a place is that of the flow question's answer for the units at that place
pub number_at : (depth least : ℕ) (x y : List UnitName) (i : ℕ) → i < pair_count (length x) (length y)
    → get_or (pair_numbers depth least x y) i 0 ≡ answer_number (flow depth least (get_or x i no_unit) (get_or y i no_unit))
unfolding pair_numbers pair_count
number_at depth least [] y i h = absurd (omega (arith, count_p 0 (length y)))
number_at depth least (p ∷ x) [] i h = absurd (omega (arith, count_q (suc (length x)) 0))
number_at depth least (p ∷ x) (q ∷ y) zero h = refl
number_at depth least (p ∷ x) (q ∷ y) (suc i) h =
    number_at depth least x y i (omega (arith, count_suc (length x) (length y)))

-- ---- written one by one

-- the numbers before place i are written; `before` was lent, and `answers` is what the slice holds
pub record Answering (depth least : ℕ) (x y : List UnitName) (before answers : List ℕ) (i : ℕ) : Type 0 where
  pub to_do : sets answers i (pair_numbers depth least (drop i x) (drop i y)) ≡ written
      (pair_numbers depth least x y) before
  pub same_length : length answers ≡ length before

module _ (depth least : ℕ) (x y : List UnitName) (before : List ℕ) where
  pub answering_starts : pair_count (length x) (length y) ≤ length before → Answering depth least x y before before 0
  answering_starts h = record {
    to_do = written_whole (pair_numbers depth least x y) before (omega (arith, numbers_count depth least x y));
    same_length = refl;
  }

  module _ {answers : List ℕ} {i : ℕ} (a : Answering depth least x y before answers i) where
    pub answering_goes_on : (number : ℕ) → i < pair_count (length x) (length y)
        → number ≡ answer_number (flow depth least (get_or x i no_unit) (get_or y i no_unit))
        → Answering depth least x y before (set answers i number) (i + 1)
    answering_goes_on number h e = record {
      to_do = rw (add-one i, e) (rw (numbers_here depth least x y i h) at a.to_do);
      same_length = length-set answers i number ∙ a.same_length;
    }

    pub answering_ends : pair_count (length x) (length y) ≤ i → answers ≡ written (pair_numbers depth least x y) before
    answering_ends h = rw (numbers_end depth least x y i h) at a.to_do
