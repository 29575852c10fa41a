-- The test of a rising list agrees with the relation of all its entries, and goes from place to place.
use mathlib.Core.Path.{◌≡◌, refl, sym, ◌∙◌}
use mathlib.Core.Bool.{Bool, true, false, ◌&&◌}
use mathlib.Core.List.{List, [], ◌∷◌}
use mathlib.Core.Logic.{◌↔◌}
use Prim.Native.Nat.{ℕ, zero, suc, ◌+◌, ◌-◌, ◌≤◌, ◌<◌}
use native.Mathlib.Numerals.{add-one}
use native.Mathlib.Omega.{arith}
use lib.ListN.{length, drop, drop_of_length-le}
use lib.Seq.{drop-cons}
use Rattle.std.specs.List.{list_all, range_with_len}
use Rattle.claims.proofs.Dictionary.{before_transitive}
use Rattle.sheet.specs.declared.UnitName.{UnitName}
use Rattle.sheet.specs.Record.{no_digits, unit_name, basin_and_digits}
use Rattle.sheet.proofs.Within.{both_true}
use Rattle.lookup.specs.Lookup.{stands_before, rising_from, is_rising}
use Rattle.lookup.specs.Exactly.{entry_at, NeighboursRise, PairsRise}

pub stands_transitive : (m k j : UnitName) → stands_before m k ≡ true → stands_before k j ≡ true → stands_before m j ≡ true
unfolding stands_before
stands_transitive m k j e f = before_transitive (basin_and_digits m) (basin_and_digits k) (basin_and_digits j) e f

-- ---- all pairs

rising_first : (m : UnitName) (units : List UnitName) → rising_from m units ≡ true → (j : ℕ) → j < length units
    → stands_before m (entry_at units j) ≡ true
unfolding rising_from
rising_first m [] e j l = absurd (omega arith)
rising_first m (k ∷ units) e zero l = (both_true (stands_before m k) (rising_from k units) e).0
rising_first m (k ∷ units) e (suc j) l =
    let b = both_true (stands_before m k) (rising_from k units) e in
    stands_transitive m k (entry_at units j) b.0 (rising_first k units b.1 j (omega arith))

pub rising_rest : (m : UnitName) (units : List UnitName) → rising_from m units ≡ true → is_rising units ≡ true
unfolding is_rising
rising_rest m [] e = refl
rising_rest m (k ∷ units) e = (both_true (stands_before m k) (rising_from k units) e).1

pairs : (units : List UnitName) → is_rising units ≡ true → (i j : ℕ) → i < j → j < length units
    → stands_before (entry_at units i) (entry_at units j) ≡ true
unfolding is_rising
pairs [] e i j l h = absurd (omega arith)
pairs (m ∷ units) e zero zero l h = absurd (omega arith)
pairs (m ∷ units) e zero (suc j) l h = rising_first m units e j (omega arith)
pairs (m ∷ units) e (suc i) zero l h = absurd (omega arith)
pairs (m ∷ units) e (suc i) (suc j) l h = pairs units (rising_rest m units e) i j (omega arith) (omega arith)

pub rising_pairs : (units : List UnitName) → is_rising units ≡ true → PairsRise units
unfolding stands_before
rising_pairs units e = record { earlier = pairs units e }

-- ---- neighbours alone

from_neighbours : (m : UnitName) (units : List UnitName) → ((i : ℕ) → suc i < suc (length units)
    → stands_before (entry_at (m ∷ units) i) (entry_at units i) ≡ true) → rising_from m units ≡ true
unfolding rising_from
from_neighbours m [] next = refl
from_neighbours m (k ∷ units) next =
    rw (next 0 (omega arith)) (from_neighbours k units (λ i l. next (suc i) (omega arith)))

pub neighbours_rising : (units : List UnitName) → NeighboursRise units → is_rising units ≡ true
unfolding is_rising stands_before
neighbours_rising [] n = refl
neighbours_rising (m ∷ units) n = from_neighbours m units n.earlier

pub pairs_rising : (units : List UnitName) → PairsRise units → is_rising units ≡ true
pairs_rising units r =
    neighbours_rising units (record { earlier = λ i l. r.earlier i (suc i) (omega arith) l })

pub rising_agrees : (units : List UnitName) → (is_rising units ≡ true) ↔ PairsRise units
rising_agrees units = (rising_pairs units, pairs_rising units)

-- ---- from place to place

pub rising_start : (units : List UnitName) → rising_from (entry_at units 0) (drop 1 units) ≡ is_rising units
unfolding is_rising
rising_start [] = refl
rising_start (m ∷ units) = refl

module _ (units : List UnitName) (i : ℕ) where
  pub rising_end : (m : UnitName) → length units ≤ i → rising_from m (drop i units) ≡ true
  unfolding rising_from
  rising_end m h = rw drop_of_length-le

  pub rising_no : (m : UnitName) → i < length units → stands_before m (entry_at units i) ≡ false
      → rising_from m (drop i units) ≡ false
  unfolding rising_from
  rising_no m h e = rw (drop-cons units i (unit_name 0 no_digits), e)

  pub rising_turn : (m : UnitName) → i < length units → stands_before m (entry_at units i) ≡ true
      → rising_from (entry_at units (i + 1 - 1)) (drop (i + 1) units) ≡ rising_from m (drop i units)
  unfolding rising_from
  rising_turn m h e =
      let back : i + 1 - 1 ≡ i = omega arith in
      rw (back, add-one i, drop-cons units i (unit_name 0 no_digits), e)

-- ---- told over the places of the units but the first

module _ (units : List UnitName) (test : ℕ → Bool)
    (agrees : (k : ℕ) → 1 ≤ k → k < length units → test k ≡ stands_before (entry_at units (k - 1)) (entry_at units k)) where
  one_place : (i : ℕ) (r : Bool) → 1 ≤ i → i < length units
      → r ≡ rising_from (entry_at units (i + 1 - 1)) (drop (i + 1) units) → (b : Bool)
      → stands_before (entry_at units (i - 1)) (entry_at units i) ≡ b
      → (test i && r) ≡ rising_from (entry_at units (i - 1)) (drop i units)
  one_place i r some place rest true e =
      rw (agrees i some place, e, rest) (rising_turn units i (entry_at units (i - 1)) place e)
  one_place i r some place rest false e =
      rw (agrees i some place, e) (sym (rising_no units i (entry_at units (i - 1)) place e))

  from_place : (i n : ℕ) → 1 ≤ i → n ≡ length units - i
      → list_all test (range_with_len i n) ≡ rising_from (entry_at units (i - 1)) (drop i units)
  from_place i zero some h = sym (rising_end units i (entry_at units (i - 1)) (omega arith))
  from_place i (suc n) some h =
      one_place i _ some (omega arith) (from_place (i + 1) n (omega arith) (omega arith)) _ refl

  pub rising_places : list_all test (range_with_len 1 (length units - 1)) ≡ is_rising units
  rising_places = from_place 1 (length units - 1) (omega arith) refl ∙ rising_start units
