-- How many entries pass a test: place by place, for two tests, and where those that pass stand first.
use mathlib.Core.Path.{◌≡◌, refl, sym, ap, ◌∙◌}
use mathlib.Core.Bool.{Bool, true, false, cond, true≢false}
use mathlib.Core.List.{List, [], ◌∷◌}
use Prim.Native.Nat.{ℕ, zero, suc, ◌+◌, ◌/◌, ◌≤◌, ◌<◌}
use native.Mathlib.Numerals.{add-one}
use native.Mathlib.Omega.{arith}
use borrow.Author.Tests.{lt-ltb, le-ltb}
use lib.Dec.{ltb, leb-suc-suc}
use lib.ListN.{length, drop, get_or, drop_of_length-le}
use lib.Seq.{drop-cons}
use Rattle.std.specs.List.{filter, range_with_len}
use Rattle.sheet.specs.declared.UnitName.{UnitName}
use Rattle.sheet.specs.Record.{no_digits, unit_name, labels_in, label_places, units_in, unit_at}
use Rattle.sheet.specs.Flow.{every}
use Rattle.sheet.proofs.Slices.{labels_length}
use Rattle.sheet.proofs.Units.{units_length, unit_listed}
use Rattle.sheet.proofs.Within.{both_true}
use Rattle.lookup.specs.Lookup.{counted, stands_before, rising_from, is_rising}
use Rattle.lookup.specs.Exactly.{entry_at}
use Rattle.lookup.proofs.Rising.{rising_rest}

-- a unit for places past the last
abbrev no_unit : UnitName
no_unit = unit_name 0 no_digits

-- ---- the entries of slices

-- as many labels as a slice has whole pairs of numbers
pub labels_counted : (l : List ℕ) → length (labels_in l) ≡ length l / 2
unfolding label_places
labels_counted l = labels_length l

-- each of which has a basin
module _ (l basins : List ℕ) (fit : length (labels_in l) ≤ length basins) where
  -- so many entries
  pub entries_counted : length (units_in basins (labels_in l)) ≡ length l / 2
  entries_counted = units_length basins (labels_in l) fit ∙ labels_counted l

  -- the entry at a place
  pub unit_entry_lem : (i : ℕ) → i < length l / 2 → unit_at basins l i ≡ entry_at (units_in basins (labels_in l)) i
  unit_entry_lem i h =
      sym (unit_listed basins (labels_in l) i (omega (arith, labels_counted l)) (omega (arith, labels_counted l)))

-- ---- place by place

module _ (test : UnitName → Bool) (units : List UnitName) (i : ℕ) where
  pub counted_end : length units ≤ i → counted test (drop i units) ≡ 0
  unfolding counted
  counted_end h = rw drop_of_length-le

  pub counted_yes : i < length units → test (entry_at units i) ≡ true
      → counted test (drop i units) ≡ suc (counted test (drop (i + 1) units))
  unfolding counted
  counted_yes h e = rw (add-one i, drop-cons units i no_unit, e)

  pub counted_no : i < length units → test (entry_at units i) ≡ false
      → counted test (drop i units) ≡ counted test (drop (i + 1) units)
  unfolding counted
  counted_no h e = rw (add-one i, drop-cons units i no_unit, e)

-- told over the places of the entries
module _ (test : UnitName → Bool) (units : List UnitName) (at : ℕ → Bool)
    (agrees : (k : ℕ) → k < length units → at k ≡ test (entry_at units k)) where
  one_place : (i : ℕ) (r : List ℕ) → i < length units → length r ≡ counted test (drop (i + 1) units) → (b : Bool)
      → test (entry_at units i) ≡ b → length (cond (at i) (i ∷ r) r) ≡ counted test (drop i units)
  one_place i r place rest true e = rw (agrees i place, e, counted_yes test units i place e) (ap suc rest)
  one_place i r place rest false e = rw (agrees i place, e, counted_no test units i place e) rest

  pub counted_places : (i n : ℕ) → i + n ≡ length units
      → length (filter at (range_with_len i n)) ≡ counted test (drop i units)
  counted_places i zero h = sym (counted_end test units i (omega arith))
  counted_places i (suc n) h = one_place i _ (omega arith) (counted_places (i + 1) n (omega arith)) _ refl

-- what every entry passes, each does
pub every_at : {A : Type 0} (none : A) (test : A → Bool) (x : List A) (i : ℕ) → every test x ≡ true → i < length x
    → test (get_or x i none) ≡ true
unfolding every
every_at none test [] i e h = absurd (omega arith)
every_at none test (m ∷ x) zero e h = (both_true (test m) (every test x) e).0
every_at none test (m ∷ x) (suc i) e h =
    every_at none test x i (both_true (test m) (every test x) e).1 (omega arith)

-- and a test that is passed at each place, every entry passes
pub at_every : {A : Type 0} (none : A) (test : A → Bool) (x : List A)
    → ((i : ℕ) → i < length x → test (get_or x i none) ≡ true) → every test x ≡ true
unfolding every
at_every none test [] f = refl
at_every none test (m ∷ x) f = rw (f 0 (omega arith)) (at_every none test x (λ i l. f (suc i) (omega arith)))

pub counted_most : (test : UnitName → Bool) (units : List UnitName) → counted test units ≤ length units
unfolding counted
counted_most test [] = omega arith
counted_most test (m ∷ units) = go (test m) (counted_most test units)
  where
    go : (b : Bool) → counted test units ≤ length units
        → cond b (suc (counted test units)) (counted test units) ≤ suc (length units)
    go true h = omega arith
    go false h = omega arith

-- ---- two tests

abbrev pub either : (UnitName → Bool) → (UnitName → Bool) → UnitName → Bool
either f g m = cond (f m) true (g m)

-- tests that agree on what is judged
pub counted_agree : (judge f g : UnitName → Bool) (units : List UnitName)
    → ((m : UnitName) → judge m ≡ true → f m ≡ g m) → every judge units ≡ true → counted f units ≡ counted g units
unfolding counted every
counted_agree judge f g [] same e = refl
counted_agree judge f g (m ∷ units) same e =
    let b = both_true (judge m) (every judge units) e in
    rw (same m b.0, counted_agree judge f g units same b.1)

-- tests of which none passes both
pub counted_either : (f g : UnitName → Bool) (units : List UnitName) → ((m : UnitName) → g m ≡ true → f m ≡ false)
    → counted (either f g) units ≡ counted f units + counted g units
unfolding counted
counted_either f g [] apart = refl
counted_either f g (m ∷ units) apart = go (f m) (g m) (apart m) (counted_either f g units apart)
  where
    go : (s t : Bool) → (t ≡ true → s ≡ false)
        → counted (either f g) units ≡ counted f units + counted g units
        → cond (cond s true t) (suc (counted (either f g) units)) (counted (either f g) units)
        ≡ cond s (suc (counted f units)) (counted f units) + cond t (suc (counted g units)) (counted g units)
    go true true k h = absurd (true≢false (k refl))
    go true false k h = omega arith
    go false true k h = omega arith
    go false false k h = omega arith

-- ---- a test that holds for what stands before an entry that passes

module _ (test : UnitName → Bool)
    (closed : (m k : UnitName) → stands_before m k ≡ true → test k ≡ true → test m ≡ true) where
  none_after : (m : UnitName) (units : List UnitName) → rising_from m units ≡ true → test m ≡ false
      → counted test units ≡ 0
  unfolding counted rising_from
  none_after m [] e f = refl
  none_after m (k ∷ units) e f =
      let b = both_true (stands_before m k) (rising_from k units) e in
      go (test k) refl b.0 (none_after k units b.1)
    where
      go : (t : Bool) → test k ≡ t → stands_before m k ≡ true → (test k ≡ false → counted test units ≡ 0)
          → cond t (suc (counted test units)) (counted test units) ≡ 0
      go true p h rest = absurd (true≢false (sym (closed m k h p) ∙ f))
      go false p h rest = rest p

  -- in a rising list the entries that pass stand first
  pub rising_counted : (units : List UnitName) → is_rising units ≡ true → (i : ℕ) → i < length units
      → test (entry_at units i) ≡ ltb i (counted test units)
  unfolding is_rising counted
  rising_counted [] e i l = absurd (omega arith)
  rising_counted (m ∷ units) e i l = go (test m) refl (rising_counted units (rising_rest m units e)) i l
    where
      go : (t : Bool) → test m ≡ t
          → ((j : ℕ) → j < length units → test (entry_at units j) ≡ ltb j (counted test units)) → (i : ℕ)
          → i < suc (length units)
          → test (entry_at (m ∷ units) i) ≡ ltb i (cond t (suc (counted test units)) (counted test units))
      go true p rest zero l = p ∙ sym (lt-ltb 0 (suc (counted test units)) (omega arith))
      go true p rest (suc i) l = rest i (omega arith) ∙ sym (leb-suc-suc (suc i) (counted test units))
      go false p rest zero l = p ∙ rw (none_after m units e p)
      go false p rest (suc i) l =
          let none = none_after m units e p in
          rest i (omega arith) ∙ rw (none, le-ltb i 0 (omega arith), le-ltb (suc i) 0 (omega arith))
