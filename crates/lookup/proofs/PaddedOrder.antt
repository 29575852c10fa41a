-- Padded labels stand as numbers in the order of the dictionary, and those that begin with leading digits in a range.
use mathlib.Core.Path.{◌≡◌, refl, sym, ◌∙◌}
use mathlib.Core.Bool.{Bool, true, false, cond}
use mathlib.Core.List.{List, [], ◌∷◌}
use Prim.Native.Nat.{ℕ, zero, suc, ◌+◌, ◌*◌, ◌-◌, ◌^◌, ◌≤◌, ◌<◌}
use native.Mathlib.Omega.{arith}
use native.Mathlib.Nat.{mul-le-mul_right, one-le-pow, pow-suc, sub-zero}
use lib.Dec.{eqb, ltb}
use lib.ListN.{length}
use borrow.Author.Tests.{lt-ltb, le-ltb, ltb-true, ltb-false, eq-eqb, ne_eqb, eqb-true, eqb-false}
use Rattle.claims.specs.Dictionary.{is_before}
use Rattle.sheet.specs.declared.Label.{Label}
use Rattle.sheet.specs.declared.UnitName.{UnitName}
use Rattle.sheet.specs.Record.{Digits, digits_none, digits_cons, number_from, number, digits_of, basin_and_digits}
use Rattle.sheet.specs.Flow.{is_label}
use Rattle.sheet.proofs.Records.{label_shape}
use Rattle.lookup.specs.Lookup.{greatest_depth, begins, stands_before, begins_with}
use Rattle.lookup.specs.Padded.{with_zeros, padded, padded_end, is_below}

-- ---- digits in k places, the most significant first, with zeros behind them

unfoldable pub value : ℕ → List ℕ → ℕ
value k [] = 0
value zero (a ∷ x) = 0
value (suc k) (a ∷ x) = a * 10 ^ k + value k x

pub power_some : (k : ℕ) → 1 ≤ 10 ^ k
power_some k = one-le-pow k 10 (omega arith)

-- how many numbers of k places begin with so many digits
abbrev pub span : ℕ → ℕ → ℕ
span k count = 10 ^ (k - count)

span_next : (k count : ℕ) → span (suc k) (suc count) ≡ span k count
span_next k count = let e : suc k - suc count ≡ k - count = omega arith in rw e

-- the labels that begin so end before the next power
value_span : (k : ℕ) (x : List ℕ) → Digits 9 x → length x ≤ k → value k x + span k (length x) ≤ 10 ^ k
unfolding value
value_span k [] digits_none h = rw (sub-zero k) (omega arith)
value_span zero (a ∷ x) d h = absurd (omega arith)
value_span (suc k) (a ∷ x) (digits_cons low high d) h =
    let rest = value_span k x d (omega arith) in
    let one : suc a ≤ 10 = omega arith in
    omega (arith, mul-le-mul_right (10 ^ k) one, pow-suc 10 k, span_next k (length x))

pub value_below : (k : ℕ) (x : List ℕ) → Digits 9 x → length x ≤ k → value k x < 10 ^ k
value_below k x d h = omega (arith, value_span k x d h, power_some (k - length x))

pub number_value : (k m : ℕ) (x : List ℕ) → length x ≤ k → number_from m x * span k (length x) ≡ m * 10 ^ k + value k x
unfolding number_from value
number_value k m [] h = rw (sub-zero k) (omega arith)
number_value zero m (a ∷ x) h = absurd (omega arith)
number_value (suc k) m (a ∷ x) h =
    rw (span_next k (length x), pow-suc 10 k) (omega (arith, number_value k (m * 10 + a) x (omega arith)))

-- ---- where x stands to the leading digits w, and its value to theirs

data Stands (k : ℕ) (w x : List ℕ) : Type 0 where
  ahead : is_before x w ≡ true → begins w x ≡ false → value k x < value k w → Stands k w x
  inside : is_before x w ≡ false → begins w x ≡ true → value k w ≤ value k x
      → value k x < value k w + span k (length w) → Stands k w x
  past : is_before x w ≡ false → begins w x ≡ false → value k w + span k (length w) ≤ value k x → Stands k w x

stands : (k : ℕ) (w x : List ℕ) → Digits 9 w → Digits 9 x → length w ≤ k → length x ≤ k → Stands k w x
unfolding value is_before begins
stands k [] x d f h g = inside refl refl (omega arith) (rw (sub-zero k) (omega (arith, value_below k x f g)))
stands zero (a ∷ w) x d f h g = absurd (omega arith)
stands (suc k) (a ∷ w) [] (digits_cons low high d) f h g =
    ahead refl refl (omega (arith, mul-le-mul_right (10 ^ k) low, power_some k))
stands (suc k) (a ∷ w) (b ∷ x) (digits_cons low high d) (digits_cons least most f) h g =
    go (ltb b a) refl (ltb a b) refl (stands k w x d f (omega arith) (omega arith))
    (value_below k x f (omega arith)) (value_span k w d (omega arith))
  where
    go : (s : Bool) → ltb b a ≡ s → (t : Bool) → ltb a b ≡ t → Stands k w x → value k x < 10 ^ k
        → value k w + span k (length w) ≤ 10 ^ k → Stands (suc k) (a ∷ w) (b ∷ x)
    go true p t q r below room =
        let l = ltb-true b a p in
        ahead (rw (ne_eqb b a (λ e. omega arith), p)) (rw (ne_eqb a b (λ e. omega arith)))
        (omega (arith, mul-le-mul_right (10 ^ k) l))
    go false p true q r below room =
        let l = ltb-true a b q in
        past (rw (ne_eqb b a (λ e. omega arith), p)) (rw (ne_eqb a b (λ e. omega arith)))
        (omega (arith, mul-le-mul_right (10 ^ k) l, span_next k (length w)))
    go false p false q r below room =
        let e : b ≡ a = omega (arith, ltb-false b a p, ltb-false a b q) in
        let next = span_next k (length w) in
        rw e (elim r [
          | ahead i j l ↦ ahead (rw (eq-eqb a a refl) i) (rw (eq-eqb a a refl) j) (omega arith)
          | inside i j l m ↦ inside (rw (eq-eqb a a refl) i) (rw (eq-eqb a a refl) j) (omega arith)
              (omega (arith, next))
          | past i j l ↦ past (rw (eq-eqb a a refl) i) (rw (eq-eqb a a refl) j) (omega (arith, next))
        ])

before_value : (k : ℕ) (w x : List ℕ) → Stands k w x → is_before x w ≡ ltb (value k x) (value k w)
before_value k w x (ahead i j l) = i ∙ sym (lt-ltb _ _ l)
before_value k w x (inside i j l m) = i ∙ sym (le-ltb _ _ l)
before_value k w x (past i j l) = i ∙ sym (le-ltb (value k x) (value k w) (omega arith))

not_past_value : (k : ℕ) (w x : List ℕ) → Stands k w x
    → cond (is_before x w) true (begins w x) ≡ ltb (value k x) (value k w + span k (length w))
not_past_value k w x (ahead i j l) =
    rw (i, lt-ltb (value k x) (value k w + span k (length w)) (omega arith))
not_past_value k w x (inside i j l m) = rw (i, j, lt-ltb (value k x) (value k w + span k (length w)) m)
not_past_value k w x (past i j l) = rw (i, j, le-ltb (value k x) (value k w + span k (length w)) l)

-- ---- labels as numbers

-- what is known of a label: its digits
pub record KnownLabel (m : Label) : Type 0 where
  pub digits : Digits 9 (digits_of m)
  pub most : length (digits_of m) ≤ greatest_depth

pub known : (m : Label) → is_label greatest_depth m ≡ true → KnownLabel m
known m e = let s = label_shape greatest_depth m e in record { digits = s.1; most = s.2 }

-- its padded number by them
module _ (m : Label) (k : KnownLabel m) where
  pub padded_value : padded m ≡ value greatest_depth (digits_of m)
  unfolding padded with_zeros number
  padded_value = number_value greatest_depth 0 (digits_of m) k.most ∙ omega arith

  pub padded_end_lem : padded_end m ≡ value greatest_depth (digits_of m) + span greatest_depth (length (digits_of m))
  unfolding padded_end with_zeros padded
  padded_end_lem = omega (arith, padded_value)

-- a label stands before another exactly if its padded number is less
pub before_padded : (m w : Label) → is_label greatest_depth m ≡ true → is_label greatest_depth w ≡ true
    → is_before (digits_of m) (digits_of w) ≡ ltb (padded m) (padded w)
before_padded m w e f =
    let a = known m e in
    let b = known w f in
    rw (padded_value m a, padded_value w b)
    (before_value greatest_depth (digits_of w) (digits_of m)
    (stands greatest_depth (digits_of w) (digits_of m) b.digits a.digits b.most a.most))

-- a label stands before leading digits or begins with them exactly if its padded number is less than their end
pub not_past_padded : (m w : Label) → is_label greatest_depth m ≡ true → is_label greatest_depth w ≡ true
    → cond (is_before (digits_of m) (digits_of w)) true (begins (digits_of w) (digits_of m)) ≡ ltb (padded m) (padded_end w)
not_past_padded m w e f =
    let a = known m e in
    let b = known w f in
    rw (padded_value m a, padded_end_lem w b)
    (not_past_value greatest_depth (digits_of w) (digits_of m)
    (stands greatest_depth (digits_of w) (digits_of m) b.digits a.digits b.most a.most))

-- ---- units, by basin and then label

module _ (m w : UnitName) (e : is_label greatest_depth m.label ≡ true) (f : is_label greatest_depth w.label ≡ true)
  where
    pub unit_before_padded : stands_before m w ≡ is_below w.basin (padded w.label) m
    unfolding stands_before basin_and_digits is_before is_below
    unit_before_padded = rw (before_padded m.label w.label e f)

    pub unit_not_past_padded : cond (stands_before m w) true (begins_with w m)
        ≡ is_below w.basin (padded_end w.label) m
    unfolding stands_before begins_with basin_and_digits is_before begins is_below
    unit_not_past_padded = go (eqb m.basin w.basin) refl
      where
        itself : (t : Bool) → cond t true false ≡ t
        itself true = refl
        itself false = refl

        go : (s : Bool) → eqb m.basin w.basin ≡ s
            → cond (cond s (is_before (digits_of m.label) (digits_of w.label)) (ltb m.basin w.basin)) true
            (cond (eqb w.basin m.basin) (begins (digits_of w.label) (digits_of m.label)) false)
            ≡ cond s (ltb (padded m.label) (padded_end w.label)) (ltb m.basin w.basin)
        go true h =
            rw (eq-eqb w.basin m.basin (sym (eqb-true m.basin w.basin h)))
            (not_past_padded m.label w.label e f)
        go false h =
            rw (ne_eqb w.basin m.basin (λ g. eqb-false m.basin w.basin h (sym g)))
            (itself (ltb m.basin w.basin))
