-- A label judged by its two numbers: by each number's digits, and then by how many there are.
use mathlib.Core.Path.{◌≡◌, refl, sym, ap, ◌∙◌}
use mathlib.Core.Bool.{Bool, true, false, cond, true≢false}
use mathlib.Core.List.{List, [], ◌∷◌, ◌++◌}
use Prim.Native.Nat.{ℕ, zero, suc, ◌+◌, ◌^◌, ◌≤◌, ◌<◌}
use native.Mathlib.Omega.{arith}
use borrow.Author.Tests.{eq-eqb, ne_eqb}
use lib.Dec.{eqb, leb}
use lib.ListN.{length, length-append}
use Rattle.sheet.specs.declared.Label.{Label}
use Rattle.sheet.specs.Record.{decimal_digits, number_digits, digits_of, is_record}
use Rattle.sheet.specs.Refusal.{both, within}
use Rattle.sheet.specs.Flow.{every, are_digits, is_label}
use Rattle.sheet.proofs.Within.{both_true, label_digits_lem}
use Rattle.digits.specs.Counts.{number_fits, fitting_count, counts_fit}
use Rattle.digits.proofs.LastDigit.{digits_none, digits_longer}
use Rattle.std.specs.Prelude.{None, Some}

every_join : (test : ℕ → Bool) (x y : List ℕ) → every test (x ++ y) ≡ both (every test x) (every test y)
unfolding every
every_join test [] y = refl
every_join test (a ∷ x) y = rw (every_join test x y) (go (test a) (every test x) (every test y))
  where
    go : (t s r : Bool) → cond t (cond s r false) false ≡ cond (cond t s false) r false
    go true s r = refl
    go false s r = refl

-- a number is 0 exactly if it has no digits
none_counted : (m : ℕ) → m < 2 ^ 64 → eqb m 0 ≡ eqb (length (decimal_digits m)) 0
none_counted zero fits = sym (eq-eqb _ 0 (digits_none 0 (omega arith)))
none_counted (suc m) fits =
    ne_eqb (suc m) 0 (λ e. omega arith)
    ∙ sym (ne_eqb (length (decimal_digits (suc m))) 0 (λ e. omega (arith, digits_longer (suc m) fits (omega arith))))

-- how many digits a label has
pub digits_counted : (label : Label)
    → length (digits_of label) ≡ length (decimal_digits label.first) + length (decimal_digits label.rest)
unfolding digits_of
digits_counted label = length-append (decimal_digits label.first) (decimal_digits label.rest)

-- is_label where x and y are the digits of the two numbers, and the second is 0 or not
abbrev judged : ℕ → Bool → List ℕ → List ℕ → Bool
judged depth none x y =
    let beside : Bool = cond none true (leb number_digits (length x)) in
    let pair : Bool = cond (leb (length x) number_digits) (cond (leb (length y) number_digits) beside false) false in
    both pair (are_digits depth (x ++ y))

module _ (depth : ℕ) (none : Bool) (x y : List ℕ) where
  x_unfit : are_digits 18 x ≡ false → judged depth none x y ≡ false
  unfolding are_digits
  x_unfit e =
      rw every_join
      (go (leb (length x) 18) (every (within 9) x) (leb (length y) 18) (cond none true (leb 18 (length x)))
      (leb (length (x ++ y)) depth) (every (within 9) y) e)
    where
      go : (f g r b k h : Bool) → both f g ≡ false → both (cond f (cond r b false) false) (both k (both g h)) ≡ false
      go true true r b k h e = absurd (true≢false e)
      go true false true true true h e = refl
      go true false true true false h e = refl
      go true false true false k h e = refl
      go true false false b k h e = refl
      go false g r b k h e = refl

  y_unfit : are_digits 18 y ≡ false → judged depth none x y ≡ false
  unfolding are_digits
  y_unfit e =
      rw every_join
      (go (leb (length y) 18) (every (within 9) y) (leb (length x) 18) (cond none true (leb 18 (length x)))
      (leb (length (x ++ y)) depth) (every (within 9) x) e)
    where
      go : (r h f b k g : Bool) → both r h ≡ false → both (cond f (cond r b false) false) (both k (both g h)) ≡ false
      go true true f b k g e = absurd (true≢false e)
      go true false false b k g e = refl
      go true false true false k g e = refl
      go true false true true false g e = refl
      go true false true true true false e = refl
      go true false true true true true e = refl
      go false h true b k g e = refl
      go false h false b k g e = refl

  both_fit : are_digits 18 x ≡ true → are_digits 18 y ≡ true
      → judged depth none x y ≡ both (leb (length x + length y) depth) (cond none true (leb 18 (length x)))
  unfolding are_digits
  both_fit e f =
      let a = both_true (leb (length x) 18) (every (within 9) x) e in
      let b = both_true (leb (length y) 18) (every (within 9) y) f in
      rw (every_join, a.0, a.1, b.0, b.1, length-append)
      (go (cond none true (leb 18 (length x))) (leb (length x + length y) depth))
    where
      go : (b l : Bool) → both b (both l true) ≡ both l b
      go true true = refl
      go true false = refl
      go false true = refl
      go false false = refl

module _ (depth : ℕ) (label : Label) where
  abbrev x : List ℕ
  x = decimal_digits label.first

  abbrev y : List ℕ
  y = decimal_digits label.rest

  abbrev none : Bool
  none = eqb label.rest 0

  label_judged : is_label depth label ≡ judged depth none x y
  unfolding is_label is_record digits_of
  label_judged = refl

  -- a number that does not fit
  pub first_unfit : number_fits label.first ≡ false → is_label depth label ≡ false
  first_unfit e = label_judged ∙ x_unfit depth none x y e

  pub rest_unfit : number_fits label.rest ≡ false → is_label depth label ≡ false
  rest_unfit e = label_judged ∙ y_unfit depth none x y e

  -- two numbers that fit
  pub label_by_counts : label.rest < 2 ^ 64 → number_fits label.first ≡ true → number_fits label.rest ≡ true
      → is_label depth label ≡ counts_fit depth (length x) (length y)
  unfolding counts_fit
  label_by_counts fits e f =
      label_judged ∙ both_fit depth none x y e f
      ∙ ap (λ (b : Bool). both (leb (length x + length y) depth) (cond b true (leb 18 (length x))))
      (none_counted label.rest fits)

  -- both numbers of a label fit
  pub label_first_fits : is_label depth label ≡ true → number_fits label.first ≡ true
  label_first_fits l = go (number_fits label.first) refl
    where
      go : (b : Bool) → number_fits label.first ≡ b → b ≡ true
      go true e = refl
      go false e = absurd (true≢false (sym l ∙ first_unfit e))

  pub label_rest_fits : is_label depth label ≡ true → number_fits label.rest ≡ true
  label_rest_fits l = go (number_fits label.rest) refl
    where
      go : (b : Bool) → number_fits label.rest ≡ b → b ≡ true
      go true e = refl
      go false e = absurd (true≢false (sym l ∙ rest_unfit e))

-- a number that fits has at most 18 digits
pub fits_short : (m : ℕ) → number_fits m ≡ true → length (decimal_digits m) ≤ 18
fits_short m e = (label_digits_lem 18 (decimal_digits m) e).1

-- ---- found by a test

module _ (test : Bool) (place : ℕ) where
  pub found_at : (at : ℕ) → cond test (Some place) None ≡ Some at → (test ≡ true) × (place ≡ at)
  found_at at e = go test e
    where
      go : (b : Bool) → cond b (Some place) None ≡ Some at → (b ≡ true) × (place ≡ at)
      go true e = (refl, cc)
      go false e = let z : ◌≡◌ {A = ℕ} 0 1 = cc in absurd (omega arith)

  pub found_nothing : cond test (Some place) None ≡ None → test ≡ false
  found_nothing e = go test e
    where
      go : (b : Bool) → cond b (Some place) None ≡ None → b ≡ false
      go true e = let z : ◌≡◌ {A = ℕ} 0 1 = cc in absurd (omega arith)
      go false e = refl

-- ---- the count of digits of a number that fits

pub count_fits : (m n : ℕ) → fitting_count m ≡ Some n → (number_fits m ≡ true) × (length (decimal_digits m) ≡ n)
unfolding fitting_count
count_fits m n e = found_at (number_fits m) (length (decimal_digits m)) n e

pub count_unfit : (m : ℕ) → fitting_count m ≡ None → number_fits m ≡ false
unfolding fitting_count
count_unfit m e = found_nothing (number_fits m) (length (decimal_digits m)) e

pub count_short : (m n : ℕ) → fitting_count m ≡ Some n → n ≤ 18
count_short m n e = omega (arith, (count_fits m n e).1, fits_short m (count_fits m n e).0)
