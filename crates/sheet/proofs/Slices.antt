-- Slices that hold labels, two numbers each.
use mathlib.Core.Path.{◌≡◌, refl, sym, ap, ◌∙◌}
use mathlib.Core.Bool.{Bool, true, false, cond}
use mathlib.Core.List.{List, [], ◌∷◌, ◌++◌}
use Prim.Native.Nat.{ℕ, zero, suc, ◌+◌, ◌*◌, ◌/◌, ◌%◌, ◌≤◌, ◌<◌}
use native.Mathlib.Omega.{arith}
use lib.Dec.{eqb}
use lib.ListN.{length, get_or, take, drop, get_or-append}
use borrow.Author.Tests.{eq-eqb, ne_eqb}
use Rattle.sheet.specs.declared.Label.{Label}
use Rattle.sheet.specs.Record.{label_of_numbers, no_digits, labels_in, numbers_of, label_places, label_at}
use Rattle.sheet.specs.Record.{place_at, number_in}
use Rattle.sheet.specs.Label.{list_from}
use Rattle.sheet.specs.Refusal.{written}
use Rattle.sheet.proofs.Lists.{length_list}

-- ---- places

half_more : (n : ℕ) → suc (suc n) / 2 ≡ suc (n / 2)
half_more n = omega arith

pub labels_length : (l : List ℕ) → length (labels_in l) ≡ label_places (length l)
unfolding labels_in label_places
labels_length [] = refl
labels_length (a ∷ []) = refl
labels_length (a ∷ b ∷ l) = ap suc (labels_length l) ∙ sym (half_more (length l))

pub numbers_length : (labels : List Label) → length (numbers_of labels) ≡ 2 * length labels
unfolding numbers_of
numbers_length [] = refl
numbers_length (p ∷ labels) = omega (arith, numbers_length labels)

-- a slice has so many places exactly if it has twice as many numbers
pub places_enough : (n numbers : ℕ) → n ≤ label_places numbers → 2 * n ≤ numbers
unfolding label_places
places_enough n numbers h = omega arith

pub numbers_enough : (n numbers : ℕ) → 2 * n ≤ numbers → n ≤ label_places numbers
unfolding label_places
numbers_enough n numbers h = omega arith

-- ---- the label at a place

twice_suc : (c : ℕ) → 2 * suc c ≡ suc (suc (2 * c))
twice_suc c = omega arith

-- its two numbers
pub label_at_lem : (l : List ℕ) (c : ℕ) → c < label_places (length l)
    → label_at l c ≡ label_of_numbers (get_or l (2 * c) 0) (get_or l (2 * c + 1) 0)
unfolding labels_in label_places
label_at_lem [] c h = absurd (omega arith)
label_at_lem (a ∷ []) c h = absurd (omega arith)
label_at_lem (a ∷ b ∷ l) zero h = refl
label_at_lem (a ∷ b ∷ l) (suc c) h =
    let more : suc (suc (2 * c)) + 1 ≡ suc (suc (2 * c + 1)) = omega arith in
    rw (twice_suc c, more) (label_at_lem l c (omega arith))

-- which no further numbers change
pub label_kept : (l more : List ℕ) (c : ℕ) → c < label_places (length l) → label_at (l ++ more) c ≡ label_at l c
unfolding labels_in label_places
label_kept [] more c h = absurd (omega arith)
label_kept (a ∷ []) more c h = absurd (omega arith)
label_kept (a ∷ b ∷ l) more zero h = refl
label_kept (a ∷ b ∷ l) more (suc c) h = label_kept l more c (omega arith)

-- ---- numbers of labels, and the labels that a slice of them holds

pub labels_numbers : (labels : List Label) (l : List ℕ) → labels_in (numbers_of labels ++ l) ≡ labels ++ labels_in l
unfolding labels_in numbers_of
labels_numbers [] l = refl
labels_numbers (p ∷ labels) l = ap (λ (r : List Label). p ∷ r) (labels_numbers labels l)

pub labels_take : (k : ℕ) (l : List ℕ) → 2 * k ≤ length l → labels_in (take (2 * k) l) ≡ take k (labels_in l)
unfolding labels_in
labels_take zero l h = refl
labels_take (suc k) [] h = absurd (omega arith)
labels_take (suc k) (a ∷ []) h = absurd (omega arith)
labels_take (suc k) (a ∷ b ∷ l) h =
    rw (twice_suc k) (ap (λ (r : List Label). label_of_numbers a b ∷ r) (labels_take k l (omega arith)))

pub labels_drop : (k : ℕ) (l : List ℕ) → labels_in (drop (2 * k) l) ≡ drop k (labels_in l)
unfolding labels_in
labels_drop zero l = refl
labels_drop (suc k) [] = rw (twice_suc k)
labels_drop (suc k) (a ∷ []) = rw (twice_suc k)
labels_drop (suc k) (a ∷ b ∷ l) = rw (twice_suc k) (labels_drop k l)

pub numbers_take : (k : ℕ) (labels : List Label) → take (2 * k) (numbers_of labels) ≡ numbers_of (take k labels)
unfolding numbers_of
numbers_take zero labels = refl
numbers_take (suc k) [] = rw (twice_suc k)
numbers_take (suc k) (p ∷ labels) =
    rw (twice_suc k) (ap (λ (r : List ℕ). p.first ∷ p.rest ∷ r) (numbers_take k labels))

pub numbers_join : (x y : List Label) → numbers_of (x ++ y) ≡ numbers_of x ++ numbers_of y
unfolding numbers_of
numbers_join [] y = refl
numbers_join (p ∷ x) y = ap (λ (r : List ℕ). p.first ∷ p.rest ∷ r) (numbers_join x y)

-- what stands at a place whose labels were written
pub labels_written : (labels : List Label) (old : List ℕ) (c : ℕ) → c < length labels
    → label_at (written (numbers_of labels) old) c ≡ get_or labels c no_digits
labels_written labels old c h =
    rw (labels_numbers labels (drop (length (numbers_of labels)) old))
    (get_or-append labels (labels_in (drop (length (numbers_of labels)) old)) no_digits c h)

-- ---- labels by cell

pub label_listed : (f : ℕ → Label) (i m k : ℕ) → k < m → get_or (list_from f i m) k no_digits ≡ f (i + k)
unfolding list_from
label_listed f i zero k l = absurd (omega arith)
label_listed f i (suc m) zero l = ap f (omega arith)
label_listed f i (suc m) (suc k) l = label_listed f (suc i) m k (omega arith) ∙ ap f (omega arith)

-- the label that stands for a cell, whatever the slice held before
pub label_written : (f : ℕ → Label) (n c : ℕ) (old : List ℕ) → c < n
    → label_at (written (numbers_of (list_from f 0 n)) old) c ≡ f c
label_written f n c old h =
    labels_written (list_from f 0 n) old c (rw (length_list f 0 n) h)
    ∙ label_listed f 0 n c h ∙ ap f (omega arith)

pub numbers_listed_length : (f : ℕ → Label) (i m : ℕ) → length (numbers_of (list_from f i m)) ≡ 2 * m
numbers_listed_length f i m = rw (numbers_length (list_from f i m), length_list f i m)

-- the numbers of labels by cell, one by one
module _ (f : ℕ → Label) where
  pub first_in : (c : ℕ) → number_in f (2 * c) ≡ (f c).first
  unfolding number_in place_at
  first_in c =
      let even : 2 * c % 2 ≡ 0 = omega arith in
      let half : 2 * c / 2 ≡ c = omega arith in
      rw (eq-eqb (2 * c % 2) 0 even, half)

  pub rest_in : (c : ℕ) → number_in f (2 * c + 1) ≡ (f c).rest
  unfolding number_in place_at
  rest_in c =
      let odd : (2 * c + 1) % 2 ≡ 1 = omega arith in
      let half : (2 * c + 1) / 2 ≡ c = omega arith in
      rw (ne_eqb ((2 * c + 1) % 2) 0 (λ e. omega arith), half)

  pub numbers_listed : (i m : ℕ) → numbers_of (list_from f i m) ≡ list_from (number_in f) (2 * i) (2 * m)
  unfolding list_from numbers_of
  numbers_listed i zero = refl
  numbers_listed i (suc m) =
      let next : 2 * suc i ≡ suc (suc (2 * i)) = twice_suc i in
      let second : number_in f (suc (2 * i)) ≡ (f i).rest =
      ap (number_in f) (let e : suc (2 * i) ≡ 2 * i + 1 = omega arith in e) ∙ rest_in i in
      rw (twice_suc m, first_in i, second, ← next)
      (ap (λ (r : List ℕ). (f i).first ∷ (f i).rest ∷ r) (numbers_listed (suc i) m))

-- the numbers of labels that are the same for a cell
pub number_same : (f g : ℕ → Label) (i : ℕ) → f (place_at i) ≡ g (place_at i) → number_in f i ≡ number_in g i
unfolding number_in
number_same f g i e = rw e

pub number_choice : (t : ℕ → Bool) (f g : ℕ → Label) (i : ℕ)
    → number_in (λ c. cond (t c) (f c) (g c)) i ≡ cond (t (place_at i)) (number_in f i) (number_in g i)
unfolding number_in
number_choice t f g i = go (t (place_at i)) (eqb (i % 2) 0)
  where
    go : (b even : Bool)
        → cond even (cond b (f (place_at i)) (g (place_at i))).first (cond b (f (place_at i)) (g (place_at i))).rest
        ≡ cond b (cond even (f (place_at i)).first (f (place_at i)).rest)
        (cond even (g (place_at i)).first (g (place_at i)).rest)
    go true even = refl
    go false even = refl

-- one number twice
pub number_twice : (x i : ℕ) → number_in (λ c. label_of_numbers x x) i ≡ x
unfolding number_in
number_twice x i = go (eqb (i % 2) 0)
  where
    go : (even : Bool) → cond even x x ≡ x
    go true = refl
    go false = refl
