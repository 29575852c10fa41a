-- Laws of the definitions from place to place: a test of every entry, and the number of digits.
use mathlib.Core.Path.{◌≡◌, refl, sym, ◌∙◌}
use mathlib.Core.Bool.{Bool, true, false, cond, ◌&&◌}
use mathlib.Core.List.{List, [], ◌∷◌}
use Prim.Native.Nat.{ℕ, zero, suc, ◌+◌, ◌*◌, ◌≤◌, ◌<◌}
use native.Mathlib.Numerals.{add-one}
use native.Mathlib.Omega.{arith}
use lib.ListN.{length, drop, get_or, drop_of_length-le}
use lib.Seq.{drop-cons}
use Rattle.std.proofs.lemmas.List.FromFn.{length-range_with_len, get_or-range_with_len}
use Rattle.std.specs.List.{list_all, range_with_len}
use Rattle.sheet.specs.Record.{number_from}
use Rattle.sheet.specs.Flow.{every}

-- ---- a test of every entry, by place

module _ {A : Type 0} (none : A) (test : A → Bool) (x : List A) (i : ℕ) where
  pub every_end : length x ≤ i → every test (drop i x) ≡ true
  unfolding every
  every_end h = rw drop_of_length-le

  pub every_no : i < length x → test (get_or x i none) ≡ false → every test (drop i x) ≡ false
  unfolding every
  every_no h e = rw (drop-cons x i none, e)

  pub every_yes : i < length x → test (get_or x i none) ≡ true → every test (drop (i + 1) x) ≡ every test (drop i x)
  unfolding every
  every_yes h e = rw (add-one i, drop-cons x i none, e)

-- a test of every entry, as the iterators' `all` tells it
pub every_all : {A : Type 0} (test : A → Bool) (x : List A) → every test x ≡ list_all test x
unfolding every
every_all test [] = refl
every_all test (a ∷ x) = rw (every_all test x) (go (test a) (list_all test x))
  where
    go : (s r : Bool) → cond s r false ≡ (s && r)
    go true r = refl
    go false r = refl

-- and as it is told over the places of the entries
module _ {A : Type 0} (none : A) (test : A → Bool) (x : List A) where
  one_place : (i : ℕ) (r : Bool) → i < length x → r ≡ every test (drop (i + 1) x) → (b : Bool) → test (get_or x i none) ≡ b
      → (test (get_or x i none) && r) ≡ every test (drop i x)
  one_place i r place rest true e = rw (e, rest) (every_yes none test x i place e)
  one_place i r place rest false e = rw e (sym (every_no none test x i place e))

  pub every_places : (i n : ℕ) → i + n ≡ length x
      → list_all (λ k. test (get_or x k none)) (range_with_len i n) ≡ every test (drop i x)
  every_places i zero h = sym (every_end none test x i (omega arith))
  every_places i (suc n) h = one_place i _ (omega arith) (every_places (i + 1) n (omega arith)) _ refl

-- an item that a range gives lies in it
pub in_range : (i n x k : ℕ) → k < length (range_with_len i n) → x ≡ get_or (range_with_len i n) k x → (i ≤ x) × (x < i + n)
in_range i n x k lt is =
    let k-lt : k < n = omega (arith, lt, length-range_with_len i n) in
    let at : x ≡ i + k = is ∙ get_or-range_with_len i n k x k-lt in
    (omega arith, omega arith)

-- ---- the number of digits, by place

pub number_turn : (m : ℕ) (x : List ℕ) (i : ℕ) → i < length x
    → number_from (m * 10 + get_or x i 0) (drop (i + 1) x) ≡ number_from m (drop i x)
unfolding number_from
number_turn m x i h = rw (add-one i, drop-cons x i 0)

pub number_end : (m : ℕ) (x : List ℕ) (i : ℕ) → length x ≤ i → number_from m (drop i x) ≡ m
unfolding number_from
number_end m x i h = rw (drop_of_length-le x)

number_more : (m : ℕ) (x : List ℕ) → m ≤ number_from m x
unfolding number_from
number_more m [] = omega arith
number_more m (a ∷ x) = omega (arith, number_more (m * 10 + a) x)

-- what is gathered after one digit more is at most the whole number
pub number_room : (m : ℕ) (x : List ℕ) (i : ℕ) → i < length x → m * 10 + get_or x i 0 ≤ number_from m (drop i x)
number_room m x i h = omega (arith, number_more (m * 10 + get_or x i 0) (drop (i + 1) x), number_turn m x i h)
