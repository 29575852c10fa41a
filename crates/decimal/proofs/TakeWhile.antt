-- Laws of takeWhile: the bytes with which a list begins, up to the first that does not pass a test.
use Prim.Native.Nat.{ℕ, zero, suc, ◌+◌, ◌<◌, ◌≤◌}
use mathlib.Core.Path.{◌≡◌, refl, sym, ap, ◌∙◌}
use mathlib.Core.List.{List, [], ◌∷◌, ◌++◌}
use mathlib.Core.Bool.{Bool, true, false, cond, not}
use borrow.Author.Tests.{ltb-false}
use lib.Dec.{ltb}
use Rattle.std.proofs.Common.{Option, Some, None}
use Rattle.std.proofs.lemmas.List.{get_or-take}
use Rattle.std.specs.Option.{unwrap_or}
use Rattle.std.proofs.lemmas.List.Sums.{prefix_len-le-length}
use Rattle.std.specs.List.{position_or_len}
use Rattle.std.proofs.lemmas.List.Recursion.{is_position_or_len}
use native.Mathlib.Numerals.{add-one}
use native.Mathlib.Omega.{arith}
use lib.ListN.{length, take, drop, get_or, drop_of_length-le}
use lib.Seq.{drop-cons}
use Rattle.decimal.specs.Value.{take_while}

module _ (test : ℕ → Bool) where
  -- By the list's first byte.
  pub while_stop : (b : ℕ) (s : List ℕ) → test b ≡ false → take_while test (b ∷ s) ≡ []
  unfolding take_while
  while_stop b s e = rw e

  pub while_next : (b : ℕ) (s : List ℕ) → test b ≡ true → take_while test (b ∷ s) ≡ b ∷ take_while test s
  unfolding take_while
  while_next b s e = rw e

  -- At a position, by the byte there.
  module _ (s : List ℕ) (i : ℕ) where
    pub while_at_end : length s ≤ i → take_while test (drop i s) ≡ []
    unfolding take_while
    while_at_end h = rw drop_of_length-le

    pub while_at_stop : i < length s → test (get_or s i 0) ≡ false → take_while test (drop i s) ≡ []
    while_at_stop h e = rw (drop-cons s i 0) (while_stop (get_or s i 0) (drop (suc i) s) e)

    pub while_at_next : i < length s → test (get_or s i 0) ≡ true
        → take_while test (drop i s) ≡ get_or s i 0 ∷ take_while test (drop (i + 1) s)
    while_at_next h e = rw (add-one, drop-cons s i 0) (while_next (get_or s i 0) (drop (suc i) s) e)

  -- where all bytes of a list pass the test, those of the next one follow
  pub while_append : (s t : List ℕ) → take_while test s ≡ s → take_while test (s ++ t) ≡ s ++ take_while test t
  unfolding take_while
  while_append [] t e = refl
  while_append (b ∷ s) t e = go (test b) refl e (while_append s t)
    where
      go : (u : Bool) → test b ≡ u → take_while test (b ∷ s) ≡ b ∷ s
          → (take_while test s ≡ s → take_while test (s ++ t) ≡ s ++ take_while test t)
          → take_while test (b ∷ (s ++ t)) ≡ b ∷ (s ++ take_while test t)
      go true h e ih =
          let q : b ∷ take_while test s ≡ b ∷ s = sym (while_next b s h) ∙ e in
          let p : take_while test s ≡ s = cc in
          while_next b (s ++ t) h ∙ ap (λ (r : List ℕ). b ∷ r) (ih p)
      go false h e ih = absurd (omega (arith, ap length (sym (while_stop b s h) ∙ e)))

  -- they are the first bytes of the list
  pub while_take : (s : List ℕ) → take (length (take_while test s)) s ≡ take_while test s
  unfolding take_while
  while_take [] = refl
  while_take (b ∷ s) = go (test b) (while_take s)
    where
      go : (u : Bool) → take (length (take_while test s)) s ≡ take_while test s
          → take (length (cond u (b ∷ take_while test s) [])) (b ∷ s) ≡ cond u (b ∷ take_while test s) []
      go true ih = ap (λ (r : List ℕ). b ∷ r) ih
      go false ih = refl

  -- each of them passes the test
  pub while_passes : (s : List ℕ) (i : ℕ) → i < length (take_while test s) → test (get_or s i 0) ≡ true
  unfolding take_while
  while_passes [] i h = absurd (omega arith)
  while_passes (b ∷ s) i h = go (test b) refl (while_passes s) i h
    where
      go : (t : Bool) → test b ≡ t → ((i : ℕ) → i < length (take_while test s) → test (get_or s i 0) ≡ true) → (i : ℕ)
          → i < length (take_while test (b ∷ s)) → test (get_or (b ∷ s) i 0) ≡ true
      go false e ih i h = absurd (omega (arith, ap length (while_stop b s e)))
      go true e ih zero h = e
      go true e ih (suc i) h = ih i (omega (arith, ap length (while_next b s e)))

pub while_item : (test : ℕ → Bool) (s : List ℕ) (i : ℕ) → i < length (take_while test s)
    → test (get_or (take_while test s) i 0) ≡ true
while_item test s i h =
    let e = sym (ap (λ l. get_or l i 0) (while_take test s)) ∙ get_or-take (length (take_while test s)) s i 0 h in
    rw e (while_passes test s i h)

-- the place of the first byte that passes a test, as a reader finds it: the length of the list, where none does
pub first_place : (stops : ℕ → Bool) (s : List ℕ) {found : Option ℕ}
    → found ≡ cond (ltb (position_or_len stops s) (length s)) (Some (position_or_len stops s)) None
    → unwrap_or found (length s) ≡ position_or_len stops s
first_place stops s {found} p = go (ltb n (length s)) refl p
  where
    n : ℕ
    n = position_or_len stops s

    go : (t : Bool) → ltb n (length s) ≡ t → found ≡ cond t (Some n) None → unwrap_or found (length s) ≡ n
    go true h f = rw f
    go false h f = rw f (omega (arith, ltb-false n (length s) h, prefix_len-le-length (λ b. not (stops b)) s))

-- it is how many pass before it
pub while_position : (test stops : ℕ → Bool) → ((b : ℕ) → stops b ≡ not (test b)) → (s : List ℕ)
    → length (take_while test s) ≡ position_or_len stops s
unfolding take_while
while_position test stops e = is_position_or_len (λ s. length (take_while test s)) stops refl step
  where
    step : (b : ℕ) (s : List ℕ)
        → length (take_while test (b ∷ s)) ≡ cond (stops b) 0 (1 + length (take_while test s))
    step b s = go (test b) (e b)
      where
        go : (u : Bool) → stops b ≡ not u
            → length (cond u (b ∷ take_while test s) []) ≡ cond (stops b) 0 (1 + length (take_while test s))
        go true h = rw h (omega arith)
        go false h = rw h refl

pub while_found : (test stops : ℕ → Bool) → ((b : ℕ) → stops b ≡ not (test b)) → (s : List ℕ) {found : Option ℕ}
    → found ≡ cond (ltb (position_or_len stops s) (length s)) (Some (position_or_len stops s)) None
    → unwrap_or found (length s) ≡ length (take_while test s)
while_found test stops e s p = first_place stops s p ∙ sym (while_position test stops e s)
