-- In a lawful network the tests of the definitions say what they mean.
use mathlib.Core.Path.{◌≡◌, refl, sym}
use mathlib.Core.Bool.{Bool, true, false, cond, true≢false}
use mathlib.Core.List.{[], ◌∷◌}
use mathlib.Core.Logic.{inl, inr}
use Prim.Native.Nat.{ℕ, zero, suc, ◌≤◌}
use native.Mathlib.Omega.{arith}
use lib.Dec.{eqb}
use borrow.Author.Tests.{eqb-true, eq-eqb}
use Rattle.sheet.specs.Water.{onward, passes, Passes, here, there}
use Rattle.sheet.specs.Label.{passes_in, holds}
use Rattle.sheet.specs.River.{Run, Network, stem, mouth}
use Rattle.claims.specs.Lawful.{Lawful}
use Rattle.claims.proofs.Runs.{has_stem, has_under, in_none, in_cons, In, is_stem, is_under, at_head, in_tail}
use Rattle.sheet.specs.Answer.{Next}
use Rattle.std.specs.Prelude.{None, Some}

pub data Test (b : Bool) (A : Type 0) : Type 0 where
  yes : b ≡ true → A → Test b A
  no : b ≡ false → ¬ A → Test b A

pub decided : {A : Type 0} (b : Bool) → (b ≡ true → A) → (A → b ≡ true) → Test b A
decided true f g = yes refl (f refl)
decided false f g = no refl (λ a. true≢false (sym (g a)))

module _ (next : ℕ → Next) where
  onward_true : (x : Next) (f : ℕ → Bool) (q p : ℕ) → next q ≡ x → ((r : ℕ) → f r ≡ true → Passes next r p)
      → onward x false f ≡ true → Passes next q p
  unfolding onward
  onward_true (Some r) f q p e g h = there e (g r h)
  onward_true None f q p e g h = absurd (true≢false (sym h))

  cond_true : (b : Bool) (w : Bool) (q p : ℕ) → eqb q p ≡ b → (w ≡ true → Passes next q p) → cond b true w ≡ true
      → Passes next q p
  cond_true true w q p e g h = rw (eqb-true q p e) here
  cond_true false w q p e g h = g h

  pub passes_true : (n q p : ℕ) → passes next n q p ≡ true → Passes next q p
  unfolding passes
  passes_true zero q p h = rw (eqb-true q p h) here
  passes_true (suc n) q p h =
      cond_true (eqb q p) _ q p refl
      (λ k. onward_true (next q) (λ r. passes next n r p) q p refl (λ r j. passes_true n r p j) k) h

  either : (b : Bool) {w : Bool} → w ≡ true → cond b true w ≡ true
  either true e = refl
  either false e = e

module _ {next : ℕ → Next} (dist : ℕ → ℕ) (falls : (u r : ℕ) → next u ≡ Some r → dist u ≡ suc (dist r)) where
  pub passes_all : (n : ℕ) {q p : ℕ} → Passes next q p → dist q ≤ n → passes next n q p ≡ true
  unfolding passes onward
  passes_all zero {q} here b = eq-eqb q q refl
  passes_all zero {q} (there {r = r} e h) b = absurd (omega (arith, falls q r e))
  passes_all (suc n) {q} here b = rw (eq-eqb q q refl) refl
  passes_all (suc n) {q} {p} (there {r = r} e h) b =
      let low : dist r ≤ n = omega (arith, falls q r e) in
      rw e (either next (eqb q p) (passes_all n h low))

module _ {N : Network} {heavier : ℕ → ℕ → Bool} (O : Lawful N heavier) where
  pub passes_test : (q p : ℕ) → Test (passes_in N q p) (Passes N.next q p)
  unfolding passes_in
  passes_test q p = decided _ (passes_true N.next N.cells q p)
      (λ h. passes_all O.dist O.falls N.cells h (omega (arith, O.short q)))

  pub in_test : (R : Run) (c : ℕ) → Test (holds N R c) (In N.next R c)
  unfolding holds
  in_test [] c = no refl in_none
  in_test (stem s ∷ R) c = both (decided (eqb c s) (eqb-true c s) (eq-eqb c s)) (in_test R c)
    where
      both : {a b : Bool} → Test a (c ≡ s) → Test b (In N.next R c)
          → Test (cond a true b) (In N.next (stem s ∷ R) c)
      both (yes x h) k = rw x (yes refl (rw h (at_head is_stem)))
      both (no x h) (yes y k) = rw (x, y) (yes refl (in_tail k))
      both (no x h) (no y k) = rw (x, y) (no refl (λ i. elim (in_cons i) [ inl j ↦ h (has_stem j) | inr j ↦ k j ]))
  in_test (mouth v ∷ R) c = both (passes_test c v) (in_test R c)
    where
      both : {a b : Bool} → Test a (Passes N.next c v) → Test b (In N.next R c)
          → Test (cond a true b) (In N.next (mouth v ∷ R) c)
      both (yes x h) k = rw x (yes refl (at_head (is_under h)))
      both (no x h) (yes y k) = rw (x, y) (yes refl (in_tail k))
      both (no x h) (no y k) = rw (x, y) (no refl (λ i. elim (in_cons i) [ inl j ↦ h (has_under j) | inr j ↦ k j ]))
