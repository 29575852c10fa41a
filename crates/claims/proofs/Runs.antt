-- What a run of a river list holds, and laws of ways.
use mathlib.Core.Path.{◌≡◌, refl}
use mathlib.Core.List.{[], ◌∷◌, ◌++◌}
use mathlib.Core.Logic.{◌⊎◌, inl, inr}
use Prim.Native.Nat.{ℕ, suc, ◌≤◌}
use native.Mathlib.Omega.{arith}
use Rattle.sheet.specs.Water.{Passes, here, there}
use Rattle.sheet.specs.River.{Run, Entry, stem, mouth}
use Rattle.claims.specs.Runs.{MouthOf, mouth_here, mouth_there}
use Rattle.sheet.specs.Answer.{Next}
use Rattle.std.specs.Prelude.{Some}

-- the entry holds the cell
pub data Has (next : ℕ → Next) : Entry → ℕ → Type 0 where
  is_stem : {s : ℕ} → Has next (stem s) s
  is_under : {v c : ℕ} → Passes next c v → Has next (mouth v) c

-- the run holds the cell
pub data In (next : ℕ → Next) : Run → ℕ → Type 0 where
  at_head : {e : Entry} {R : Run} {c : ℕ} → Has next e c → In next (e ∷ R) c
  in_tail : {e : Entry} {R : Run} {c : ℕ} → In next R c → In next (e ∷ R) c

-- s is a stem cell of the run
pub data StemOf : Run → ℕ → Type 0 where
  stem_here : {s : ℕ} {R : Run} → StemOf (stem s ∷ R) s
  stem_there : {e : Entry} {R : Run} {s : ℕ} → StemOf R s → StemOf (e ∷ R) s

module _ {next : ℕ → Next} where
  pub pass_trans : {c b a : ℕ} → Passes next c b → Passes next b a → Passes next c a
  pass_trans here k = k
  pass_trans (there e h) k = there e (pass_trans h k)

  pub has_stem : {s c : ℕ} → Has next (stem s) c → c ≡ s
  has_stem is_stem = refl

  pub has_under : {v c : ℕ} → Has next (mouth v) c → Passes next c v
  has_under (is_under h) = h

  pub stem_in : {R : Run} {s : ℕ} → StemOf R s → In next R s
  stem_in stem_here = at_head is_stem
  stem_in (stem_there h) = in_tail (stem_in h)

  pub mouth_in : {R : Run} {v c : ℕ} → MouthOf R v → Passes next c v → In next R c
  mouth_in mouth_here k = at_head (is_under k)
  mouth_in (mouth_there h) k = in_tail (mouth_in h k)

  pub in_left : {A : Run} {c : ℕ} (B : Run) → In next A c → In next (A ++ B) c
  in_left B (at_head h) = at_head h
  in_left B (in_tail h) = in_tail (in_left B h)

  pub in_right : {B : Run} {c : ℕ} (A : Run) → In next B c → In next (A ++ B) c
  in_right [] h = h
  in_right (e ∷ A) h = in_tail (in_right A h)

  pub in_none : {c : ℕ} → In next [] c → ⊥
  in_none = elim [ ]

  pub in_cons : {e : Entry} {R : Run} {c : ℕ} → In next (e ∷ R) c → Has next e c ⊎ In next R c
  in_cons (at_head h) = inl h
  in_cons (in_tail h) = inr h

  -- the way goes on through a donor, or has come to its end
  pub pass_last : {q p : ℕ} → Passes next q p → (q ≡ p) ⊎ ((u : ℕ) × (next u ≡ Some p) × Passes next q u)
  pass_last here = inl refl
  pass_last (there {q = q} e h) = elim
      (pass_last h) [ inl r ↦ inr (q, rw r at e, here) | inr k ↦ inr (k.0, k.1, there e k.2) ]

  pub in_append : {c : ℕ} (A B : Run) → In next (A ++ B) c → In next A c ⊎ In next B c
  in_append [] B h = inr h
  in_append (e ∷ A) B (at_head h) = inl (at_head h)
  in_append (e ∷ A) B (in_tail h) = elim (in_append A B h) [ inl k ↦ inl (in_tail k) | inr k ↦ inr k ]

-- over a number of steps to the outlet, which falls by one at each step
module _ {next : ℕ → Next} (dist : ℕ → ℕ) (falls : (u r : ℕ) → next u ≡ Some r → dist u ≡ suc (dist r)) where
  pub pass_dist : {q p : ℕ} → Passes next q p → dist p ≤ dist q
  pass_dist here = omega arith
  pass_dist (there {q = q} {r = r} e h) = let i = pass_dist h in omega (arith, falls q r e)

  pub pass_same : {c u v : ℕ} → Passes next c u → Passes next c v → dist u ≡ dist v → u ≡ v
  pass_same here here e = refl
  pass_same here (there {q = c} {r = r} a h) e = let i = pass_dist h in absurd (omega (arith, falls c r a))
  pass_same (there {q = c} {r = r} a h) here e = let i = pass_dist h in absurd (omega (arith, falls c r a))
  pass_same {v = v} (there {r = r} a h) (there {r = s} b k) e =
      let same : s ≡ r = cc in
      pass_same h (rw same at k) e

  -- water that passes each of two cells goes from neither to the other and back
  pub pass_both : {q p : ℕ} → Passes next q p → Passes next p q → q ≡ p
  pass_both here k = refl
  pass_both (there {q = q} {r = r} e h) k = let i = pass_dist h in let j = pass_dist k in absurd
      (omega (arith, falls q r e))
