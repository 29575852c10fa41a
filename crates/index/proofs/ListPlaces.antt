-- The members of a list by their places.
use mathlib.Core.Path.{◌≡◌, refl, sym}
use mathlib.Core.List.Memᴰ
use mathlib.Core.List.{List, [], ◌∷◌, map, Memᴰ}
use mathlib.Core.Logic.{◌⊎◌, inl, inr}
use Prim.Native.Nat.{ℕ, zero, suc, ◌<◌}
use native.Mathlib.Omega.{arith}
use lib.ListN.{length, get_or}

module _ {A : Type 0} (none : A) where
  pub at_place : (cs : List A) (k : ℕ) → k < length cs → Memᴰ (get_or cs k none) cs
  at_place [] k l = absurd (omega arith)
  at_place (c ∷ cs) zero l = Memᴰ.head refl
  at_place (c ∷ cs) (suc k) l = Memᴰ.tail (at_place cs k (omega arith))

  pub place_of : {c : A} (cs : List A) → Memᴰ c cs → (k : ℕ) × (k < length cs) × (get_or cs k none ≡ c)
  place_of [] m = absurd (Memᴰ.not-nil m)
  place_of {c} (d ∷ cs) m = go (Memᴰ.cases_cons m) (place_of cs)
    where
      go : (c ≡ d) ⊎ Memᴰ c cs → (Memᴰ c cs → (k : ℕ) × (k < length cs) × (get_or cs k none ≡ c))
          → (k : ℕ) × (k < length (d ∷ cs)) × (get_or (d ∷ cs) k none ≡ c)
      go (inl e) f = (0, omega arith, sym e)
      go (inr k) f = let r = f k in (suc r.0, omega (arith, r.1), r.2)

  pub map_at : {B : Type 0} (missing : B) (f : A → B) (cs : List A) (k : ℕ) → k < length cs
      → get_or (map f cs) k missing ≡ f (get_or cs k none)
  map_at missing f [] k l = absurd (omega arith)
  map_at missing f (c ∷ cs) zero l = refl
  map_at missing f (c ∷ cs) (suc k) l = map_at missing f cs k (omega arith)
