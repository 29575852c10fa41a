-- A river list is well made, holds what passes its mouth, and nothing else.
use mathlib.Core.Path.{◌≡◌, refl, ap}
use mathlib.Core.Bool.{Bool}
use mathlib.Core.Option.{Option, none, some}
use mathlib.Core.List.Memᴰ
use mathlib.Core.List.{List, [], ◌∷◌, Memᴰ}
use mathlib.Core.Logic.{inl, inr}
use Prim.Native.Nat.{ℕ, zero, suc, ◌+◌, ◌≤◌}
use native.Mathlib.Omega.{arith}
use native.Mathlib.Nat.{suc-add}
use Rattle.sheet.specs.Water.{Passes, here}
use Rattle.sheet.specs.River.{donors, Run, upstream, river_within, river, Network, stem, mouth}
use Rattle.claims.specs.Runs.{MouthOf, mouth_here, mouth_there, Above, Chain, chain_end, chain_stem, chain_mouth}
use Rattle.claims.specs.Runs.{Headed, headed_none, headed_stem}
use Rattle.claims.specs.Lawful.{Rising, rising_cons, Lawful}
use Rattle.claims.proofs.Runs.{has_stem, in_none, in_cons, pass_last, In, is_stem, is_under, at_head, in_tail}
use Rattle.claims.proofs.Order.{chain_passes, stem_ordered, Ordered, ordered_end}
use Rattle.sheet.specs.Answer.{Next}
use Rattle.std.specs.Prelude.{Some}

-- the water of a mouth goes on
module _ {next : ℕ → Next} {heavier : ℕ → ℕ → Bool} where
  chain_goes : {s v : ℕ} {old : Option ℕ} {R : Run} → Chain next heavier s old R → MouthOf R v
      → (t : ℕ) × (next v ≡ Some t)
  chain_goes chain_end m = elim m [ ]
  chain_goes (chain_stem e a w) (mouth_there m) = chain_goes w m
  chain_goes {s} (chain_mouth e a w) mouth_here = (s, e)
  chain_goes (chain_mouth e a w) (mouth_there m) = chain_goes w m

  pub mouth_goes : {v : ℕ} {R : Run} → Headed next heavier R → MouthOf R v → (t : ℕ) × (next v ≡ Some t)
  mouth_goes headed_none m = elim m [ ]
  mouth_goes (headed_stem w) (mouth_there m) = chain_goes w m

module _ {N : Network} {heavier : ℕ → ℕ → Bool} (O : Lawful N heavier) where
  pub headed_ordered : {R : Run} → Headed N.next heavier R → Ordered N.next R
  headed_ordered headed_none = ordered_end
  headed_ordered (headed_stem w) = stem_ordered O.dist O.falls O.lighter O.unlike w

  upstream_chain : (f : ℕ → Run) (s : ℕ)
      → ((old : Option ℕ) (u : ℕ) → N.next u ≡ Some s → Above heavier old u → Chain N.next heavier s old (f u))
      → (old : Option ℕ) (us : List ℕ) → ((u : ℕ) → Memᴰ u us → N.next u ≡ Some s) → Rising heavier old us
      → Chain N.next heavier s old (upstream f us)
  unfolding upstream
  upstream_chain f s g old [] m r = chain_end
  upstream_chain f s g old (u ∷ []) m (rising_cons a r) = g old u (m u (Memᴰ.head refl)) a
  upstream_chain f s g old (u ∷ w ∷ us) m (rising_cons a r) =
      chain_mouth (m u (Memᴰ.head refl)) a
      (upstream_chain f s g (some u) (w ∷ us) (λ x h. m x (Memᴰ.tail h)) r)

  within_chain : (n s : ℕ) (old : Option ℕ) (u : ℕ) → N.next u ≡ Some s → Above heavier old u
      → Chain N.next heavier s old (river_within N n u)
  unfolding river_within
  within_chain zero s old u e a = chain_end
  within_chain (suc n) s old u e a =
      chain_stem e a
      (upstream_chain (river_within N n) u (λ o v f b. within_chain n u o v f b) none (donors N u) (O.donor_steps u)
      (O.donors_rising u))

  pub within_after : (n u : ℕ) → Chain N.next heavier u none (upstream (river_within N n) (donors N u))
  within_after n u =
      upstream_chain (river_within N n) u (within_chain n u) none (donors N u) (O.donor_steps u) (O.donors_rising u)

  within_headed : (n v : ℕ) → Headed N.next heavier (river_within N n v)
  unfolding river_within
  within_headed zero v = headed_none
  within_headed (suc n) v = headed_stem (within_after n v)

  pub river_headed : (v : ℕ) → Headed N.next heavier (river N v)
  unfolding river
  river_headed v = within_headed N.cells v

  within_passes : (n v t : ℕ) → In N.next (river_within N n v) t → Passes N.next t v
  unfolding river_within
  within_passes zero v t i = absurd (in_none i)
  within_passes (suc n) v t i =
      elim (in_cons i) [ inl h ↦ rw (has_stem h) here | inr h ↦ chain_passes O.lighter (within_after n v) h ]

  -- only what passes the mouth is in the river
  pub river_passes : (v t : ℕ) → In N.next (river N v) t → Passes N.next t v
  unfolding river
  river_passes v t i = within_passes N.cells v t i

  upstream_covers : (f : ℕ → Run) (us : List ℕ) (u c : ℕ) → Memᴰ u us → Passes N.next c u
      → ((w : ℕ) → Memᴰ w us → Passes N.next c w → In N.next (f w) c) → In N.next (upstream f us) c
  unfolding upstream
  upstream_covers f [] u c m h g = absurd (Memᴰ.not-nil m)
  upstream_covers f (w ∷ []) u c m h g =
      elim (Memᴰ.cases_cons m)
      [ inl e ↦ g w (Memᴰ.head refl) (rw e at h) | inr k ↦ absurd (Memᴰ.not-nil k) ]
  upstream_covers f (w ∷ x ∷ us) u c m h g =
      elim (Memᴰ.cases_cons m) [
        | inl e ↦ at_head (is_under (rw e at h))
        | inr k ↦ in_tail
            (upstream_covers f (x ∷ us) u c k h (λ y j. g y (Memᴰ.tail j)))
      ]

  within_covers : (n v c : ℕ) → N.cells ≤ n + O.dist v → Passes N.next c v → In N.next (river_within N n v) c
  unfolding river_within
  within_covers zero v c b h = absurd (omega (arith, O.short v))
  within_covers (suc n) v c b h = elim (pass_last h) [
    | inl e ↦ rw e (at_head is_stem)
    | inr k ↦ in_tail
        (upstream_covers (river_within N n) (donors N v) k.0 c (O.donors_complete v k.0 k.1) k.2
        (λ w j p. within_covers n w c (omega (arith, O.falls w v (O.donor_steps v w j))) p))
  ]

  -- all that passes the mouth is in the river
  pub river_covers : (v c : ℕ) → Passes N.next c v → In N.next (river N v) c
  unfolding river
  river_covers v c h = within_covers N.cells v c (omega arith) h

  upstream_same : (f g : ℕ → Run) (us : List ℕ) → ((u : ℕ) → Memᴰ u us → f u ≡ g u) → upstream f us ≡ upstream g us
  unfolding upstream
  upstream_same f g [] h = refl
  upstream_same f g (u ∷ []) h = h u (Memᴰ.head refl)
  upstream_same f g (u ∷ w ∷ us) h =
      ap (λ (R : Run). mouth u ∷ R) (upstream_same f g (w ∷ us) (λ x m. h x (Memᴰ.tail m)))

  within_more : (n k m : ℕ) → N.cells ≤ n + O.dist m → river_within N (n + k) m ≡ river_within N n m
  unfolding river_within
  within_more zero k m b = absurd (omega (arith, O.short m))
  within_more (suc n) k m b =
      rw (suc-add n k) (ap (λ (R : Run). stem m ∷ R)
      (upstream_same (river_within N (n + k)) (river_within N n) (donors N m) (λ u j. within_more n k u (omega (
        arith,
        O.falls u m (O.donor_steps m u j),
      )))))

  -- more fuel adds nothing
  pub river_whole : (m k : ℕ) → river_within N (N.cells + k) m ≡ river N m
  unfolding river
  river_whole m k = within_more N.cells k m (omega arith)
