-- The order among cells, and the donors of a cell in that order.
-- what the test says
use mathlib.Core.Path.{◌≡◌, refl, sym, ◌∙◌}
use mathlib.Core.Bool.{Bool, true, false, cond, true≢false}
use mathlib.Core.Option.{Option, none, some}
use mathlib.Core.List.Memᴰ
use mathlib.Core.List.{List, [], ◌∷◌, Memᴰ}
use mathlib.Core.Logic.{◌⊎◌, inl, inr, ◌≢◌}
use Prim.Native.Nat.{ℕ, zero, suc, ◌<◌, ◌≤◌}
use native.Mathlib.Omega.{arith}
use lib.Dec.{eqb, ltb, leb}
use borrow.Author.Tests.{eqb-true, eqb-false, eq-eqb, ne_eqb, ltb-true, ltb-false, lt-ltb, leb-true, le-leb}
use Rattle.sheet.specs.River.{insert, ends_on, donors_below}
use Rattle.sheet.specs.Area.{heavier_by}
use Rattle.claims.specs.Runs.{Above}
use Rattle.claims.specs.Lawful.{Rising, rising_end, rising_cons}
use Rattle.sheet.specs.Answer.{Next}
use Rattle.std.specs.Prelude.{None, Some}

pub data More (area : ℕ → ℕ) (u v : ℕ) : Type 0 where
  larger : area v < area u → More area u v
  later : area u ≡ area v → v < u → More area u v

module _ (area : ℕ → ℕ) where
  pub more : (u v : ℕ) → heavier_by area u v ≡ true → More area u v
  unfolding heavier_by
  more u v h = go (eqb (area u) (area v)) refl h
    where
      go : (b : Bool) → eqb (area u) (area v) ≡ b → cond b (ltb v u) (ltb (area v) (area u)) ≡ true → More area u v
      go true e h = later (eqb-true (area u) (area v) e) (ltb-true v u h)
      go false e h = larger (ltb-true (area v) (area u) h)

  pub more_test : (u v : ℕ) → More area u v → heavier_by area u v ≡ true
  unfolding heavier_by
  more_test u v (larger l) = rw (ne_eqb (area u) (area v) (λ e. omega arith)) (lt-ltb (area v) (area u) l)
  more_test u v (later e l) = rw (eq-eqb (area u) (area v) e) (lt-ltb v u l)

  more_trans : {u v w : ℕ} → More area w v → More area v u → More area w u
  more_trans (larger a) (larger b) = larger (omega arith)
  more_trans (larger a) (later e b) = larger (omega arith)
  more_trans (later e a) (larger b) = larger (omega arith)
  more_trans (later e a) (later f b) = later (e ∙ f) (omega arith)

  more_not : {u : ℕ} → More area u u → ⊥
  more_not (larger a) = omega arith
  more_not (later e a) = omega arith

  pub heavier_trans : (u v w : ℕ) → heavier_by area w v ≡ true → heavier_by area v u ≡ true → heavier_by area w u ≡ true
  heavier_trans u v w h k = more_test w u (more_trans (more w v h) (more v u k))

  pub heavier_irrefl : (u : ℕ) → heavier_by area u u ≡ false
  heavier_irrefl u = go (heavier_by area u u) refl
    where
      go : (b : Bool) → heavier_by area u u ≡ b → b ≡ false
      go true e = absurd (more_not (more u u e))
      go false e = refl

  -- of two cells one is heavier
  pub heavier_total : (u v : ℕ) → u ≢ v → heavier_by area u v ≡ false → heavier_by area v u ≡ true
  unfolding heavier_by
  heavier_total u v n h = go (eqb (area u) (area v)) refl h
    where
      go : (b : Bool) → eqb (area u) (area v) ≡ b → cond b (ltb v u) (ltb (area v) (area u)) ≡ false
          → heavier_by area v u ≡ true
      go true e h =
          let k = ltb-false v u h in let a = eqb-true (area u) (area v) e in more_test v u (later (sym a) (omega arith))
      go false e h =
          let k = ltb-false (area v) (area u) h in
          let d : area u ≢ area v = eqb-false (area u) (area v) e in more_test v u (larger (omega arith))

-- a cell that is heavier than one of an area that counts has such an area
pub heavier_counts : (area : ℕ → ℕ) (least u v : ℕ) → heavier_by area u v ≡ true → leb least (area v) ≡ true
    → leb least (area u) ≡ true
heavier_counts area least u v h k = go (more area u v h) (leb-true least (area v) k)
  where
    go : More area u v → least ≤ area v → leb least (area u) ≡ true
    go (larger l) m = le-leb least (area u) (omega arith)
    go (later e l) m = le-leb least (area u) (omega arith)

ends_true : (x : Next) (c : ℕ) → ends_on x c ≡ true → x ≡ Some c
unfolding ends_on
ends_true None c h = absurd (true≢false (sym h))
ends_true (Some r) c h = rw (eqb-true r c h)

ends_at : (x : Next) (c : ℕ) → x ≡ Some c → ends_on x c ≡ true
unfolding ends_on
ends_at x c e = rw (e, ends_on) (eq-eqb c c refl)

module _ (heavier : ℕ → ℕ → Bool) where
  insert_mem : (u : ℕ) (vs : List ℕ) (x : ℕ) → Memᴰ x (insert heavier u vs) → (x ≡ u) ⊎ Memᴰ x vs
  unfolding insert
  insert_mem u [] x m = Memᴰ.cases_cons m
  insert_mem u (v ∷ vs) x m = go (heavier u v) (insert_mem u vs x) m
    where
      go : (b : Bool) → (Memᴰ x (insert heavier u vs) → (x ≡ u) ⊎ Memᴰ x vs)
          → Memᴰ x (cond b (v ∷ insert heavier u vs) (u ∷ v ∷ vs)) → (x ≡ u) ⊎ Memᴰ x (v ∷ vs)
      go true f m =
          elim (Memᴰ.cases_cons m)
          [ inl e ↦ inr (Memᴰ.head e) | inr k ↦ elim (f k) [ inl e ↦ inl e | inr j ↦ inr (Memᴰ.tail j) ] ]
      go false f m = Memᴰ.cases_cons m

  insert_has : (u : ℕ) (vs : List ℕ) (x : ℕ) → (x ≡ u) ⊎ Memᴰ x vs → Memᴰ x (insert heavier u vs)
  unfolding insert
  insert_has u [] x m = elim m [ inl e ↦ Memᴰ.head e | inr k ↦ absurd (Memᴰ.not-nil k) ]
  insert_has u (v ∷ vs) x m = go (heavier u v) (insert_has u vs x) m
    where
      go : (b : Bool) → ((x ≡ u) ⊎ Memᴰ x vs → Memᴰ x (insert heavier u vs))
          → (x ≡ u) ⊎ Memᴰ x (v ∷ vs) → Memᴰ x (cond b (v ∷ insert heavier u vs) (u ∷ v ∷ vs))
      go true f (inl e) = Memᴰ.tail (f (inl e))
      go true f (inr k) =
          elim (Memᴰ.cases_cons k) [ inl e ↦ Memᴰ.head e | inr j ↦ Memᴰ.tail (f (inr j)) ]
      go false f (inl e) = Memᴰ.head e
      go false f (inr k) = Memᴰ.tail k

  module _ (total : (u v : ℕ) → u ≢ v → heavier u v ≡ false → heavier v u ≡ true) where
    insert_rise : (old : Option ℕ) (u : ℕ) (vs : List ℕ) → (Memᴰ u vs → ⊥) → Above heavier old u
        → Rising heavier old vs → Rising heavier old (insert heavier u vs)
    unfolding insert
    insert_rise old u [] n a r = rising_cons a rising_end
    insert_rise old u (v ∷ vs) n a (rising_cons b r) =
        go (heavier u v) refl (λ h. insert_rise (some v) u vs (λ m. n (Memᴰ.tail m)) h r)
      where
        go : (t : Bool) → heavier u v ≡ t → (heavier u v ≡ true → Rising heavier (some v) (insert heavier u vs))
            → Rising heavier old (cond t (v ∷ insert heavier u vs) (u ∷ v ∷ vs))
        go true e f = rising_cons b (f e)
        go false e f = rising_cons a (rising_cons (total u v (λ s. n (Memᴰ.head s)) e) r)

module _ (next : ℕ → Next) (heavier : ℕ → ℕ → Bool) where
  pub donors_only : (n c u : ℕ) → Memᴰ u (donors_below next heavier n c) → (u < n) × (next u ≡ Some c)
  unfolding donors_below
  donors_only zero c u m = absurd (Memᴰ.not-nil m)
  donors_only (suc n) c u m = go (ends_on (next n) c) refl (donors_only n c u) m
    where
      go : (b : Bool) → ends_on (next n) c ≡ b → (Memᴰ u (donors_below next heavier n c) → (u < n) × (next u ≡ Some c))
          → Memᴰ u (cond b (insert heavier n (donors_below next heavier n c)) (donors_below next heavier n c)) →
          (u < suc n) × (next u ≡ Some c)
      go true e f m = elim (insert_mem heavier n (donors_below next heavier n c) u m)
          [ inl s ↦ (omega arith, rw s (ends_true (next n) c e)) | inr k ↦ let r = f k in (omega (arith, r.0), r.1) ]
      go false e f m = let r = f m in (omega (arith, r.0), r.1)

  pub donors_all : (n c u : ℕ) → u < n → next u ≡ Some c → Memᴰ u (donors_below next heavier n c)
  unfolding donors_below
  donors_all zero c u l e = absurd (omega arith)
  donors_all (suc n) c u l e = go (eqb u n) refl (λ k. donors_all n c u k e)
    where
      keep : (b : Bool) → Memᴰ u (donors_below next heavier n c)
          → Memᴰ u (cond b (insert heavier n (donors_below next heavier n c)) (donors_below next heavier n c))
      keep true m = insert_has heavier n (donors_below next heavier n c) u (inr m)
      keep false m = m

      go : (b : Bool) → eqb u n ≡ b → (u < n → Memᴰ u (donors_below next heavier n c))
          → Memᴰ u
          (cond (ends_on (next n) c) (insert heavier n (donors_below next heavier n c)) (donors_below next heavier n c))
      go true x f =
          let s : u ≡ n = eqb-true u n x in
          rw (ends_at (next n) c (rw s at e)) (insert_has heavier n (donors_below next heavier n c) u (inl s))
      go false x f = let d : u ≢ n = eqb-false u n x in keep (ends_on (next n) c) (f (omega arith))

  pub donors_rise : ((u v : ℕ) → u ≢ v → heavier u v ≡ false → heavier v u ≡ true) → (n c : ℕ)
      → Rising heavier none (donors_below next heavier n c)
  unfolding donors_below
  donors_rise total zero c = rising_end
  donors_rise total (suc n) c = go (ends_on (next n) c) (donors_rise total n c)
    where
      go : (b : Bool) → Rising heavier none (donors_below next heavier n c)
          → Rising heavier none
          (cond b (insert heavier n (donors_below next heavier n c)) (donors_below next heavier n c))
      go true r =
          insert_rise heavier total none n (donors_below next heavier n c)
          (λ m. let k = (donors_only n c n m).0 in omega arith) tt r
      go false r = r
