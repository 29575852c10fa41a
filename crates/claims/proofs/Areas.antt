-- A sum over the inside cells whose water passes a cell is what the cell adds and the sums over its donors.
use mathlib.Core.Path.{◌≡◌, refl, sym, ◌∙◌, ap}
use mathlib.Core.Bool.{Bool, true, false, cond, true≢false}
use mathlib.Core.Option.{Option, none, some}
use mathlib.Core.List.Memᴰ
use mathlib.Core.List.{List, [], ◌∷◌, Memᴰ}
use mathlib.Core.Logic.{◌⊎◌, inl, inr}
use Prim.Native.Nat.{ℕ, ◌+◌, ◌<◌}
use native.Mathlib.Omega.{arith}
use lib.Dec.{eqb}
use borrow.Author.Tests.{eqb-true, eq-eqb}
use Rattle.sheet.specs.Water.{passes, Passes, here, there}
use Rattle.sheet.specs.River.{donors, Network}
use Rattle.sheet.specs.Area.{sum_over}
use Rattle.claims.specs.Bounds.{sum}
use Rattle.claims.specs.Lawful.{Rising, rising_cons, Lawful}
use Rattle.claims.proofs.Runs.{pass_trans, pass_last, pass_dist, pass_same}
use Rattle.claims.proofs.Lawful.{passes_true, passes_all}
use Rattle.claims.proofs.Sums.{sum_zero, sum_either, sum_one}
use Rattle.std.specs.Prelude.{Some}

unfoldable any_of : (ℕ → ℕ → Bool) → List ℕ → ℕ → Bool
any_of P [] q = false
any_of P (u ∷ us) q = cond (P u q) true (any_of P us q)

any_some : (P : ℕ → ℕ → Bool) (us : List ℕ) (q : ℕ) → any_of P us q ≡ true → (u : ℕ) × Memᴰ u us × (P u q ≡ true)
unfolding any_of
any_some P [] q h = absurd (true≢false (sym h))
any_some P (u ∷ us) q h = go (P u q) refl (any_some P us q) h
  where
    go : (b : Bool) → P u q ≡ b → (any_of P us q ≡ true → (w : ℕ) × Memᴰ w us × (P w q ≡ true))
        → cond b true (any_of P us q) ≡ true → (w : ℕ) × Memᴰ w (u ∷ us) × (P w q ≡ true)
    go true e f h = (u, Memᴰ.head refl, e)
    go false e f h = let r = f h in (r.0, Memᴰ.tail r.1, r.2)

any_has : (P : ℕ → ℕ → Bool) (us : List ℕ) (q u : ℕ) → Memᴰ u us → P u q ≡ true → any_of P us q ≡ true
unfolding any_of
any_has P [] q u m h = absurd (Memᴰ.not-nil m)
any_has P (w ∷ us) q u m h =
    elim (Memᴰ.cases_cons m) [ inl e ↦ rw (rw e at h) | inr k ↦ go (P w q) (any_has P us q u k h) ]
  where
    go : (b : Bool) → any_of P us q ≡ true → cond b true (any_of P us q) ≡ true
    go true e = refl
    go false e = e

-- members past `old` are heavier than it
rising_over : {heavier : ℕ → ℕ → Bool} → ((u v w : ℕ) → heavier w v ≡ true → heavier v u ≡ true → heavier w u ≡ true)
    → (x : ℕ) (us : List ℕ) → Rising heavier (some x) us → (w : ℕ) → Memᴰ w us → heavier w x ≡ true
rising_over lighter x [] r w m = absurd (Memᴰ.not-nil m)
rising_over lighter x (u ∷ us) (rising_cons a r) w m =
    elim (Memᴰ.cases_cons m) [ inl e ↦ rw e a | inr k ↦ lighter x u w (rising_over lighter u us r w k) a ]

module _ {N : Network} {heavier : ℕ → ℕ → Bool} (O : Lawful N heavier) (is_inside : ℕ → Bool) (f : ℕ → ℕ) where
  -- q is inside and passes u
  abbrev under : ℕ → ℕ → Bool
  under u q = cond (is_inside q) (passes N.next N.cells q u) false

  under_true : (u q : ℕ) → under u q ≡ true → (is_inside q ≡ true) × Passes N.next q u
  under_true u q h = go (is_inside q) refl h
    where
      go : (b : Bool) → is_inside q ≡ b → cond b (passes N.next N.cells q u) false ≡ true
          → (is_inside q ≡ true) × Passes N.next q u
      go true e h = (e, passes_true N.next N.cells q u h)
      go false e h = absurd (true≢false (sym h))

  under_test : (u q : ℕ) → is_inside q ≡ true → Passes N.next q u → under u q ≡ true
  under_test u q i h = rw i (passes_all O.dist O.falls N.cells h (omega (arith, O.short q)))

  any_none : (n : ℕ) → sum_over n (any_of under []) f ≡ 0
  unfolding any_of
  any_none n = sum_zero n (any_of under []) f (λ q l. refl)

  any_split : (u : ℕ) (us : List ℕ) (q : ℕ) → any_of under (u ∷ us) q ≡ true
      → (under u q ≡ true) ⊎ (any_of under us q ≡ true)
  unfolding any_of
  any_split u us q h = go (under u q) h
    where
      go : (b : Bool) → cond b true (any_of under us q) ≡ true → (b ≡ true) ⊎ (any_of under us q ≡ true)
      go true h = inl refl
      go false h = inr h

  more_any : (u : ℕ) (us : List ℕ) (q : ℕ) → any_of under us q ≡ true → any_of under (u ∷ us) q ≡ true
  unfolding any_of
  more_any u us q h = go (under u q)
    where
      go : (b : Bool) → cond b true (any_of under us q) ≡ true
      go true = refl
      go false = h

  -- no water passes two donors of one cell
  apart : (c u : ℕ) (us : List ℕ) → Rising heavier (some u) us → N.next u ≡ Some c
      → ((w : ℕ) → Memᴰ w us → N.next w ≡ Some c)
      → (q : ℕ) → under u q ≡ true → any_of under us q ≡ true → ⊥
  apart c u us r e m q h k =
      let w = any_some under us q k in
      let level : O.dist u ≡ O.dist w.0 = omega (arith, O.falls u c e, O.falls w.0 c (m w.0 w.1)) in
      let same : u ≡ w.0 = pass_same O.dist O.falls (under_true u q h).1
      (under_true w.0 q w.2).1 level in
      let over : heavier w.0 u ≡ true = rising_over O.lighter u us r w.0 w.1 in
      true≢false (sym over ∙ (rw (← same) (O.unlike u)))

  any_sum : (c n : ℕ) (old : Option ℕ) (us : List ℕ) → Rising heavier old us
      → ((u : ℕ) → Memᴰ u us → N.next u ≡ Some c)
      → sum_over n (any_of under us) f ≡ sum (λ u. sum_over n (under u) f) us
  unfolding sum
  any_sum c n old [] r m = any_none n
  any_sum c n old (u ∷ us) (rising_cons a r) m =
      let e = sum_either n (any_of under (u ∷ us)) (under u) (any_of under us) f (record {
        split = λ q l. any_split u us q;
        left = λ q l h. any_has under (u ∷ us) q u (Memᴰ.head refl) h;
        right = λ q l. more_any u us q;
        apart = λ q l. apart c u us r (m u (Memᴰ.head refl)) (λ w k. m w (Memᴰ.tail k)) q;
      }) in
      let i = any_sum c n (some u) us r (λ w k. m w (Memᴰ.tail k)) in
      omega arith

  -- every cell under c is c or is under one donor of it
  pub area_sum : (c : ℕ) → is_inside c ≡ true → c < N.cells
      → sum_over N.cells (under c) f ≡ f c + sum (λ u. sum_over N.cells (under u) f) (donors N c)
  area_sum c i l =
      let e = sum_either N.cells (under c) (λ q. eqb q c) (any_of under (donors N c)) f (record {
        split = λ q b. way q;
        left = λ q b h. under_test c q (rw (eqb-true q c h) i) (rw (eqb-true q c h) here);
        right = λ q b. down q;
        apart = λ q b. back q;
      }) in
      let k = any_sum c N.cells none (donors N c) (O.donors_rising c) (O.donor_steps c) in
      let o = sum_one N.cells c f l in
      omega arith
    where
      way : (q : ℕ) → under c q ≡ true → (eqb q c ≡ true) ⊎ (any_of under (donors N c) q ≡ true)
      way q h =
          let r = under_true c q h in
          elim (pass_last r.1) [
            | inl e ↦ inl (eq-eqb q c e)
            | inr k ↦ inr
                (any_has under (donors N c) q k.0 (O.donors_complete c k.0 k.1)
                (under_test k.0 q r.0 k.2))
          ]

      down : (q : ℕ) → any_of under (donors N c) q ≡ true → under c q ≡ true
      down q h =
          let w = any_some under (donors N c) q h in
          let r = under_true w.0 q w.2 in
          under_test c q r.0 (pass_trans r.1 (there (O.donor_steps c w.0 w.1) here))

      back : (q : ℕ) → eqb q c ≡ true → any_of under (donors N c) q ≡ true → ⊥
      back q e h =
          let w = any_some under (donors N c) q h in
          let r = under_true w.0 q w.2 in
          let d = pass_dist O.dist O.falls r.1 in
          let s = eqb-true q c e in
          omega (arith, O.falls w.0 c (O.donor_steps c w.0 w.1), ap O.dist s)
