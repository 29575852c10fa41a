-- Ways of water on n cells: tests that agree, and what one more step changes.
use mathlib.Core.Path.{◌≡◌, refl, sym, ◌∙◌, ap}
use mathlib.Core.Bool.{Bool, true, false, cond}
use mathlib.Core.Logic.{◌⊎◌, inl, inr, ◌≢◌}
use Prim.Native.Nat.{ℕ, zero, suc, ◌+◌, ◌<◌}
use native.Mathlib.Decide.{ℕ_discrete}
use lib.Dec.{eqb}
use Rattle.sheet.specs.Water.{onward, passes, Passes, here, there}
use Rattle.sheet.proofs.Cells.{outlet_not_to}
use Rattle.claims.proofs.Runs.{pass_trans}
use Rattle.claims.proofs.Lawful.{passes_true}
use Rattle.claims.proofs.Fuel.{passes_enough}
use Rattle.drainage.specs.Total.{total}
use Rattle.claims.proofs.Sums.{sum_same, sum_either}
use Rattle.sheet.specs.Answer.{Next}
use Rattle.std.specs.Prelude.{None, Some}

-- water stays among the first n cells
abbrev pub Stays : ℕ → (ℕ → Next) → Type 0
Stays n next = (q r : ℕ) → q < n → next q ≡ Some r → r < n

pub way_stays : {n : ℕ} {next : ℕ → Next} → Stays n next → {q c : ℕ} → q < n → Passes next q c → c < n
way_stays stay l here = l
way_stays stay l (there {q = q} {r = r} e h) = way_stays stay (stay q r l e) h

pub passes_yes : {n : ℕ} {next : ℕ → Next} → Stays n next → {q c : ℕ} → q < n → Passes next q c
    → passes next n q c ≡ true
passes_yes {n} stay l p = passes_enough n (λ x h. way_stays stay l h) p

-- ---- the same steps on n cells

module _ {n : ℕ} {A B : ℕ → Next} (stay : Stays n A) (same : (q : ℕ) → q < n → B q ≡ A q) where
  passes_same : (k q c : ℕ) → q < n → passes B k q c ≡ passes A k q c
  unfolding passes onward
  passes_same zero q c l = refl
  passes_same (suc k) q c l = go (A q) (B q) refl (same q l) (passes_same k)
    where
      go : (x y : Next) → A q ≡ x → y ≡ A q → ((r c : ℕ) → r < n → passes B k r c ≡ passes A k r c)
          → cond (eqb q c) true (onward y false (λ r. passes B k r c)) ≡ cond (eqb q c) true
          (onward x false (λ r. passes A k r c))
      go None y e f ih = rw (f ∙ e)
      go (Some r) y e f ih = rw (f ∙ e, ih r c (stay q r l e))

  pub total_same : (f : ℕ → ℕ) (c : ℕ) → total n B f c ≡ total n A f c
  unfolding total
  total_same f c = sum_same n (λ q. passes B n q c) (λ q. passes A n q c) f f (λ q l. passes_same n q c l) (λ q l. refl)

pub total_alike : (n : ℕ) (next : ℕ → Next) (f g : ℕ → ℕ) (c : ℕ) → ((q : ℕ) → q < n → f q ≡ g q)
    → total n next f c ≡ total n next g c
unfolding total
total_alike n next f g c h = sum_same n (λ q. passes next n q c) (λ q. passes next n q c) f g (λ q l. refl) h

-- ---- one more step

-- the water of x, which went nowhere, goes to t, whose water goes nowhere
pub record Opens (n : ℕ) (A B : ℕ → Next) (x t : ℕ) : Type 0 where
  pub stay : Stays n A
  pub x_on : x < n
  pub t_on : t < n
  pub x_shut : A x ≡ None
  pub t_shut : A t ≡ None
  pub apart : t ≢ x
  pub opened : B x ≡ Some t
  pub same : (q : ℕ) → q < n → q ≢ x → B q ≡ A q

-- a way comes to one outlet
one_end : {A : ℕ → Next} {q a b : ℕ} → A a ≡ None → A b ≡ None → Passes A q a → Passes A q b → a ≡ b
one_end e f here here = refl
one_end e f here (there g h) = absurd (outlet_not_to (sym e ∙ g))
one_end e f (there g h) here = absurd (outlet_not_to (sym f ∙ g))
one_end {A} e f (there {r = r} g h) (there {r = s} g' h') = let z : s ≡ r = cc in one_end e f h (rw z at h')

same_truth : (a b : Bool) → (a ≡ true → b ≡ true) → (b ≡ true → a ≡ true) → a ≡ b
same_truth true b f g = sym (f refl)
same_truth false true f g = g refl
same_truth false false f g = refl

module _ {n : ℕ} {A B : ℕ → Next} {x t : ℕ} (o : Opens n A B x t) where
  other : {q r : ℕ} → A q ≡ Some r → q ≢ x
  other e z = outlet_not_to (sym o.x_shut ∙ ap A (sym z) ∙ e)

  stay_open : Stays n B
  stay_open q r l e = elim (ℕ_discrete q x) [
    | yes z ↦ let w : Some t ≡ Some r = sym o.opened ∙ ap B (sym z) ∙ e in let s : t ≡ r = cc in rw (← s) o.t_on
    | no d ↦ o.stay q r l (sym (o.same q l d) ∙ e)
  ]

  kept : {q c : ℕ} → q < n → Passes A q c → Passes B q c
  kept l here = here
  kept l (there {q = q} {r = r} e h) = there (o.same q l (other e) ∙ e) (kept (o.stay q r l e) h)

  from_t : {c : ℕ} → Passes B t c → c ≡ t
  from_t here = refl
  from_t (there e h) = absurd (outlet_not_to (sym (o.same t o.t_on o.apart ∙ o.t_shut) ∙ e))

  split : {q c : ℕ} → q < n → Passes B q c → Passes A q c ⊎ ((c ≡ t) × Passes A q x)
  split l here = inl here
  split {c = c} l (there {q = q} {r = r} e h) = elim (ℕ_discrete q x) [
    | yes z ↦
        let w : Some t ≡ Some r = sym o.opened ∙ ap B (sym z) ∙ e in
        let s : r ≡ t = cc in
        inr (from_t (rw s at h), rw z here)
    | no d ↦
        let e' : A q ≡ Some r = sym (o.same q l d) ∙ e in
        elim (split (o.stay q r l e') h) [ inl p ↦ inl (there e' p) | inr p ↦ inr (p.0, there e' p.1) ]
  ]

  abbrev in_a : ℕ → ℕ → Bool
  in_a c q = passes A n q c

  abbrev in_b : ℕ → ℕ → Bool
  in_b c q = passes B n q c

  -- the total of another cell is kept
  pub total_kept : (f : ℕ → ℕ) (c : ℕ) → c ≢ t → total n B f c ≡ total n A f c
  unfolding total
  total_kept f c d =
      sum_same n (in_b c) (in_a c) f f
      (λ q l. same_truth (in_b c q) (in_a c q) (down q l)
      (λ h. passes_yes stay_open l (kept l (passes_true A n q c h)))) (λ q l. refl)
    where
      down : (q : ℕ) → q < n → in_b c q ≡ true → in_a c q ≡ true
      down q l h =
          elim (split l (passes_true B n q c h)) [ inl p ↦ passes_yes o.stay l p | inr p ↦ absurd (d p.0) ]

  -- that of t grows by that of x
  pub total_more : (f : ℕ → ℕ) → total n B f t ≡ total n A f t + total n A f x
  unfolding total
  total_more f = sum_either n (in_b t) (in_a t) (in_a x) f (record {
    split =
        λ q l h. elim
        (split l (passes_true B n q t h))
        [ inl p ↦ inl (passes_yes o.stay l p) | inr p ↦ inr (passes_yes o.stay l p.1) ];
    left = λ q l h. passes_yes stay_open l (kept l (passes_true A n q t h));
    right = λ q l h. passes_yes stay_open l (pass_trans (kept l (passes_true A n q x h)) (there o.opened here));
    apart = λ q l h k. o.apart (one_end o.t_shut o.x_shut (passes_true A n q t h) (passes_true A n q x k));
  })
