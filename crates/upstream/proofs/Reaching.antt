-- A finished search has reached the inside cells whose water comes to an outlet, and no others.
use mathlib.Core.Path.{◌≡◌, refl, sym, ◌∙◌, ap, subst}
use mathlib.Core.Bool.{true}
use mathlib.Core.List.{List}
use Prim.Native.Nat.{ℕ, zero, suc, ◌-◌, ◌<◌}
use native.Mathlib.Decide.{ℕ_discrete}
use native.Mathlib.Omega.{arith}
use Rattle.sheet.specs.Sheet.{Grid, cells, inside, next}
use Rattle.sheet.specs.Water.{reaches_outlet}
use Rattle.sheet.specs.Refusal.{both}
use Rattle.sheet.proofs.Cells.{next_goes, next_to_lt, is_outlet_lem}
use Rattle.sheet.proofs.Within.{both_true}
use Rattle.claims.specs.Basin.{Ends, ends_here, ends_after}
use Rattle.claims.proofs.Counts.{not-true}
use Rattle.claims.proofs.Fuel.{ends_within, reaches_ends, ends_reaches}
use Rattle.upstream.specs.Work.{queued_at, rank_of, is_reached}
use Rattle.upstream.specs.Search.{Upstream, Searched}
use Rattle.upstream.specs.Growth.{Spread}
use Rattle.upstream.proofs.Queues.{reached_yes, reached_no, place_on}
use Rattle.upstream.proofs.Upstream.{way_on, next_before, inside_of}
use Rattle.sheet.specs.Answer.{Next}
use Rattle.std.specs.Prelude.{None, Some}

module _ {G : Grid} {work : List ℕ} {queued : ℕ} (u : Upstream G work queued) where
  place_ends : (m i : ℕ) → i < m → i < queued → (k : ℕ) × Ends (next G) k (queued_at work i)
  place_ends zero i h l = absurd (omega arith)
  place_ends (suc m) i h l = go (next G (queued_at work i)) refl (place_ends m)
    where
      go : (x : Next) → next G (queued_at work i) ≡ x
          → ((j : ℕ) → j < m → j < queued → (k : ℕ) × Ends (next G) k (queued_at work j)) → (k : ℕ) × Ends (next G) k
          (queued_at work i)
      go None e ih = (1, ends_here e)
      go (Some r) e ih =
          let b = next_before u i r l e in
          let j = rank_of (cells G) work r - 1 in
          let w = ih j (omega (arith, b.reached, b.earlier)) (place_on u.queue r b.on b.reached) in (
            suc w.0,
            ends_after e (subst (Ends (next G) w.0) (u.queue.stands r b.on b.reached).place w.1),
          )

  -- the water of a queued cell comes to an outlet
  pub reached_ends : (c : ℕ) → c < cells G → 0 < rank_of (cells G) work c → reaches_outlet (next G) (cells G) c ≡ true
  reached_ends c l h =
      let i = rank_of (cells G) work c - 1 in
      let w = place_ends (suc i) i (omega arith) (place_on u.queue c l h) in
      let v : Ends (next G) w.0 c = subst (Ends (next G) w.0) (u.queue.stands c l h).place w.1 in
      ends_reaches (ends_within (cells G) v (λ x p. way_on G l p))

module _ {G : Grid} {work : List ℕ} {queued : ℕ} (s : Spread G work queued queued) where
  -- an inside cell whose water comes to an outlet is queued
  ends_reached : {k c : ℕ} → Ends (next G) k c → inside G c ≡ true → 0 < rank_of (cells G) work c
  ends_reached (ends_here {c = c} e) i = s.outlets.reached c (is_outlet_lem G c i e)
  ends_reached (ends_after {c = c} {r = r} e w) i =
      let g = next_goes G c e in
      let h = ends_reached w g.to_inside in
      let q = s.upstream.queue in
      let on = next_to_lt G c e in
      s.donors (rank_of (cells G) work r - 1) (place_on q r on h) c (e ∙ ap Some (sym (q.stands r on h).place))

  reached_is : (c : ℕ) → c < cells G
      → is_reached (cells G) work c ≡ both (inside G c) (reaches_outlet (next G) (cells G) c)
  reached_is c l = elim (ℕ_discrete (rank_of (cells G) work c) 0) [
    | yes e ↦
        reached_no (cells G) work c e
        ∙ sym (not-true _
        (λ h. let b = both_true _ _ h in let r = ends_reached (reaches_ends (next G) (cells G) c b.1)
        b.0 in omega arith))
    | no d ↦
        let h : 0 < rank_of (cells G) work c = omega arith in
        reached_yes (cells G) work c h ∙ sym (rw (inside_of s.upstream c l h) (reached_ends s.upstream c l h))
  ]

  pub searched : Searched G work queued
  searched = record { upstream = s.upstream; reached = reached_is; outlets = s.outlets }
