-- The choice of the heaviest mouths: closed upwards, never too many, never none.
use mathlib.Core.Path.{◌≡◌, refl, sym, ◌∙◌}
use mathlib.Core.Bool.{Bool, true, false, cond, true≢false}
use mathlib.Core.List.{[], ◌∷◌}
use mathlib.Core.Logic.{◌⊎◌, inl, inr, ◌≢◌}
use Prim.Native.Nat.{ℕ, zero, suc, ◌+◌, ◌≤◌, ◌<◌}
use native.Mathlib.Omega.{arith}
use lib.Dec.{eqb, ltb}
use lib.ListN.{length}
use borrow.Author.Tests.{eqb-true, eqb-false, ltb-true, lt-ltb}
use Rattle.sheet.specs.Water.{here}
use Rattle.sheet.specs.Unit.{finished, rank, taken, prepend, cut_at, parts, Parts, last, part}
use Rattle.sheet.specs.Record.{Digits, digits_none, digits_cons}
use Rattle.sheet.specs.Label.{place_of, label, Place}
use Rattle.sheet.specs.River.{heavier, Run, Network, Entry, stem, mouth}
use Rattle.claims.specs.Runs.{MouthOf, mouth_here, mouth_there, Headed}
use Rattle.claims.specs.Lawful.{Lawful}
use Rattle.claims.proofs.Runs.{mouth_in, In, is_under}
use Rattle.claims.proofs.Order.{Ordered, ordered_cons}
use Rattle.claims.proofs.Rivers.{headed_ordered}
use Rattle.claims.proofs.Parts.{spot_above, place_spot, place_headed, place_holds, Spot, spot_last, spot_in}
use Rattle.claims.proofs.Parts.{spot_mouth, spot_later}
use Rattle.claims.proofs.Counts.{not-true}
use Rattle.claims.proofs.Heavier.{heavier_trans, heavier_irrefl, heavier_total}
use Rattle.sheet.specs.Answer.{Next}

module _ {heavier : ℕ → ℕ → Bool}
    (lighter : (u v w : ℕ) → heavier w v ≡ true → heavier v u ≡ true → heavier w u ≡ true) where
  -- fewer mouths are heavier than the heavier one
  rank_falls : (R : Run) (u v : ℕ) → heavier u v ≡ true → rank heavier R u ≤ rank heavier R v
  unfolding rank
  rank_falls [] u v h = omega arith
  rank_falls (stem s ∷ R) u v h = rank_falls R u v h
  rank_falls (mouth w ∷ R) u v h = go (heavier w u) refl (heavier w v) refl (rank_falls R u v h)
    where
      go : (a : Bool) → heavier w u ≡ a → (b : Bool) → heavier w v ≡ b → rank heavier R u ≤ rank heavier R v
          → cond a (suc (rank heavier R u)) (rank heavier R u) ≤ cond b (suc (rank heavier R v)) (rank heavier R v)
      go true x true y i = omega arith
      go true x false y i = absurd (true≢false (sym (lighter v u w x h) ∙ y))
      go false x true y i = omega arith
      go false x false y i = i

-- the choice of mouths is closed upwards, if the mouths that count are
module _ (N : Network) (upwards : (u v : ℕ) → heavier N u v ≡ true → N.counted v ≡ true → N.counted u ≡ true) where
  pub taken_upward : (R : Run) (u v : ℕ) → taken N R v ≡ true → heavier N u v ≡ true → taken N R u ≡ true
  unfolding taken
  taken_upward R u v t h = go (N.counted v) refl t
    where
      go : (b : Bool) → N.counted v ≡ b → cond b (ltb (rank (heavier N) R v) N.split) false ≡ true
          → cond (N.counted u) (ltb (rank (heavier N) R u) N.split) false ≡ true
      go true x t =
          rw (upwards u v h x) (lt-ltb (rank (heavier N) R u) N.split (omega (
            arith,
            rank_falls (heavier_trans N.area) R u v h,
            ltb-true (rank (heavier N) R v) N.split t,
          )))
      go false x t = absurd (true≢false (sym t))

both : (b : Bool) {r : Bool} → cond b false r ≡ true → (b ≡ false) × (r ≡ true)
both true x = absurd (true≢false (sym x))
both false x = (refl, x)

-- a finished run has no mouth that counts
pub finished_none : (N : Network) (R : Run) → finished N R ≡ true → (v : ℕ) → MouthOf R v → N.counted v ≡ false
unfolding finished
finished_none N [] e v m = elim m [ ]
finished_none N (stem s ∷ R) e v (mouth_there m) = finished_none N R e v m
finished_none N (mouth w ∷ R) e v mouth_here = (both (N.counted w) e).0
finished_none N (mouth w ∷ R) e v (mouth_there m) = finished_none N R (both (N.counted w) e).1 v m

-- the number of taken mouths of a cut run
abbrev pub cuts : Parts → ℕ
cuts (last R) = 0
cuts (part R v P) = suc (cuts P)

-- how many mouths of the run pass the test
unfoldable pub chosen : (ℕ → Bool) → Run → ℕ
chosen t [] = 0
chosen t (stem s ∷ R) = chosen t R
chosen t (mouth v ∷ R) = cond (t v) (suc (chosen t R)) (chosen t R)

cuts_prepend : (e : Entry) (P : Parts) → cuts (prepend e P) ≡ cuts P
unfolding prepend
cuts_prepend e (last R) = refl
cuts_prepend e (part R v P) = refl

pub cuts_cut : (t : ℕ → Bool) (R : Run) → cuts (cut_at t R) ≡ chosen t R
unfolding cut_at chosen
cuts_cut t [] = refl
cuts_cut t (stem s ∷ R) = rw cuts_prepend (cuts_cut t R)
cuts_cut t (mouth v ∷ R) = go (t v) (cuts_cut t R)
  where
    go : (b : Bool) → cuts (cut_at t R) ≡ chosen t R
        → cuts (cond b (part [] v (cut_at t R)) (prepend (mouth v) (cut_at t R))) ≡ cond b (suc (chosen t R)) (chosen t R)
    go true e = rw e
    go false e = rw cuts_prepend e

pub same_or_not : (u v : ℕ) → (u ≡ v) ⊎ (u ≢ v)
same_or_not u v = dec (eqb u v) refl
  where
    dec : (b : Bool) → eqb u v ≡ b → (u ≡ v) ⊎ (u ≢ v)
    dec true e = inl (eqb-true u v e)
    dec false e = inr (eqb-false u v e)

-- the lightest chosen mouth, or none is chosen
pub data Least (heavier : ℕ → ℕ → Bool) (t : ℕ → Bool) (R : Run) : Type 0 where
  no_least : chosen t R ≡ 0 → Least heavier t R
  least : (v : ℕ) → MouthOf R v → t v ≡ true → ((u : ℕ) → MouthOf R u → t u ≡ true → u ≢ v → heavier u v ≡ true)
      → Least heavier t R

nil_mouth : {v : ℕ} → MouthOf [] v → ⊥
nil_mouth = elim [ ]

stem_mouth : {s v : ℕ} {R : Run} → MouthOf (stem s ∷ R) v → MouthOf R v
stem_mouth (mouth_there m) = m

mouth_cases : {w v : ℕ} {R : Run} → MouthOf (mouth w ∷ R) v → (v ≡ w) ⊎ MouthOf R v
mouth_cases mouth_here = inl refl
mouth_cases (mouth_there m) = inr m

pub chosen_none : (t : ℕ → Bool) (R : Run) → chosen t R ≡ 0 → (u : ℕ) → MouthOf R u → t u ≡ true → ⊥
unfolding chosen
chosen_none t [] e u m h = elim m [ ]
chosen_none t (stem s ∷ R) e u (mouth_there m) h = chosen_none t R e u m h
chosen_none t (mouth v ∷ R) e u mouth_here h = let k = rw h at e in omega arith
chosen_none t (mouth v ∷ R) e u (mouth_there m) h = chosen_none t R (go (t v) e) u m h
  where
    go : (b : Bool) → cond b (suc (chosen t R)) (chosen t R) ≡ 0 → chosen t R ≡ 0
    go true e = absurd (omega arith)
    go false e = e

module _ {heavier : ℕ → ℕ → Bool} (lighter : (u v w : ℕ) → heavier w v ≡ true → heavier v u ≡ true → heavier w u ≡ true)
    (total : (u v : ℕ) → u ≢ v → heavier u v ≡ false → heavier v u ≡ true) (t : ℕ → Bool) where
  pub find_least : (R : Run) → Least heavier t R
  unfolding chosen
  find_least [] = no_least refl
  find_least (stem s ∷ R) = elim (find_least R) [
    | no_least e ↦ no_least e
    | least v m h f ↦ least v (mouth_there m) h (λ u n. f u (stem_mouth n))
  ]
  find_least (mouth w ∷ R) = go (t w) refl (find_least R)
    where
      go : (b : Bool) → t w ≡ b → Least heavier t R → Least heavier t (mouth w ∷ R)
      go true e (no_least z) =
          least w mouth_here e
          (λ u n h d. elim (mouth_cases n) [ inl s ↦ absurd (d s) | inr m ↦ absurd (chosen_none t R z u m h) ])
      go true e (least v m h f) = pick (same_or_not w v) (heavier w v) refl
        where
          pick : (w ≡ v) ⊎ (w ≢ v) → (b : Bool) → heavier w v ≡ b → Least heavier t (mouth w ∷ R)
          pick (inl s) b x =
              least v (mouth_there m) h
              (λ u n k d. elim (mouth_cases n) [ inl j ↦ absurd (d (j ∙ s)) | inr j ↦ f u j k d ])
          pick (inr s) true x =
              least v (mouth_there m) h (λ u n k d. elim (mouth_cases n) [ inl j ↦ rw j x | inr j ↦ f u j k d ])
          pick (inr s) false x =
              least w mouth_here e
              (λ u n k d. elim (mouth_cases n) [ inl j ↦ absurd (d j) | inr j ↦ over u j k (same_or_not u v) ])
            where
              below : heavier v w ≡ true
              below = total w v s x

              over : (u : ℕ) → MouthOf R u → t u ≡ true → (u ≡ v) ⊎ (u ≢ v) → heavier u w ≡ true
              over u j k (inl i) = rw i below
              over u j k (inr i) = lighter w v u (f u j k i) below
      go false e (no_least z) = no_least (rw e z)
      go false e (least v m h f) =
          least v (mouth_there m) h
          (λ u n k d. elim (mouth_cases n) [ inl j ↦ absurd (true≢false (sym k ∙ (rw j e))) | inr j ↦ f u j k d ])

pub cond_le : (b : Bool) {x y : ℕ} (c : Bool) → (b ≡ true → c ≡ true) → x ≤ y → cond b (suc x) x ≤ cond c (suc y) y
cond_le true true f l = omega arith
cond_le true false f l = absurd (true≢false (sym (f refl)))
cond_le false true f l = omega arith
cond_le false false f l = l

cond_le_suc : (b : Bool) {x y : ℕ} (c : Bool) → (b ≡ true → c ≡ true) → x ≤ suc y
    → cond b (suc x) x ≤ suc (cond c (suc y) y)
cond_le_suc true true f l = omega arith
cond_le_suc true false f l = absurd (true≢false (sym (f refl)))
cond_le_suc false true f l = omega arith
cond_le_suc false false f l = l

once : (b c : Bool) {x y : ℕ} → x ≤ y → cond b (suc x) x ≤ suc (cond c (suc y) y)
once true true l = omega arith
once true false l = omega arith
once false true l = omega arith
once false false l = omega arith

module _ (heavier : ℕ → ℕ → Bool) (t : ℕ → Bool) where
  -- without v, each chosen mouth is heavier than v
  pub rank_over : (v : ℕ) (R : Run) → ((u : ℕ) → MouthOf R u → t u ≡ true → heavier u v ≡ true)
      → chosen t R ≤ rank heavier R v
  unfolding chosen rank
  rank_over v [] f = omega arith
  rank_over v (stem s ∷ R) f = rank_over v R (λ u m. f u (mouth_there m))
  rank_over v (mouth w ∷ R) f =
      cond_le (t w) (heavier w v) (f w mouth_here) (rank_over v R (λ u m. f u (mouth_there m)))

  -- and v stands in the run once
  rank_once : {next : ℕ → Next} {v : ℕ} {R : Run} → Ordered next R → MouthOf R v
      → ((u : ℕ) → MouthOf R u → t u ≡ true → u ≢ v → heavier u v ≡ true) → chosen t R ≤ suc (rank heavier R v)
  unfolding chosen rank
  rank_once {R = []} o m f = elim m [ ]
  rank_once {v = v} {R = mouth w ∷ R} (ordered_cons n g o) mouth_here f =
      once (t v) (heavier v v)
      (rank_over v R (λ u m h. f u (mouth_there m) h (λ e. n u u (is_under (rw e here)) (mouth_in m here) here)))
  rank_once {v = v} {R = stem s ∷ R} (ordered_cons n g o) (mouth_there m) f = rank_once o m (λ u k. f u (mouth_there k))
  rank_once {v = v} {R = mouth w ∷ R} (ordered_cons n g o) (mouth_there m) f =
      cond_le_suc (t w) (heavier w v)
      (λ h. f w mouth_here h (λ e. n v v (is_under (rw e here)) (mouth_in m here) here))
      (rank_once o m (λ u k. f u (mouth_there k)))

module _ (N : Network) where
  low_rank : (R : Run) (v : ℕ) → taken N R v ≡ true → rank (heavier N) R v < N.split
  unfolding taken
  low_rank R v h = go (N.counted v) h
    where
      go : (b : Bool) → cond b (ltb (rank (heavier N) R v) N.split) false ≡ true → rank (heavier N) R v < N.split
      go true h = ltb-true (rank (heavier N) R v) N.split h
      go false h = absurd (true≢false (sym h))

  -- no more mouths are taken than may be
  pub taken_few : {next : ℕ → Next} (R : Run) → Ordered next R → cuts (parts N R) ≤ N.split
  unfolding parts
  taken_few R o =
      rw (cuts_cut (taken N R) R) (go (find_least (heavier_trans N.area) (heavier_total N.area) (taken N R) R))
    where
      go : Least (heavier N) (taken N R) R → chosen (taken N R) R ≤ N.split
      go (no_least e) = omega arith
      go (least v m h f) = omega (arith, low_rank R v h, rank_once (heavier N) (taken N R) o m f)

-- a run that is not finished has a taken mouth, if any may be taken at all
finished_chosen : (N : Network) (R : Run) → chosen N.counted R ≡ 0 → finished N R ≡ true
unfolding finished chosen
finished_chosen N [] e = refl
finished_chosen N (stem s ∷ R) e = finished_chosen N R e
finished_chosen N (mouth v ∷ R) e = go (N.counted v) (finished_chosen N R) e
  where
    go : (b : Bool) → (chosen N.counted R ≡ 0 → finished N R ≡ true)
        → cond b (suc (chosen N.counted R)) (chosen N.counted R) ≡ 0 → cond b false (finished N R) ≡ true
    go true f e = absurd (omega arith)
    go false f e = f e

rank_zero : (heavier : ℕ → ℕ → Bool) (v : ℕ) (R : Run) → ((u : ℕ) → MouthOf R u → heavier u v ≡ false)
    → rank heavier R v ≡ 0
unfolding rank
rank_zero heavier v [] f = refl
rank_zero heavier v (stem s ∷ R) f = rank_zero heavier v R (λ u m. f u (mouth_there m))
rank_zero heavier v (mouth w ∷ R) f = rw (f w mouth_here) (rank_zero heavier v R (λ u m. f u (mouth_there m)))

module _ (N : Network) (upwards : (u v : ℕ) → heavier N u v ≡ true → N.counted v ≡ true → N.counted u ≡ true) where
  pub some_taken : (R : Run) → finished N R ≡ false → 0 < N.split → (v : ℕ) × MouthOf R v × (taken N R v ≡ true)
  unfolding taken
  some_taken R e z =
      go (find_least {heavier = λ u v. heavier N v u} (λ u v w h k. heavier_trans N.area w v u k h)
      (λ u v d h. heavier_total N.area v u (λ s. d (sym s)) h) N.counted R)
    where
      go : Least (λ u v. heavier N v u) N.counted R
          → (v : ℕ) × MouthOf R v × (cond (N.counted v) (ltb (rank (heavier N) R v) N.split) false ≡ true)
      go (no_least n) = absurd (true≢false (sym (finished_chosen N R n) ∙ e))
      go (least v m h f) =
          let none_above : (u : ℕ) → MouthOf R u → heavier N u v ≡ false = λ u n. not-true (heavier N u v)
          (λ k. clash u n k (same_or_not u v)) in
          let r = rank_zero (heavier N) v R none_above in
          (v, m, rw h (lt-ltb (rank (heavier N) R v) N.split (omega arith)))
        where
          clash : (u : ℕ) → MouthOf R u → heavier N u v ≡ true → (u ≡ v) ⊎ (u ≢ v) → ⊥
          clash u n k (inl s) = true≢false (sym (rw s at k) ∙ heavier_irrefl N.area v)
          clash u n k (inr s) =
              true≢false
              (sym (heavier_trans N.area v u v (f u n (upwards u v k h) s) k) ∙ heavier_irrefl N.area v)

module _ (heavier : ℕ → ℕ → Bool) (t : ℕ → Bool) where
  -- if all mouths heavier than v are chosen, the rank of v is at most their number
  chosen_over : (v : ℕ) (R : Run) → ((u : ℕ) → MouthOf R u → heavier u v ≡ true → t u ≡ true)
      → rank heavier R v ≤ chosen t R
  unfolding chosen rank
  chosen_over v [] f = omega arith
  chosen_over v (stem s ∷ R) f = chosen_over v R (λ u m. f u (mouth_there m))
  chosen_over v (mouth w ∷ R) f =
      cond_le (heavier w v) (t w) (f w mouth_here) (chosen_over v R (λ u m. f u (mouth_there m)))

  -- and v itself is one more
  chosen_more : (unlike : (u : ℕ) → heavier u u ≡ false) (v : ℕ) (R : Run) → MouthOf R v → t v ≡ true
      → ((u : ℕ) → MouthOf R u → heavier u v ≡ true → t u ≡ true) → rank heavier R v < chosen t R
  unfolding chosen rank
  chosen_more unlike v [] m h f = elim m [ ]
  chosen_more unlike v (stem s ∷ R) (mouth_there m) h f = chosen_more unlike v R m h (λ u n. f u (mouth_there n))
  chosen_more unlike v (mouth w ∷ R) mouth_here h f =
      let l = chosen_over v R (λ u n. f u (mouth_there n)) in rw (h, unlike w) (omega arith)
  chosen_more unlike v (mouth w ∷ R) (mouth_there m) h f =
      go (heavier w v) (t w) (f w mouth_here) (chosen_more unlike v R m h (λ u n. f u (mouth_there n)))
    where
      go : (a b : Bool) {x y : ℕ} → (a ≡ true → b ≡ true) → x < y → cond a (suc x) x < cond b (suc y) y
      go true true g l = omega arith
      go true false g l = absurd (true≢false (sym (g refl)))
      go false true g l = omega arith
      go false false g l = l

  module _ (unlike : (u : ℕ) → heavier u u ≡ false)
      (total : (u v : ℕ) → u ≢ v → heavier u v ≡ false → heavier v u ≡ true)
      (R : Run) (most : ℕ)
      (up : (u v : ℕ) → MouthOf R v → t v ≡ true → MouthOf R u → heavier u v ≡ true → t u ≡ true)
      (room : chosen t R ≤ most) where
    pub top_in : (v : ℕ) → MouthOf R v → t v ≡ true → rank heavier R v < most
    top_in v m h = let l = chosen_more unlike v R m h (λ u n k. up u v m h n k) in omega arith

    -- a mouth that is not chosen is lighter than all that are
    pub top_out : (v : ℕ) → MouthOf R v → t v ≡ false → chosen t R ≡ most → most ≤ rank heavier R v
    top_out v m h full =
        let l = rank_over heavier t v R (λ u n k. over u n k (heavier u v) refl) in omega arith
      where
        over : (u : ℕ) → MouthOf R u → t u ≡ true → (b : Bool) → heavier u v ≡ b → heavier u v ≡ true
        over u n k true e = e
        over u n k false e =
            let d : u ≢ v = λ s. true≢false (sym k ∙ rw s h) in
            absurd (true≢false (sym (up v u n k m (total u v d e)) ∙ h))

pub label_at_most : (N : Network) (d : ℕ) (R : Run) (c : ℕ) → length (label N d R c) ≤ d
unfolding label
label_at_most N zero R c = omega arith
label_at_most N (suc d) R c = go (finished N R) (label_at_most N d (place_of N R c).unit c)
  where
    go : (b : Bool) → length (label N d (place_of N R c).unit c) ≤ d
        → length (cond b [] ((place_of N R c).digit ∷ label N d (place_of N R c).unit c)) ≤ suc d
    go true l = omega arith
    go false l = omega arith

spot_below : {N : Network} {k c : ℕ} {P : Parts} {h : Place} → Spot N k P c h → h.digit ≤ suc (k + (cuts P + cuts P))
spot_below (spot_last i) = omega arith
spot_below (spot_in i) = omega arith
spot_below (spot_mouth i) = omega arith
spot_below (spot_later i) = let l = spot_below i in omega arith

module _ {N : Network} {heavier : ℕ → ℕ → Bool} (O : Lawful N heavier) where
  pub label_range : (d : ℕ) (R : Run) (c : ℕ) → Headed N.next heavier R → In N.next R c
      → Digits (suc (N.split + N.split)) (label N d R c)
  unfolding label
  label_range zero R c w i = digits_none
  label_range (suc d) R c w i =
      go (finished N R) (label_range d (place_of N R c).unit c (place_headed O R c w i) (place_holds O R c i))
    where
      go : (b : Bool) → Digits (suc (N.split + N.split)) (label N d (place_of N R c).unit c)
          → Digits (suc (N.split + N.split)) (cond b [] ((place_of N R c).digit ∷ label N d (place_of N R c).unit c))
      go true r = digits_none
      go false r =
          let s = place_spot O R c i in
          let low = spot_above O s in
          let high = spot_below s in
          digits_cons {a = (place_of N R c).digit} (omega arith) (omega (arith, taken_few N R (headed_ordered O w))) r
