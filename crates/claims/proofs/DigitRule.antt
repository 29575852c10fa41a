-- The digit rule for two cells of one river: for the cell itself and for the outlet of its unit.
-- the first stem cell of a run
use mathlib.Core.Path.{◌≡◌, refl, sym}
use mathlib.Core.Bool.{Bool, true, false, cond, true≢false}
use mathlib.Core.List.{List, [], ◌∷◌, ◌++◌}
use mathlib.Core.Logic.{◌⊎◌, inl, inr, ◌↔◌}
use Prim.Native.Nat.{ℕ, zero, suc, ◌<◌}
use native.Mathlib.Omega.{arith}
use lib.ListN.{length}
use Rattle.sheet.specs.Water.{Passes}
use Rattle.sheet.specs.Flow.{every, is_odd}
use Rattle.sheet.specs.Unit.{finished, taken, Parts}
use Rattle.sheet.specs.Label.{place_of, label, Place}
use Rattle.sheet.specs.River.{Run, river, Network, stem, mouth}
use Rattle.claims.specs.Runs.{MouthOf, mouth_here, mouth_there, Headed, headed_none, headed_stem}
use Rattle.claims.specs.Lawful.{Lawful}
use Rattle.claims.proofs.Runs.{pass_trans, stem_in, mouth_in, in_none, In, StemOf, is_stem, is_under, at_head}
use Rattle.claims.proofs.Runs.{in_tail, stem_here, stem_there}
use Rattle.claims.proofs.Rivers.{river_headed, river_passes, river_covers}
use Rattle.claims.proofs.Parts.{join, join_cut, odd_one, odd_two, place_spot, place_headed, place_holds}
use Rattle.claims.proofs.Parts.{place_pair, Spot, Pair, spot_last, spot_in, spot_mouth, spot_later, pair_same}
use Rattle.claims.proofs.Parts.{pair_odd, pair_even, pair_more}
use Rattle.claims.proofs.Parting.{all_odd, judged, Parted, Rule, Verdict, alike, less, more, on}
use Rattle.sheet.specs.Answer.{Next}

unfoldable pub first_stem : Run → ℕ → ℕ
first_stem [] c = c
first_stem (stem s ∷ R) c = s
first_stem (mouth v ∷ R) c = first_stem R c

-- the outlet of the unit that the label of c names
unfoldable pub unit_outlet : Network → ℕ → Run → ℕ → ℕ
unfolding place_of first_stem finished
unit_outlet N zero R c = first_stem R c
unit_outlet N (suc d) R c =
    let h : Place = place_of N R c in
    let r : ℕ = unit_outlet N d h.unit c in
    cond (finished N R) (first_stem R c) r

-- where a cell stands in a unit, by its digits: on the stem where they are all odd, in a tributary where not
pub data Lies (next : ℕ → Next) (R : Run) (t : ℕ) : Bool → Type 0 where
  on_stem : StemOf R t → Lies next R t true
  in_mouth : {v : ℕ} → MouthOf R v → Passes next t v → Lies next R t false

stem_left : {A : Run} {s : ℕ} (B : Run) → StemOf A s → StemOf (A ++ B) s
stem_left B stem_here = stem_here
stem_left B (stem_there h) = stem_there (stem_left B h)

stem_right : {B : Run} {s : ℕ} (A : Run) → StemOf B s → StemOf (A ++ B) s
stem_right [] h = h
stem_right (e ∷ A) h = stem_there (stem_right A h)

mouth_left : {A : Run} {s : ℕ} (B : Run) → MouthOf A s → MouthOf (A ++ B) s
mouth_left B mouth_here = mouth_here
mouth_left B (mouth_there h) = mouth_there (mouth_left B h)

mouth_right : {B : Run} {s : ℕ} (A : Run) → MouthOf B s → MouthOf (A ++ B) s
mouth_right [] h = h
mouth_right (e ∷ A) h = mouth_there (mouth_right A h)

module _ {next : ℕ → Next} where
  lies_left : {A : Run} {t : ℕ} {b : Bool} (B : Run) → Lies next A t b → Lies next (A ++ B) t b
  lies_left B (on_stem h) = on_stem (stem_left B h)
  lies_left B (in_mouth h k) = in_mouth (mouth_left B h) k

  lies_right : {B : Run} {t : ℕ} {b : Bool} (A : Run) → Lies next B t b → Lies next (A ++ B) t b
  lies_right A (on_stem h) = on_stem (stem_right A h)
  lies_right A (in_mouth h k) = in_mouth (mouth_right A h) k

  pub lies_in : {R : Run} {t : ℕ} {b : Bool} → Lies next R t b → In next R t
  lies_in (on_stem h) = stem_in h
  lies_in (in_mouth h k) = mouth_in h k

  -- a cell of a run without mouths is on its stem
  pub no_mouth_stem : {R : Run} {c : ℕ} → ((v : ℕ) → MouthOf R v → ⊥) → In next R c → StemOf R c
  no_mouth_stem n (at_head is_stem) = stem_here
  no_mouth_stem n (at_head (is_under {v = v} h)) = absurd (n v mouth_here)
  no_mouth_stem n (in_tail i) = stem_there (no_mouth_stem (λ v m. n v (mouth_there m)) i)

module _ {N : Network} {heavier : ℕ → ℕ → Bool} (O : Lawful N heavier) where
  -- one more digit in front
  lies_up : {k c t : ℕ} {P : Parts} {h : Place} {b : Bool} → is_odd k ≡ false → Spot N k P c h
      → Lies N.next h.unit t b
      → Lies N.next (join P) t (cond (is_odd h.digit) b false)
  lies_up {k} e (spot_last i) w = rw (odd_one k e) w
  lies_up {k} e (spot_in {v = v} {P = P} i) w = rw (odd_one k e) (lies_left (mouth v ∷ join P) w)
  lies_up {k} {t = t} e (spot_mouth {v = v} {R = R} i) w = rw (odd_two k e)
      (lies_right R (in_mouth mouth_here (river_passes O v t (lies_in w))))
  lies_up {k} e (spot_later {v = v} {R = R} {P = P} i) w = lies_right R
      (lies_right (mouth v ∷ []) (lies_up (odd_two k e) i w))

  pub place_lies : (R : Run) (c t : ℕ) (b : Bool) → In N.next R c → Lies N.next (place_of N R c).unit t b
      → Lies N.next R t (cond (is_odd (place_of N R c).digit) b false)
  place_lies R c t b i w = rw (join_cut (taken N R) R) at (lies_up {k = 0} refl (place_spot O R c i) w)

  headed_first : {R : Run} {c : ℕ} → Headed N.next heavier R → In N.next R c → StemOf R (first_stem R c)
  unfolding first_stem
  headed_first headed_none i = absurd (in_none i)
  headed_first (headed_stem w) i = stem_here

  -- the outlet of the unit that the label names
  pub lies_outlet : (d : ℕ) (R : Run) (c : ℕ) → Headed N.next heavier R → In N.next R c
      → Lies N.next R (unit_outlet N d R c) (all_odd (label N d R c))
  unfolding unit_outlet label every
  lies_outlet zero R c w i = on_stem (headed_first w i)
  lies_outlet (suc d) R c w i =
      go (finished N R) refl (lies_outlet d (place_of N R c).unit c (place_headed O R c w i) (place_holds O R c i))
    where
      go : (b : Bool) → finished N R ≡ b
          → Lies N.next (place_of N R c).unit (unit_outlet N d (place_of N R c).unit c)
          (all_odd (label N d (place_of N R c).unit c))
          → Lies N.next R (cond b (first_stem R c) (unit_outlet N d (place_of N R c).unit c))
          (all_odd (cond b [] ((place_of N R c).digit ∷ label N d (place_of N R c).unit c)))
      go true e r = on_stem (headed_first w i)
      go false e r = place_lies R c _ _ i r

  module _ (ends : (R : Run) → Headed N.next heavier R → finished N R ≡ true → (v : ℕ) → MouthOf R v → ⊥) where
    -- the cell itself, if its label is shorter than the depth
    pub lies_cell : (d : ℕ) (R : Run) (c : ℕ) → Headed N.next heavier R → In N.next R c
        → length (label N d R c) < d
        → Lies N.next R c (all_odd (label N d R c))
    unfolding label every
    lies_cell zero R c w i l = absurd (omega arith)
    lies_cell (suc d) R c w i l =
        go (finished N R) refl
        (λ m. lies_cell d (place_of N R c).unit c (place_headed O R c w i) (place_holds O R c i) m) l
      where
        go : (b : Bool) → finished N R ≡ b
            → (length (label N d (place_of N R c).unit c) < d → Lies N.next (place_of N R c).unit c
            (all_odd (label N d (place_of N R c).unit c)))
            → length (cond b [] ((place_of N R c).digit ∷ label N d (place_of N R c).unit c)) < suc d
            → Lies N.next R c (all_odd (cond b [] ((place_of N R c).digit ∷ label N d (place_of N R c).unit c)))
        go true e r m = on_stem (no_mouth_stem (ends R w e) i)
        go false e r m = place_lies R c c _ i (r (omega arith))

odd_case : {next : ℕ → Next} {q t : ℕ} {R : Run} {b : Bool} (a : ℕ) (x : List ℕ) → is_odd a ≡ true
    → ((s : ℕ) → StemOf R s → Passes next q s) → ¬ In next R q
    → all_odd x ≡ b → Lies next R t b → Passes next q t ↔ (all_odd (a ∷ x) ≡ true)
unfolding every
odd_case {t = t} a x o f n e (on_stem h) = (λ w. rw (o, e), λ r. f t h)
odd_case a x o f n e (in_mouth m k) =
    (λ w. absurd (n (mouth_in m (pass_trans w k))), λ r. absurd (true≢false (sym (rw (o, e) at r))))

even_case : {W : Type 0} (a : ℕ) (x : List ℕ) → is_odd a ≡ false → ¬ W → W ↔ (all_odd (a ∷ x) ≡ true)
unfolding every
even_case a x o n = (λ w. absurd (n w), λ r. absurd (true≢false (sym (rw o at r))))

weaker : {G H W : Type 0} {x y : List ℕ} → (H → G) → Verdict G W x y → Verdict H W x y
weaker g alike = alike
weaker g (less l f) = less l (λ k. f (g k))
weaker g (more l n) = more l n
weaker g (on v) = on (weaker g v)

-- T d R is the target for p in the unit R with d digits left, and G d R what must be known of it
module _ {N : Network} {heavier : ℕ → ℕ → Bool} (O : Lawful N heavier) (p : ℕ) (T : ℕ → Run → ℕ) (G : ℕ → Run → Type 0)
    (held : (d : ℕ) (R : Run) → Headed N.next heavier R → In N.next R p → In N.next R (T d R))
    (place : (d : ℕ) (R : Run) → Headed N.next heavier R → In N.next R p → G d R → Lies N.next R (T d R)
    (all_odd (label N d R p)))
    (same : (d : ℕ) (R : Run) → finished N R ≡ false → T (suc d) R ≡ T d (place_of N R p).unit)
    (known : (d : ℕ) (R : Run) → finished N R ≡ false → G (suc d) R → G d (place_of N R p).unit) where
  meet : (d : ℕ) {q : ℕ} {h m : Place} → Pair N.next q h m → Headed N.next heavier h.unit
      → In N.next h.unit p → In N.next m.unit q
      → ((R : Run) → Headed N.next heavier R → In N.next R p → In N.next R q → Verdict (G d R)
      (Passes N.next q (T d R)) (label N d R p) (label N d R q))
      → Verdict (G d h.unit) (Passes N.next q (T d h.unit)) (h.digit ∷ label N d h.unit p)
      (m.digit ∷ label N d m.unit q)
  meet d {h = h} pair_same w i j f = on (f h.unit w i j)
  meet d {h = h} (pair_odd l o s n) w i j f = less l
      (λ g. odd_case h.digit (label N d h.unit p) o s n refl (place d h.unit w i g))
  meet d {h = h} (pair_even l o n) w i j f = less l
      (λ g. even_case h.digit (label N d h.unit p) o (n (T d h.unit) (held d h.unit w i)))
  meet d {h = h} (pair_more l n) w i j f = more l (n (T d h.unit) (held d h.unit w i))

  pub verdict : (d : ℕ) (R : Run) (q : ℕ) → Headed N.next heavier R → In N.next R p → In N.next R q
      → Verdict (G d R) (Passes N.next q (T d R)) (label N d R p) (label N d R q)
  unfolding label
  verdict zero R q w i j = alike
  verdict (suc d) R q w i j = go (finished N R) refl
      (meet d (place_pair O R p q w i j) (place_headed O R p w i) (place_holds O R p i) (place_holds O R q j)
      (λ S a b c. verdict d S q a b c))
    where
      go : (b : Bool) → finished N R ≡ b
          → Verdict (G d (place_of N R p).unit) (Passes N.next q (T d (place_of N R p).unit))
          ((place_of N R p).digit ∷ label N d (place_of N R p).unit p)
          ((place_of N R q).digit ∷ label N d (place_of N R q).unit q)
          → Verdict (G (suc d) R) (Passes N.next q (T (suc d) R))
          (cond b [] ((place_of N R p).digit ∷ label N d (place_of N R p).unit p))
          (cond b [] ((place_of N R q).digit ∷ label N d (place_of N R q).unit q))
      go true e v = alike
      go false e v = rw (same d R e) (weaker (known d R e) v)

module _ (N : Network) where
  pub label_on : (d : ℕ) (R : Run) (c : ℕ) → finished N R ≡ false
      → label N (suc d) R c ≡ (place_of N R c).digit ∷ label N d (place_of N R c).unit c
  unfolding label
  label_on d R c e = rw e

  pub outlet_on : (d : ℕ) (R : Run) (c : ℕ) → finished N R ≡ false
      → unit_outlet N (suc d) R c ≡ unit_outlet N d (place_of N R c).unit c
  unfolding unit_outlet
  outlet_on d R c e = rw e

module _ {N : Network} {heavier : ℕ → ℕ → Bool} (O : Lawful N heavier) (root : ℕ) (depth : ℕ) (p q : ℕ)
    (p-in : Passes N.next p root) (q-in : Passes N.next q root) where
  -- at any depth: does q pass the outlet of the unit that p's label names?
  pub outlet_rule : (label N depth (river N root) p ≡ label N depth (river N root) q)
      ⊎ (Parted (label N depth (river N root) p) (label N depth (river N root) q)
      × (Passes N.next q (unit_outlet N depth (river N root) p) ↔ Rule (label N depth (river N root) p)
      (label N depth (river N root) q)))
  outlet_rule = elim (judged (verdict O p (λ d R. unit_outlet N d R p) (λ d R. Unit {0})
      (λ d R w i. lies_in (lies_outlet O d R p w i)) (λ d R w i g. lies_outlet O d R p w i)
      (λ d R e. outlet_on N d R p e) (λ d R e g. tt)
      depth (river N root) q (river_headed O root) (river_covers O root p p-in) (river_covers O root q q-in)))
      [ inl e ↦ inl e | inr k ↦ inr (k.0, k.1 tt) ]

  -- does q pass p? The unit of p must be finished
  module _ (ends : (R : Run) → Headed N.next heavier R → finished N R ≡ true → (v : ℕ) → MouthOf R v → ⊥) where
    pub cell_rule : (label N depth (river N root) p ≡ label N depth (river N root) q)
        ⊎ (Parted (label N depth (river N root) p) (label N depth (river N root) q)
        × (length (label N depth (river N root) p) < depth
        → Passes N.next q p ↔ Rule (label N depth (river N root) p) (label N depth (river N root) q)))
    cell_rule = judged (verdict O p (λ d R. p) (λ d R. length (label N d R p) < d)
        (λ d R w i. i) (λ d R w i g. lies_cell O ends d R p w i g)
        (λ d R e. refl) (λ d R e g. let h = rw (label_on N d R p e) at g in omega arith)
        depth (river N root) q (river_headed O root) (river_covers O root p p-in) (river_covers O root q q-in))
