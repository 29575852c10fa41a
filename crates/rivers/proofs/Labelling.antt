-- A unit is labelled by labelling its parts one after another.
use mathlib.Core.Path.{◌≡◌, refl, ◌∙◌}
use mathlib.Core.Bool.{Bool, true, false, cond}
use mathlib.Core.List.{List, [], ◌∷◌, ◌++◌, append_assoc, append-nil}
use mathlib.Core.Logic.{◌⊎◌, inl, inr}
use Prim.Native.Nat.{ℕ, zero, suc, ◌-◌}
use native.Mathlib.Omega.{arith}
use lib.ListN.{length}
use Rattle.sheet.specs.Water.{here}
use Rattle.sheet.specs.River.{Network, Run, river, mouth}
use Rattle.sheet.specs.Unit.{Parts, last, part, parts, taken, finished}
use Rattle.sheet.specs.declared.Label.{Label}
use Rattle.sheet.specs.Record.{record_of}
use Rattle.sheet.specs.Label.{holds, label, place_in, place_of}
use Rattle.claims.specs.Lawful.{Lawful}
use Rattle.claims.proofs.Runs.{In, at_head, in_tail, is_under, in_left, in_right, in_append, in_cons, has_under}
use Rattle.claims.proofs.Order.{Ordered, not_back, ordered_right}
use Rattle.claims.proofs.Lawful.{Test, yes as met, no as unmet, in_test}
use Rattle.claims.proofs.Rivers.{river_passes, river_covers}
use Rattle.claims.proofs.Parts.{join, join_cut, place_run, place_tributary, place_later}
use Rattle.rivers.specs.Layout.{Layout}
use Rattle.rivers.specs.UnitAt.{UnitAt}
use Rattle.rivers.specs.Labelled.{cells_labelled, unit_labelled, stands}
use Rattle.rivers.specs.Prefix.{Prefix}
use Rattle.rivers.proofs.Positions.{unit_stands}
use Rattle.rivers.proofs.Relabelled.{labelled_length, labelled_same, labelled_thrice}

-- the cells of parts whose digits begin after k have their labels: the digits gathered, one more, and at most `digits`
-- after it
unfoldable pub parts_labelled : Network → ℕ → List ℕ → ℕ → Parts → List ℕ → List ℕ
parts_labelled N digits gathered k P l =
    cells_labelled (holds N (join P))
    (λ c. record_of (gathered ++ ((place_in N k P c).digit ∷ label N digits (place_in N k P c).unit c))) l

pub unit_length : (N : Network) (R : Run) (digits : ℕ) (gathered l : List ℕ)
    → length (unit_labelled N R digits gathered l) ≡ length l
unfolding unit_labelled
unit_length N R digits gathered l = labelled_length _ _ l

module _ (N : Network) (R : Run) (digits : ℕ) (gathered l : List ℕ) where
  -- no digit more
  unit_zero : digits ≡ 0 → cells_labelled (holds N R) (λ c. record_of gathered) l ≡ unit_labelled N R digits gathered l
  unfolding unit_labelled label
  unit_zero e = labelled_same _ _ _ _ l (λ c. refl) (λ c h. rw (e, append-nil))

  unit_finished : finished N R ≡ true
      → cells_labelled (holds N R) (λ c. record_of gathered) l ≡ unit_labelled N R digits gathered l
  unfolding unit_labelled label
  unit_finished e = labelled_same _ _ _ _ l (λ c. refl) (λ c h. go digits c)
    where
      go : (d c : ℕ) → record_of gathered ≡ record_of (gathered ++ label N d R c)
      go zero c = rw append-nil
      go (suc d) c = rw (e, append-nil)

-- a unit that is not finished
pub unit_parts : (N : Network) (R : Run) (digits : ℕ) (gathered l : List ℕ) → (digits ≡ 0 → ⊥) → finished N R ≡ false
    → parts_labelled N (digits - 1) gathered 0 (parts N R) l ≡ unit_labelled N R digits gathered l
unfolding unit_labelled parts_labelled label place_of parts
unit_parts N R zero gathered l d e = absurd (d refl)
unit_parts N R (suc digits) gathered l d e =
    let q : suc digits - 1 ≡ digits = omega arith in
    rw q (labelled_same _ _ _ _ l (λ c. rw (join_cut (taken N R) R)) (λ c h. rw e))

pub parts_last : (N : Network) (digits : ℕ) (gathered : List ℕ) (k : ℕ) (R : Run) (l : List ℕ)
    → parts_labelled N digits gathered k (last R) l ≡ unit_labelled N R digits (gathered ++ (suc k ∷ [])) l
unfolding parts_labelled unit_labelled place_in
parts_last N digits gathered k R l = labelled_same _ _ _ _ l (λ c. refl) (λ c h. rw append_assoc)

-- of three kinds that exclude each other
module _ {A B D E : Type 0} (not-ab : A → B → ⊥) (not-ad : A → D → ⊥) (not-bd : B → D → ⊥)
    (ae : A → E) (be : B → E) (de : D → E) (one : E → A ⊎ (B ⊎ D)) where
  choose : {a b d e : Bool} → Test a A → Test b B → Test d D → Test e E → {p q r s : Label} → (A → p ≡ s) → (B → q ≡ s)
      → (D → r ≡ s)
      → (x : Label) → cond d r (cond b q (cond a p x)) ≡ cond e s x
  choose (met i h) (met j k) t u f g m x = absurd (not-ab h k)
  choose (met i h) (unmet j k) (met y w) u f g m x = absurd (not-ad h w)
  choose (met i h) (unmet j k) (unmet y w) (met z n) f g m x = rw (i, j, y, z) (f h)
  choose (met i h) (unmet j k) (unmet y w) (unmet z n) f g m x = absurd (n (ae h))
  choose (unmet i h) (met j k) (met y w) u f g m x = absurd (not-bd k w)
  choose (unmet i h) (met j k) (unmet y w) (met z n) f g m x = rw (i, j, y, z) (g k)
  choose (unmet i h) (met j k) (unmet y w) (unmet z n) f g m x = absurd (n (be k))
  choose (unmet i h) (unmet j k) (met y w) (met z n) f g m x = rw (i, j, y, z) (m w)
  choose (unmet i h) (unmet j k) (met y w) (unmet z n) f g m x = absurd (n (de w))
  choose (unmet i h) (unmet j k) (unmet y w) (met z n) f g m x =
      absurd (elim (one n) [ inl o ↦ h o | inr o ↦ elim o [ inl q ↦ k q | inr q ↦ w q ] ])
  choose (unmet i h) (unmet j k) (unmet y w) (unmet z n) f g m x = rw (i, j, y, z)

module _ {N : Network} {heavier : ℕ → ℕ → Bool} (O : Lawful N heavier) where
  -- the run before the first taken mouth, that mouth's tributary, and the later parts
  pub parts_part : (digits : ℕ) (gathered : List ℕ) (k : ℕ) (A : Run) (v : ℕ) (P : Parts) (l : List ℕ)
      → Ordered N.next (A ++ (mouth v ∷ join P))
      → parts_labelled N digits gathered (suc (suc k)) P
      (unit_labelled N (river N v) digits (gathered ++ (suc (suc k) ∷ []))
      (unit_labelled N A digits (gathered ++ (suc k ∷ [])) l))
      ≡ parts_labelled N digits gathered k (part A v P) l
  unfolding parts_labelled unit_labelled
  parts_part digits gathered k A v P l o =
      labelled_thrice _ _ _ _ _ _ _ _
      (λ c.
      choose (λ i j. not_back A B o i (under c j) here)
      (λ i j. not_back A B o i (in_tail j) here)
      (λ i j. not_back (mouth v ∷ []) (join P) (ordered_right A B o) (at_head (is_under (river_passes O v c i))) j here)
      (λ i. in_left B i)
      (λ i. in_right A (under c i))
      (λ i. in_right A (in_tail i))
      (one c)
      (in_test O A c)
      (in_test O (river N v) c)
      (in_test O (join P) c)
      (in_test O (A ++ B) c)
      (λ i. rw (place_run O k A v P c i, append_assoc))
      (λ i. rw (place_tributary O k A v P c o (river_passes O v c i), append_assoc))
      (λ i. rw (place_later O k A v P c o i)))
      l
    where
      B : Run
      B = mouth v ∷ join P

      under : (c : ℕ) → In N.next (river N v) c → In N.next (mouth v ∷ join P) c
      under c i = at_head (is_under (river_passes O v c i))

      one : (c : ℕ) → In N.next (A ++ (mouth v ∷ join P)) c
          → In N.next A c ⊎ (In N.next (river N v) c ⊎ In N.next (join P) c)
      one c i = elim (in_append A (mouth v ∷ join P) i) [
        | inl j ↦ inl j
        | inr j ↦ elim (in_cons j) [ inl h ↦ inr (inl (river_covers O v c (has_under h))) | inr h ↦ inr (inr h) ]
      ]

-- the positions of a unit, filled with its prefix, where it gets no digit more
module _ {cell size area : List ℕ} {count split least end lo hi : ℕ} (Y : Layout cell size count)
    (u : UnitAt cell size area split least end lo hi)
    {prefix : Label} {digits : ℕ} (p : Prefix prefix digits) (l : List ℕ) {m : List ℕ}
    (filled : m ≡ cells_labelled (stands cell lo (hi - lo)) (λ c. prefix) l) where
  held : m ≡ cells_labelled (holds u.of.network u.run) (λ c. record_of p.gathered) l
  held = filled ∙ labelled_same _ _ _ _ l (unit_stands Y u) (λ c h. p.held)

  pub filled_zero : digits ≡ 0 → m ≡ unit_labelled u.of.network u.run digits p.gathered l
  filled_zero e = held ∙ unit_zero u.of.network u.run digits p.gathered l e

  pub filled_finished : finished u.of.network u.run ≡ true
      → m ≡ unit_labelled u.of.network u.run digits p.gathered l
  filled_finished e = held ∙ unit_finished u.of.network u.run digits p.gathered l e
