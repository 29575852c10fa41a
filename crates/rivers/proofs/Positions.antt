-- A run at positions of a layout: how it goes on from a position, where its mouths stand, and that the cells at its
-- positions are those that it holds.
use mathlib.Core.Path.{◌≡◌, refl, sym, ◌∙◌}
use mathlib.Core.Bool.{Bool, true, false, cond}
use mathlib.Core.List.{List, [], ◌∷◌, ◌++◌}
use mathlib.Core.Logic.{◌≢◌}
use Prim.Native.Nat.{ℕ, zero, suc, ◌+◌, ◌-◌, ◌≤◌, ◌<◌}
use native.Mathlib.Omega.{arith}
use native.Mathlib.Decide.{dec_lt, ℕ_discrete}
use native.Mathlib.Nat.{zero-add, suc-add, add-zero, add-suc}
use lib.Dec.{eqb}
use lib.ListN.{length, get_or}
use borrow.Author.Tests.{eqb-true, eq-eqb}
use Rattle.sheet.specs.Label.{holds}
use Rattle.sheet.specs.River.{Network, Run, stem, mouth}
use Rattle.claims.specs.Runs.{MouthOf, mouth_here, mouth_there}
use Rattle.claims.proofs.Runs.{In, at_head, in_tail, is_stem, is_under, has_stem, has_under}
use Rattle.claims.proofs.Lawful.{Test, yes as met, no as unmet, decided, in_test}
use Rattle.rivers.specs.Layout.{Laid, laid_end, laid_stem, laid_mouth, Layout, LayoutOf}
use Rattle.rivers.specs.Labelled.{stands}
use Rattle.rivers.specs.UnitAt.{UnitAt}

module _ {cell size : List ℕ} {end : ℕ} where
  pub laid_le : {lo hi : ℕ} {R : Run} → Laid cell size end lo hi R → lo ≤ hi
  laid_le laid_end = omega arith
  laid_le (laid_stem e l) = let i = laid_le l in omega arith
  laid_le (laid_mouth n l) = let i = laid_le l in omega arith

  pub laid_append : {lo mid hi : ℕ} {A B : Run} → Laid cell size end lo mid A → Laid cell size end mid hi B
      → Laid cell size end lo hi (A ++ B)
  laid_append laid_end k = k
  laid_append (laid_stem e l) k = laid_stem e (laid_append l k)
  laid_append (laid_mouth n l) k = laid_mouth n (laid_append l k)

-- the entry at position j, and what follows it
pub record Goes (cell size : List ℕ) (end hi next : ℕ) (e : Run → Run) (R : Run) : Type 0 where
  pub rest : Run
  pub is : R ≡ e rest
  pub laid : Laid cell size end next hi rest

module _ {cell size : List ℕ} {end : ℕ} where
  pub goes_stem : {j hi : ℕ} {R : Run} → j < hi → j + get_or size j 0 ≡ end → Laid cell size end j hi R
      → Goes cell size end hi (j + 1) (λ B. stem (get_or cell j 0) ∷ B) R
  goes_stem h q laid_end = absurd (omega arith)
  goes_stem h q (laid_stem {R = B} e l) = record { rest = B; is = refl; laid = l }
  goes_stem h q (laid_mouth n l) = absurd (n q)

  pub goes_mouth : {j hi : ℕ} {R : Run} → j < hi → (j + get_or size j 0 ≡ end → ⊥) → Laid cell size end j hi R
      → Goes cell size end hi (j + get_or size j 0) (λ B. mouth (get_or cell j 0) ∷ B) R
  goes_mouth h q laid_end = absurd (omega arith)
  goes_mouth h q (laid_stem e l) = absurd (q e)
  goes_mouth h q (laid_mouth {R = B} n l) = record { rest = B; is = refl; laid = l }

-- c is the cell at a position from lo to hi
pub record Stands (cell : List ℕ) (lo hi c : ℕ) : Type 0 where
  pub at : ℕ
  pub from : lo ≤ at
  pub to : at < hi
  pub is : get_or cell at 0 ≡ c

stands_later : {cell : List ℕ} {lo mid hi c : ℕ} → lo ≤ mid → Stands cell mid hi c → Stands cell lo hi c
stands_later h s = record { at = s.at; from = omega (arith, s.from); to = s.to; is = s.is }

stands_past : {cell : List ℕ} {lo hi c : ℕ} (mid : ℕ) (s : Stands cell lo hi c) → mid ≤ s.at → Stands cell mid hi c
stands_past mid s h = record { at = s.at; from = h; to = s.to; is = s.is }

module _ {cell size : List ℕ} {count end hi : ℕ} (Y : Layout cell size count) (most : hi ≤ end)
    (within : end ≤ length cell) where
  -- a mouth is not past the end
  mouth_on : {lo : ℕ} {R : Run} → lo + get_or size lo 0 ≢ end → Laid cell size end (lo + get_or size lo 0) hi R → lo < hi
  mouth_on {lo} n l = go (dec_lt lo hi)
    where
      go : Dec (lo < hi) → lo < hi
      go (yes h) = h
      go (no h) =
          let i = laid_le l in
          let d : lo < length cell = omega arith in
          absurd (omega (arith, Y.some lo d))

  pub goes_end : {j : ℕ} {R : Run} → hi ≤ j → Laid cell size end j hi R → R ≡ []
  goes_end h laid_end = refl
  goes_end h (laid_stem e l) = let i = laid_le l in absurd (omega arith)
  goes_end h (laid_mouth n l) = absurd (omega (arith, mouth_on n l))

  pub mouth_stands : {lo : ℕ} {R : Run} {v : ℕ} → Laid cell size end lo hi R → MouthOf R v → Stands cell lo hi v
  mouth_stands laid_end m = elim m [ ]
  mouth_stands (laid_stem e l) (mouth_there m) = stands_later (omega arith) (mouth_stands l m)
  mouth_stands
      (laid_mouth {lo = lo} n l) mouth_here = record { at = lo; from = omega arith; to = mouth_on n l; is = refl }
  mouth_stands (laid_mouth n l) (mouth_there m) = stands_later (omega arith) (mouth_stands l m)

  module _ {N : Network} {area : List ℕ} {split least : ℕ} (L : LayoutOf N cell size area split least) where
    pub in_stands : {lo : ℕ} {R : Run} {c : ℕ} → Laid cell size end lo hi R → In N.next R c → Stands cell lo hi c
    in_stands laid_end i = elim i [ ]
    in_stands (laid_stem {lo = lo} e l)
        (at_head h) =
        let i = laid_le l in record { at = lo; from = omega arith; to = omega arith; is = sym (has_stem h) }
    in_stands (laid_stem e l) (in_tail i) = stands_later (omega arith) (in_stands l i)
    in_stands {c = c} (laid_mouth {lo = lo} n l) (at_head h) =
        let on = mouth_on n l in
        let i = laid_le l in
        let k = L.covering c lo (omega arith) (has_under h) in
        record { at = k.0; from = k.1; to = omega (arith, k.2); is = k.3 }
    in_stands (laid_mouth n l) (in_tail i) = stands_later (omega arith) (in_stands l i)

    stands_in : {lo : ℕ} {R : Run} {c : ℕ} → Laid cell size end lo hi R → Stands cell lo hi c → In N.next R c
    stands_in laid_end s = absurd (omega (arith, s.from, s.to))
    stands_in {c = c} (laid_stem {lo = lo} {R = R} e l) s = go (ℕ_discrete s.at lo)
        (λ h. stands_in l (stands_past (lo + 1) s h))
      where
        go : Dec (s.at ≡ lo) → (lo + 1 ≤ s.at → In N.next R c) → In N.next (stem (get_or cell lo 0) ∷ R) c
        go (yes q) f = rw (← s.is, q) (at_head is_stem)
        go (no q) f = in_tail (f (omega (arith, s.from)))
    stands_in {c = c} (laid_mouth {lo = lo} {R = R} n l) s =
        go (mouth_on n l) (dec_lt s.at (lo + get_or size lo 0))
        (λ h. stands_in l (stands_past (lo + get_or size lo 0) s h))
      where
        go : lo < hi → Dec (s.at < lo + get_or size lo 0) → (lo + get_or size lo 0 ≤ s.at → In N.next R c)
            → In N.next (mouth (get_or cell lo 0) ∷ R) c
        go h (yes q) f = rw (← s.is) (at_head (is_under (L.passing s.at lo s.from q (omega arith))))
        go h (no q) f = in_tail (f (omega arith))

pub stands_test : (cell : List ℕ) (n lo c : ℕ) → Test (stands cell lo n c) (Stands cell lo (lo + n) c)
unfolding stands
stands_test cell zero lo c = unmet refl (λ s. omega (arith, s.from, s.to))
stands_test cell (suc n) lo c =
    go (decided (eqb (get_or cell lo 0) c) (eqb-true (get_or cell lo 0) c) (eq-eqb (get_or cell lo 0) c))
    (stands_test cell n (suc lo) c)
  where
    go : {a b : Bool} → Test a (get_or cell lo 0 ≡ c) → Test b (Stands cell (suc lo) (suc lo + n) c)
        → Test (cond a true b) (Stands cell lo (lo + suc n) c)
    go (met x h) k = rw x (met refl (record { at = lo; from = omega arith; to = omega arith; is = h }))
    go (unmet x h) (met y s) =
        rw (x, y)
        (met refl (record { at = s.at; from = omega (arith, s.from); to = omega (arith, s.to); is = s.is }))
    go (unmet x h) (unmet y k) = rw (x, y) (unmet refl (λ s. past s (ℕ_discrete s.at lo)))
      where
        past : (s : Stands cell lo (lo + suc n) c) → Dec (s.at ≡ lo) → ⊥
        past s (yes q) = h (rw q at s.is)
        past s (no q) = k (record { at = s.at; from = omega (arith, s.from); to = omega (arith, s.to); is = s.is })

-- positions cut in two
pub stands_add : (cell : List ℕ) (m n lo c : ℕ)
    → stands cell lo (m + n) c ≡ cond (stands cell lo m c) true (stands cell (lo + m) n c)
unfolding stands
stands_add cell zero n lo c = rw (zero-add n, add-zero lo)
stands_add cell (suc m) n lo c =
    rw (suc-add m n, stands_add cell m n (suc lo) c, suc-add lo m, add-suc lo m) (go (eqb (get_or cell lo 0) c) _ _)
  where
    go : (a b d : Bool) → cond a true (cond b true d) ≡ cond (cond a true b) true d
    go true b d = refl
    go false b d = refl

pub same_test : {a b : Bool} {A B : Type 0} → Test a A → Test b B → (A → B) → (B → A) → a ≡ b
same_test (met x p) (met y q) f g = x ∙ sym y
same_test (met x p) (unmet y q) f g = absurd (q (f p))
same_test (unmet x p) (met y q) f g = absurd (p (g q))
same_test (unmet x p) (unmet y q) f g = x ∙ sym y

module _ {cell size area : List ℕ} {count split least end lo hi : ℕ} (Y : Layout cell size count)
    (u : UnitAt cell size area split least end lo hi) where
  -- the cells at the positions of a unit are those that it holds
  pub unit_stands : (c : ℕ) → stands cell lo (hi - lo) c ≡ holds u.of.network u.run c
  unit_stands c =
      let b = u.before_end in
      let w = u.end_within in
      let e : lo + (hi - lo) ≡ hi = omega (arith, laid_le u.laid) in
      same_test (stands_test cell (hi - lo) lo c) (in_test u.of.lawful u.run c)
      (λ s. stands_in Y b w u.of.laid_out u.laid (rw e at s))
      (λ i. rw e (in_stands Y b w u.of.laid_out u.laid i))
