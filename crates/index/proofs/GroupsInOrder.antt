-- The groups of a list of cells along which units never fall: their units rise, each group has the first of its cells
-- and their count, and every cell is in a group.
use mathlib.Core.Path.{◌≡◌, refl, sym, ◌∙◌, ap}
use mathlib.Core.Bool.{Bool, true, false, cond, true≢false}
use mathlib.Core.List.Memᴰ
use mathlib.Core.List.{List, [], ◌∷◌, map, Memᴰ}
use mathlib.Core.Logic.{inl, inr, ◌≢◌}
use Prim.Native.Nat.{ℕ, zero, suc, ◌<◌}
use native.Mathlib.Omega.{arith}
use lib.ListN.{length, get_or}
use Rattle.sheet.specs.declared.UnitName.{UnitName}
use Rattle.sheet.specs.Record.{same_unit, basin_and_digits}
use Rattle.claims.specs.Dictionary.{is_before, NotAfter}
use Rattle.claims.proofs.Dictionary.{before_irreflexive, before_transitive}
use Rattle.index.specs.Units.{unit_of, UnitEntry, unit_entry}
use Rattle.index.specs.Groups.{with_cell, grouped}
use Rattle.index.proofs.UnitsRise.{UnitsRise, rise_none, rise_on, rise_before}
use Rattle.index.proofs.ListPlaces.{at_place}
use Rattle.index.proofs.UnitNames.{same_true, same_is, same_false, same_not}
use Rattle.index.proofs.Counting.{summed, summed_none}

-- units never fall along the list, and a unit is told from its basin and digits
pub data NeverFall (unit : ℕ → UnitName) : List ℕ → Type 0 where
  fall_none : NeverFall unit []
  fall_on : {c : ℕ} {cs : List ℕ} → unit_of (basin_and_digits (unit c)) ≡ unit c
      → ((d : ℕ) → Memᴰ d cs → NotAfter (basin_and_digits (unit c)) (basin_and_digits (unit d))) → NeverFall unit cs
      → NeverFall unit (c ∷ cs)

-- the basin and the digits of an entry's unit
abbrev pub entry_digits : UnitEntry → List ℕ
entry_digits e = basin_and_digits e.unit

-- an entry of the groups: its first cell's place, and its count
pub record GroupOf (unit : ℕ → UnitName) (cs : List ℕ) (e : UnitEntry) : Type 0 where
  pub place : ℕ
  pub below : place < length cs
  pub at : get_or cs place 0 ≡ e.outlet
  pub named : unit e.outlet ≡ e.unit
  pub first : (k : ℕ) → k < place → unit (get_or cs k 0) ≢ e.unit
  pub has_count : e.count ≡ summed (λ c. same_unit (unit c) e.unit) (λ c. 1) cs

pub record GroupsOf (unit : ℕ → UnitName) (cs : List ℕ) (es : List UnitEntry) : Type 0 where
  pub rise : UnitsRise (map entry_digits es)
  pub has : (c : ℕ) → Memᴰ c cs → (e : UnitEntry) × Memᴰ e es × (e.unit ≡ unit c)
  pub each : (e : UnitEntry) → Memᴰ e es → GroupOf unit cs e

module _ (unit : ℕ → UnitName) where
  -- a group that begins with the cell c
  begun : (c : ℕ) (cs : List ℕ) (m : UnitName) (n : ℕ) → unit c ≡ m
      → n ≡ summed (λ d. same_unit (unit d) m) (λ d. 1) cs
      → GroupOf unit (c ∷ cs) (unit_entry m c (suc n))
  unfolding summed
  begun c cs m n e h = record {
    place = 0;
    below = omega arith;
    at = refl;
    named = e;
    first = λ k l. absurd (omega arith);
    has_count = rw (same_is (unit c) m e) (omega (arith, h));
  }

  -- a group further on
  further : (c : ℕ) (cs : List ℕ) (e : UnitEntry) → unit c ≢ e.unit → GroupOf unit cs e → GroupOf unit (c ∷ cs) e
  unfolding summed
  further c cs e d g = record {
    place = suc g.place;
    below = omega (arith, g.below);
    at = g.at;
    named = g.named;
    first = λ k l. before k l;
    has_count = rw (same_not (unit c) e.unit d) g.has_count;
  }
    where
      before : (k : ℕ) → k < suc g.place → unit (get_or (c ∷ cs) k 0) ≢ e.unit
      before zero l = d
      before (suc k) l = g.first k (omega arith)

  module _ (c : ℕ) (cs : List ℕ) (told : (d : ℕ) → Memᴰ d (c ∷ cs) → unit_of (basin_and_digits (unit d)) ≡ unit d)
      (falls : (d : ℕ) → Memᴰ d cs → NotAfter (basin_and_digits (unit c)) (basin_and_digits (unit d))) where
    -- the unit of a group further on is none of those before it
    unlike : (m : UnitName) (e : UnitEntry) → is_before (basin_and_digits m) (entry_digits e) ≡ true → m ≢ e.unit
    unlike m e b q =
        true≢false (sym b ∙ rw (sym q) (before_irreflexive (basin_and_digits m)))

    alone : GroupsOf unit cs [] → GroupsOf unit (c ∷ cs) (unit_entry (unit c) c 1 ∷ [])
    alone r = record {
      rise = rise_on (λ y m. absurd (Memᴰ.not-nil m)) rise_none;
      has = λ d m. elim (Memᴰ.cases_cons m) [
        | inl q ↦ (unit_entry (unit c) c 1, Memᴰ.head refl, ap unit (sym q))
        | inr k ↦ absurd (Memᴰ.not-nil (r.has d k).1)
      ];
      each = λ e m. elim (Memᴰ.cases_cons m) [
        | inl q ↦ rw q (begun c cs (unit c) 0 refl
            (sym (summed_none _ _ cs (λ d k. absurd (Memᴰ.not-nil (r.has d k).1)))))
        | inr k ↦ absurd (Memᴰ.not-nil k)
      ];
    }

    -- the cell is the first of the first group
    same_group : (e : UnitEntry) (es : List UnitEntry) → unit c ≡ e.unit → GroupsOf unit cs (e ∷ es)
        → GroupsOf unit (c ∷ cs) (unit_entry (unit c) c (suc e.count) ∷ es)
    same_group e es q r = record {
      rise = rw q r.rise;
      has = λ d m. elim (Memᴰ.cases_cons m) [
        | inl p ↦ (unit_entry (unit c) c (suc e.count), Memᴰ.head refl, ap unit (sym p))
        | inr k ↦ old (r.has d k)
      ];
      each = λ f m. elim (Memᴰ.cases_cons m) [
        | inl p ↦ rw p (begun c cs (unit c) e.count refl (rw q (r.each e (Memᴰ.head refl)).has_count))
        | inr k ↦
            let b = rise_before r.rise (entry_digits f) (Memᴰ.map entry_digits k) in
            further c cs f (rw q (unlike e.unit f b)) (r.each f (Memᴰ.tail k))
      ];
    }
      where
        old : {m : UnitName} → (f : UnitEntry) × Memᴰ f (e ∷ es) × (f.unit ≡ m)
            → (f : UnitEntry) × Memᴰ f (unit_entry (unit c) c (suc e.count) ∷ es) × (f.unit ≡ m)
        old {m} (f, k, p) = elim (Memᴰ.cases_cons k) [
          | inl x ↦ (unit_entry (unit c) c (suc e.count), Memᴰ.head refl, q ∙ rw x at p)
          | inr j ↦ (f, Memᴰ.tail j, p)
        ]

    -- the cell begins a group
    new_group : (e : UnitEntry) (es : List UnitEntry) → unit c ≢ e.unit → GroupsOf unit cs (e ∷ es)
        → GroupsOf unit (c ∷ cs) (unit_entry (unit c) c 1 ∷ e ∷ es)
    new_group e es q r = record {
      rise = rise_on past r.rise;
      has = λ d m. elim (Memᴰ.cases_cons m) [
        | inl p ↦ (unit_entry (unit c) c 1, Memᴰ.head refl, ap unit (sym p))
        | inr k ↦ let f = r.has d k in (f.0, Memᴰ.tail f.1, f.2)
      ];
      each = λ f m. elim (Memᴰ.cases_cons m) [
        | inl p ↦ rw p (begun c cs (unit c) 0 refl (sym (summed_none _ _ cs none)))
        | inr k ↦ further c cs f (unlike (unit c) f (past (entry_digits f) (Memᴰ.map entry_digits k))) (r.each f k)
      ];
    }
      where
        stands : Memᴰ e.outlet cs
        stands =
            let g = r.each e (Memᴰ.head refl) in rw g.at at (at_place 0 cs g.place g.below)

        next : NotAfter (basin_and_digits (unit c)) (entry_digits e)
            → is_before (basin_and_digits (unit c)) (entry_digits e) ≡ true
        next (inl p) =
            let g = r.each e (Memᴰ.head refl) in
            let t = told e.outlet (Memᴰ.tail stands) in
            let u = told c (Memᴰ.head refl) in
            absurd (q (sym u ∙ ap unit_of (p ∙ ap basin_and_digits (sym g.named)) ∙ t ∙ g.named))
        next (inr p) = p

        first : is_before (basin_and_digits (unit c)) (entry_digits e) ≡ true
        first =
            let g = r.each e (Memᴰ.head refl) in
            next (rw g.named at (falls e.outlet stands))

        past : (y : List ℕ) → Memᴰ y (map entry_digits (e ∷ es)) → is_before (basin_and_digits (unit c)) y ≡ true
        past y m = elim (Memᴰ.cases_cons m) [
          | inl p ↦ rw p first
          | inr k ↦ before_transitive (basin_and_digits (unit c)) (entry_digits e) y first (rise_before r.rise y k)
        ]

        none : (d : ℕ) → Memᴰ d cs → same_unit (unit d) (unit c) ≡ false
        none d m =
            let f = r.has d m in
            let b = past (entry_digits f.0) (Memᴰ.map entry_digits f.1) in
            same_not (unit d) (unit c) (λ p. unlike (unit c) f.0 b (sym p ∙ sym f.2))

    joined_groups : (es : List UnitEntry) → GroupsOf unit cs es → GroupsOf unit (c ∷ cs) (with_cell (unit c) c es)
    unfolding with_cell
    joined_groups [] r = alone r
    joined_groups (e ∷ es) r = go (same_unit (unit c) e.unit) refl
      where
        go : (b : Bool) → same_unit (unit c) e.unit ≡ b
            → GroupsOf unit (c ∷ cs)
            (cond b (unit_entry (unit c) c (suc e.count) ∷ es) (unit_entry (unit c) c 1 ∷ e ∷ es))
        go true q = same_group e es (same_true (unit c) e.unit q) r
        go false q = new_group e es (same_false (unit c) e.unit q) r

  all_told : {cs : List ℕ} → NeverFall unit cs → (d : ℕ) → Memᴰ d cs → unit_of (basin_and_digits (unit d)) ≡ unit d
  all_told fall_none d m = absurd (Memᴰ.not-nil m)
  all_told (fall_on t f w) d m = elim (Memᴰ.cases_cons m) [ inl p ↦ rw p t | inr k ↦ all_told w d k ]

  pub groups_of : (cs : List ℕ) → NeverFall unit cs → GroupsOf unit cs (grouped unit cs)
  unfolding grouped
  groups_of [] w = record {
    rise = rise_none;
    has = λ c m. absurd (Memᴰ.not-nil m);
    each = λ e m. absurd (Memᴰ.not-nil m);
  }
  groups_of (c ∷ cs) (fall_on t f w) =
      joined_groups c cs (all_told (fall_on t f w)) f (grouped unit cs) (groups_of cs w)
