-- The weights of units from the cells of a list in which each unit's cells stand side by side: each is the sum over the
-- cells of the unit.
use mathlib.Core.Path.{◌≡◌, refl, sym, ◌∙◌, ap}
use mathlib.Core.Bool.{Bool, true, false, cond, true≢false}
use mathlib.Core.List.Memᴰ
use mathlib.Core.List.{List, [], ◌∷◌, map, Memᴰ}
use mathlib.Core.Logic.{◌≢◌}
use Prim.Native.Nat.{ℕ, suc, ◌+◌}
use lib.ListN.{get_or, take, drop}
use Rattle.sheet.specs.declared.UnitName.{UnitName}
use Rattle.sheet.specs.Record.{same_unit}
use Rattle.claims.specs.Bounds.{sum}
use Rattle.claims.proofs.Dictionary.{before_irreflexive}
use Rattle.index.specs.Units.{UnitEntry, unit_entry}
use Rattle.index.specs.Groups.{with_cell, grouped}
use Rattle.index.proofs.UnitNames.{same_true, same_is, same_not}
use Rattle.index.proofs.UnitsRise.{UnitsRise, rise_before}
use Rattle.index.proofs.Counting.{summed, summed_none}
use Rattle.index.proofs.GroupsInOrder.{NeverFall, fall_on, entry_digits, GroupsOf, groups_of}
use Rattle.dues.specs.Steps.{part_weights, counts_of}

module _ (unit : ℕ → UnitName) where
  -- the sum over the cells of a list of an entry's unit
  abbrev pub weight_in : (ℕ → ℕ) → List ℕ → UnitEntry → ℕ
  weight_in f cs e = summed (λ c. same_unit (unit c) e.unit) f cs

  module _ (f : ℕ → ℕ) (c : ℕ) (cs : List ℕ) where
    -- the first of groups is the cell's unit, so that no other is
    unlike : (e : UnitEntry) (es : List UnitEntry) → e.unit ≡ unit c → UnitsRise (map entry_digits (e ∷ es))
        → (d : UnitEntry) → Memᴰ d es → unit c ≢ d.unit
    unlike e es q r d m p =
        true≢false (sym (rise_before r (entry_digits d) (Memᴰ.map entry_digits m))
        ∙ rw (q ∙ p) (before_irreflexive (entry_digits d)))

    -- the cell adds nothing to groups of other units
    others : (es : List UnitEntry) → ((d : UnitEntry) → Memᴰ d es → unit c ≢ d.unit)
        → map (weight_in f cs) es ≡ map (weight_in f (c ∷ cs)) es
    unfolding summed
    others [] h = refl
    others (e ∷ es) h =
        let r = others es (λ d m. h d (Memᴰ.tail m)) in
        rw (same_not (unit c) e.unit (h e (Memᴰ.head refl))) (ap (λ (ws : List ℕ). weight_in f cs e ∷ ws) r)

    -- the cell begins a group
    begins : (es : List UnitEntry) → GroupsOf unit cs es
        → UnitsRise (map entry_digits (unit_entry (unit c) c 1 ∷ es))
        → part_weights f (counts_of es) cs ≡ map (weight_in f cs) es
        → part_weights f (1 ∷ counts_of es) (c ∷ cs) ≡ map (weight_in f (c ∷ cs)) (unit_entry (unit c) c 1 ∷ es)
    unfolding part_weights summed sum
    begins es g r h =
        let apart = unlike (unit_entry (unit c) c 1) es refl r in
        let none = summed_none (λ d. same_unit (unit d) (unit c)) f cs
        (λ d m. let e = g.has d m in same_not (unit d) (unit c) (λ p. apart e.0 e.1 (sym p ∙ sym e.2))) in
        let own : f c + 0 ≡ weight_in f (c ∷ cs) (unit_entry (unit c) c 1) =
        rw (same_is (unit c) (unit c) refl, none) refl in
        let rest = h ∙ others es apart in
        λ i. own i ∷ rest i

    -- the cell is of the first group
    joins : (e : UnitEntry) (es : List UnitEntry) → unit c ≡ e.unit
        → UnitsRise (map entry_digits (unit_entry (unit c) c (suc e.count) ∷ es))
        → part_weights f (counts_of (e ∷ es)) cs ≡ map (weight_in f cs) (e ∷ es)
        → part_weights f (suc e.count ∷ counts_of es) (c ∷ cs)
        ≡ map (weight_in f (c ∷ cs)) (unit_entry (unit c) c (suc e.count) ∷ es)
    unfolding part_weights summed sum
    joins e es q r h =
        let apart = unlike (unit_entry (unit c) c (suc e.count)) es refl r in
        let first = ap (λ (ws : List ℕ). get_or ws 0 0) h in
        let own : f c + sum f (take e.count cs) ≡ weight_in f (c ∷ cs) (unit_entry (unit c) c (suc e.count)) =
        rw (same_is (unit c) (unit c) refl) (ap (λ (n : ℕ). f c + n)
        (first ∙ ap (λ (u : UnitName). summed (λ (d : ℕ). same_unit (unit d) u) f cs) (sym q))) in
        let rest = ap (λ (ws : List ℕ). drop 1 ws) h ∙ others es apart in
        λ i. own i ∷ rest i

    joined : (es : List UnitEntry) → GroupsOf unit cs es → GroupsOf unit (c ∷ cs) (with_cell (unit c) c es)
        → part_weights f (counts_of es) cs ≡ map (weight_in f cs) es
        → part_weights f (counts_of (with_cell (unit c) c es)) (c ∷ cs)
        ≡ map (weight_in f (c ∷ cs)) (with_cell (unit c) c es)
    unfolding with_cell
    joined [] g k h = begins [] g k.rise h
    joined (e ∷ es) g k h = go (same_unit (unit c) e.unit) refl k.rise
      where
        go : (b : Bool) → same_unit (unit c) e.unit ≡ b
            → UnitsRise (map entry_digits
            (cond b (unit_entry (unit c) c (suc e.count) ∷ es) (unit_entry (unit c) c 1 ∷ e ∷ es)))
            → part_weights f (counts_of
            (cond b (unit_entry (unit c) c (suc e.count) ∷ es) (unit_entry (unit c) c 1 ∷ e ∷ es))) (c ∷ cs)
            ≡ map (weight_in f (c ∷ cs))
            (cond b (unit_entry (unit c) c (suc e.count) ∷ es) (unit_entry (unit c) c 1 ∷ e ∷ es))
        go true q r = joins e es (same_true (unit c) e.unit q) r h
        go false q r = begins (e ∷ es) g r h

  pub part_weights_lem : (f : ℕ → ℕ) (cs : List ℕ) → NeverFall unit cs
      → part_weights f (counts_of (grouped unit cs)) cs ≡ map (weight_in f cs) (grouped unit cs)
  unfolding part_weights grouped
  part_weights_lem f [] w = refl
  part_weights_lem f (c ∷ cs) (fall_on t h w) =
      joined f c cs (grouped unit cs) (groups_of unit cs w) (groups_of unit (c ∷ cs) (fall_on t h w))
      (part_weights_lem f cs w)
