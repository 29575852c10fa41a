-- The third demand and the outlet rule for any basin of a forest: any areas, any number of mouths taken, any rule for
-- counting mouths that is closed upwards.
use mathlib.Core.Path.{◌≡◌, refl, sym, ◌∙◌}
use mathlib.Core.Bool.{true, true≢false}
use mathlib.Core.List.{List}
use mathlib.Core.Logic.{◌⊎◌, inl, inr, ◌↔◌}
use Prim.Native.Nat.{ℕ, zero, suc, ◌<◌}
use native.Mathlib.Omega.{arith}
use Rattle.sheet.specs.Water.{Passes, DrainsTo, here, there, way_end}
use Rattle.sheet.specs.Unit.{finished}
use Rattle.sheet.specs.River.{heavier, donors, Run, river, Network}
use Rattle.claims.specs.Basin.{Ends, Forest, Basin, InBasin, ends_here}
use Rattle.claims.specs.Demand.{Shares, OneOutlet, AllCounted, DemandThree, OutletRule}
use Rattle.claims.specs.Parting.{PartAt, RuleAt}
use Rattle.claims.specs.Runs.{MouthOf, Headed}
use Rattle.claims.specs.Lawful.{Lawful}
use Rattle.claims.proofs.Runs.{pass_trans}
use Rattle.claims.proofs.Rivers.{mouth_goes}
use Rattle.claims.proofs.Parting.{parted_at, part_differs, both_ways, Parted, Rule}
use Rattle.claims.proofs.DigitRule.{unit_outlet, outlet_rule, cell_rule}
use Rattle.claims.proofs.Units.{drains_passes, one_outlet, digits_in, begins_all, unit_outlet_lem, named_outlet}
use Rattle.claims.proofs.Heavier.{heavier_trans, heavier_irrefl, heavier_total, donors_only, donors_all}
use Rattle.claims.proofs.Heavier.{donors_rise}
use Rattle.claims.proofs.Mouths.{taken_upward, finished_none}
use Rattle.claims.proofs.Fuel.{steps, steps_short, steps_fall, ends_within, ends_end}
use Rattle.sheet.specs.Answer.{Next}
use Rattle.std.specs.Prelude.{None, Some}

module _ {N : Network} {inside : ℕ → Type 0} (F : Forest N inside) where
  pub stays_inside : {c x : ℕ} → inside c → Passes N.next c x → inside x
  stays_inside i here = i
  stays_inside i (there {q = q} {r = r} e h) = stays_inside (F.to_inside q r e) h

  late : (m c : ℕ) → 0 < m → N.next c ≡ None → Ends N.next m c
  late zero c l e = absurd (omega arith)
  late (suc m) c l e = ends_here e

  pub all_end : (c : ℕ) → Ends N.next N.cells c
  all_end c = go (N.next c) refl
    where
      go : (x : Next) → N.next c ≡ x → Ends N.next N.cells c
      go None e = late N.cells c (omega (arith, F.some)) e
      go (Some r) e =
          let i = F.from_inside c r e in
          ends_within N.cells (F.ends c i).1 (λ x p. F.small x (stays_inside i p))

  pub lawful : Lawful N (heavier N)
  unfolding donors
  lawful = record {
    dist = steps N.next N.cells;
    falls = λ u r e. steps_fall (all_end u) r e;
    short = λ u. steps_short (all_end u);
    donor_steps = λ c u m. (donors_only N.next (heavier N) N.cells c u m).1;
    donors_complete = λ c u e. donors_all N.next (heavier N) N.cells c u (F.small u (F.from_inside u c e)) e;
    donors_rising = donors_rise N.next (heavier N) (heavier_total N.area) N.cells;
    lighter = heavier_trans N.area;
    unlike = heavier_irrefl N.area;
    upward = λ R u v m t k h. taken_upward N F.upwards R u v t h;
  }

module _ {N : Network} {inside : ℕ → Type 0} {outlet : ℕ} (B : Basin N inside outlet) where
  O : Lawful N (heavier N)
  O = lawful B.forest

  -- the cells of the basin
  abbrev Cell : ℕ → Type 0
  Cell c = InBasin N inside outlet c

  pub drain : (c : ℕ) → InBasin N inside outlet c → Passes N.next c outlet
  drain c i = i.comes

  pub upstream_inside : (c : ℕ) → Passes N.next c outlet → InBasin N inside outlet c
  upstream_inside c h = record { is_inside_lem = go h; comes = h }
    where
      go : {x : ℕ} → Passes N.next x outlet → inside x
      go here = B.outlet_inside
      go (there {q = q} {r = r} e k) = B.forest.from_inside q r e

  -- it is the outlet of the way of each of its cells
  pub own_outlet : (c : ℕ) → InBasin N inside outlet c → way_end N.next N.cells c ≡ outlet
  own_outlet c i = ends_end (all_end B.forest c) i.comes B.ends_there

  -- the one-outlet statement
  pub units_drain : (depth : ℕ) (w : List ℕ) (c : ℕ) → Shares Cell (digits_in N outlet depth) w c
      → OneOutlet N.next Cell (digits_in N outlet depth) w
  units_drain depth = unit_outlet_lem O Cell outlet depth drain upstream_inside

  -- the outlet rule, for the outlet that the definition of units gives
  pub named_rule : (depth p q : ℕ) → Cell p → Cell q
      → (digits_in N outlet depth p ≡ digits_in N outlet depth q)
      ⊎ (Parted (digits_in N outlet depth p) (digits_in N outlet depth q)
      × (Passes N.next q (unit_outlet N depth (river N outlet) p) ↔ Rule (digits_in N outlet depth p)
      (digits_in N outlet depth q)))
  named_rule depth p q i j = outlet_rule O outlet depth p q (drain p i) (drain q j)

  pub named : (depth p : ℕ) → Cell p
      → DrainsTo N.next (Shares Cell (digits_in N outlet depth) (digits_in N outlet depth p))
      (unit_outlet N depth (river N outlet) p)
  named depth = named_outlet O Cell outlet depth drain upstream_inside

  pub outlet_rule_holds : (depth : ℕ) → OutletRule N.next Cell (digits_in N outlet depth)
  outlet_rule_holds depth = record {
    rule = λ p q i j o d k at.
        let same : o ≡ unit_outlet N depth (river N outlet) p = one_outlet O.dist O.falls d (named depth p i) in
        elim (named_rule depth p q i j) [ inl e ↦ absurd (part_differs at e) | inr r ↦ rw same (both_ways r.1 at) ];
  }

  -- at any depth: water that passes p meets the rule, so a rule that is not met is a sure No
  passes_rule : (depth p q : ℕ) → Cell p → Cell q → (k : ℕ)
      → PartAt (digits_in N outlet depth p) (digits_in N outlet depth q) k
      → Passes N.next q p → RuleAt (digits_in N outlet depth p) (digits_in N outlet depth q) k
  passes_rule depth p q i j k at h =
      let o = named depth p i in
      let w = o.drains p (record { is_inside_lem = i; begins = begins_all (digits_in N outlet depth p) }) in
      ((outlet_rule_holds depth).rule p q i j (unit_outlet N depth (river N outlet) p) o k at).0
      (pass_trans h (drains_passes w))

  -- demand 3; the cell rule where least is 1, which makes every mouth count
  pub demand_three_holds : (least : ℕ) → (AllCounted least → (v : ℕ) → inside v → N.counted v ≡ true) → (depth : ℕ)
      → DemandThree N.next Cell depth least (digits_in N outlet depth) (digits_in N outlet depth)
  demand_three_holds least all depth = record {
    labels_part = λ p q i j d. elim (named_rule depth p q i j) [ inl e ↦ absurd (d e) | inr r ↦ parted_at r.0 ];
    passed_meets = passes_rule depth;
    cell_rule = λ one p q i j short k at.
        elim (cell_rule O outlet depth p q (drain p i) (drain q j) (no_mouth (all one)))
        [ inl e ↦ absurd (part_differs at e) | inr r ↦ both_ways (r.1 short) at ];
    one_outlet = units_drain depth;
  }
    where
      no_mouth : ((v : ℕ) → inside v → N.counted v ≡ true) → (R : Run) → Headed N.next (heavier N) R
          → finished N R ≡ true → (v : ℕ) → MouthOf R v → ⊥
      no_mouth counts R w e v m =
          let g = mouth_goes w m in
          true≢false (sym (counts v (B.forest.from_inside v g.0 g.1)) ∙ finished_none N R e v m)
