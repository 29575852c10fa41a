-- The answers to the flow question and to the outlet question say what the water does, on every accepted sheet.
use mathlib.Core.Path.{◌≡◌, refl, sym, ◌∙◌, ap, ap₂}
use mathlib.Core.Bool.{Bool, true, false, cond}
use mathlib.Core.List.{List}
use mathlib.Core.Logic.{◌≢◌, ◌↔◌}
use Prim.Native.Nat.{ℕ}
use native.Mathlib.Omega.{arith}
use lib.Dec.{eqb}
use lib.ListN.{length}
use borrow.Author.Tests.{eqb-true, eqb-false}
use Rattle.sheet.specs.declared.Flow.TheVariants.{Yes, Undecided}
use Rattle.sheet.specs.declared.OutletFlow.{OutletFlow}
use Rattle.sheet.specs.declared.OutletFlow.TheVariants.{Same as OutletSame, Yes as OutletYes, No as OutletNo}
use Rattle.sheet.specs.declared.OutletFlow.TheVariants.{Refused as OutletRefused}
use Rattle.sheet.specs.declared.UnitName.{UnitName}
use Rattle.sheet.specs.Sheet.{Sheet, next}
use Rattle.sheet.specs.Water.{Passes}
use Rattle.sheet.specs.Record.{digits_of, same_label, label_at, unit_name, unit_at}
use Rattle.sheet.specs.Refusal.{outcome, lent_after, Lent}
use Rattle.sheet.specs.Flow.{answer_unequal, stem_alone, cell_answer, answer_number, outlet_answer_number}
use Rattle.sheet.proofs.Within.{least_fits_lem}
use Rattle.sheet.proofs.Records.{same_true, same_false}
use Rattle.sheet.proofs.Questions.{from_outlet_flow}
use Rattle.claims.specs.Demand.{DemandThree, OneOutlet, Inside, OfBasin, basin_at, digits_at}
use Rattle.claims.specs.Flow.{asked, FlowMeaning, outlet_asked, OutletFlowMeaning}
use Rattle.claims.specs.Parting.{PartAt, RuleAt, MeetsRule}
use Rattle.claims.proofs.Parting.{part_differs}
use Rattle.claims.proofs.Units.{drains_passes, begins_all}
use Rattle.claims.proofs.Written.{checks, is_label_lem}
use Rattle.claims.proofs.Theorems.{demand_three, outlet_rule}
use Rattle.claims.proofs.FlowAnswers.{differ, Answered, answered_yes, answered_no, answer_at_lem, good_labels}
use Rattle.claims.proofs.FlowAnswers.{alone_means}
use Rattle.sheet.specs.Answer.{Accepted}

-- the units of cells p and q, and the answer to the outlet question that they get
data Judged (basins labels : List ℕ) (p q : ℕ) : OutletFlow → Type 0 where
  judged_across : basin_at basins p ≢ basin_at basins q → Judged basins labels p q OutletNo
  judged_same : unit_at basins labels p ≡ unit_at basins labels q → Judged basins labels p q OutletSame
  judged_parted : {a : OutletFlow} → basin_at basins p ≡ basin_at basins q → (k : ℕ)
      → PartAt (digits_at labels p) (digits_at labels q) k
      → Answered (digits_at labels p) (digits_at labels q) k a → Judged basins labels p q a

-- what an answer to the outlet question says, where E is that the units are equal and W that the water passes
record Says (E W : Type 0) (a : OutletFlow) : Type 0 where
  yes : ¬ E → W ↔ (a ≡ OutletYes)
  no : ¬ E → (¬ W) ↔ (a ≡ OutletNo)
  same : E ↔ (a ≡ OutletSame)
  never_refused : (number : ℕ) → ¬ (a ≡ OutletRefused number)

module _ {E W : Type 0} where
  says_same : E → Says E W OutletSame
  says_same e = record {
    yes = λ n. absurd (n e);
    no = λ n. absurd (n e);
    same = (λ f. refl, λ f. e);
    never_refused = λ m f. differ outlet_answer_number f (omega arith);
  }

  says_yes : ¬ E → W → Says E W OutletYes
  says_yes n w = record {
    yes = λ m. (λ v. refl, λ f. w);
    no = λ m. (λ v. absurd (v w), λ f. differ outlet_answer_number f (omega arith));
    same = (λ e. absurd (n e), λ f. differ outlet_answer_number f (omega arith));
    never_refused = λ m f. differ outlet_answer_number f (omega arith);
  }

  says_no : ¬ E → ¬ W → Says E W OutletNo
  says_no n w = record {
    yes = λ m. (λ v. absurd (w v), λ f. differ outlet_answer_number f (omega arith));
    no = λ m. (λ v. refl, λ f. w);
    same = (λ e. absurd (n e), λ f. differ outlet_answer_number f (omega arith));
    never_refused = λ m f. differ outlet_answer_number f (omega arith);
  }

-- ---- inside cells of an accepted sheet

module _ (S : Sheet) (L : Lent) (accepted : outcome S L ≡ Accepted) where
  abbrev basins : List ℕ
  basins = (lent_after S L).basins

  abbrev labels : List ℕ
  labels = (lent_after S L).labels

  -- demand 3 about the basin of a cell p
  within : (p : ℕ) → DemandThree (next S.grid) (OfBasin S basins (basin_at basins p)) S.depth S.least
      (label_at labels) (digits_at labels)
  within p = (demand_three S L accepted).within (basin_at basins p)

  own : (p : ℕ) → Inside S p → OfBasin S basins (basin_at basins p) p
  own p i = record { is_inside_lem = i; numbered = refl }

  module _ (p q : ℕ) (i : Inside S p) (j : Inside S q) where
    -- a cell of the same basin
    of_same : basin_at basins p ≡ basin_at basins q → OfBasin S basins (basin_at basins p) q
    of_same b = record { is_inside_lem = j; numbered = sym b }

    in_one : basin_at basins p ≡ basin_at basins q
        → Judged basins labels p q (cond (same_label (label_at labels p) (label_at labels q)) OutletSame
        (answer_unequal (label_at labels p) (label_at labels q)))
    unfolding answer_unequal
    in_one b = go (same_label (label_at labels p) (label_at labels q)) refl
      where
        go : (same : Bool) → same_label (label_at labels p) (label_at labels q) ≡ same
            → Judged basins labels p q (cond same OutletSame (answer_unequal (label_at labels p) (label_at labels q)))
        go true e = judged_same (ap₂ unit_name b (same_true (label_at labels p) (label_at labels q) e))
        go false e =
            let t = (within p).labels_part p q (own p i) (of_same b)
            (same_false (label_at labels p) (label_at labels q) e) in
            judged_parted b t.0 t.1 (answer_at_lem (digits_at labels p) (digits_at labels q) t.0 t.1)

    judged : Judged basins labels p q (outlet_asked S basins labels p q)
    judged =
        rw (good_labels S.depth (unit_at basins labels p) (unit_at basins labels q) (checks S L accepted).depth
        (is_label_lem S L accepted p i) (is_label_lem S L accepted q j))
        (go (eqb (basin_at basins p) (basin_at basins q)) refl)
      where
        go : (one : Bool) → eqb (basin_at basins p) (basin_at basins q) ≡ one
            → Judged basins labels p q (cond one (cond (same_label (label_at labels p) (label_at labels q)) OutletSame
            (answer_unequal (label_at labels p) (label_at labels q))) OutletNo)
        go true e = in_one (eqb-true (basin_at basins p) (basin_at basins q) e)
        go false e = judged_across (eqb-false (basin_at basins p) (basin_at basins q) e)

    by_answer : (a : OutletFlow) → Judged basins labels p q a
        → asked S basins labels p q ≡ cell_answer (stem_alone S.depth S.least (length (digits_at labels p))) a
        → FlowMeaning S basins labels p q
    by_answer a (judged_across d) f = record {
      yes = λ g. differ answer_number (sym f ∙ g) (omega arith);
      no = λ g. (demand_three S L accepted).across p q i j d;
      same = λ g. differ answer_number (sym f ∙ g) (omega arith);
      never_refused = λ n g. differ answer_number (sym f ∙ g) (omega arith);
    }
    by_answer a (judged_same e) f = record {
      yes = λ g. differ answer_number (sym f ∙ g) (omega arith);
      no = λ g. differ answer_number (sym f ∙ g) (omega arith);
      same = λ g. e;
      never_refused = λ n g. differ answer_number (sym f ∙ g) (omega arith);
    }
    by_answer a (judged_parted b k t (answered_yes r)) f =
        go (stem_alone S.depth S.least (length (digits_at labels p))) refl f
      where
        go : (alone : Bool) → stem_alone S.depth S.least (length (digits_at labels p)) ≡ alone
            → asked S basins labels p q ≡ cond alone Yes Undecided → FlowMeaning S basins labels p q
        go true e g = record {
          yes = λ h.
              let a = alone_means S.depth S.least (length (digits_at labels p)) e in
              ((within p).cell_rule a.0 p q (own p i) (of_same b) a.1 k t).1 r;
          no = λ h. differ answer_number (sym g ∙ h) (omega arith);
          same = λ h. differ answer_number (sym g ∙ h) (omega arith);
          never_refused = λ n h. differ answer_number (sym g ∙ h) (omega arith);
        }
        go false e g = record {
          yes = λ h. differ answer_number (sym g ∙ h) (omega arith);
          no = λ h. differ answer_number (sym g ∙ h) (omega arith);
          same = λ h. differ answer_number (sym g ∙ h) (omega arith);
          never_refused = λ n h. differ answer_number (sym g ∙ h) (omega arith);
        }
    by_answer a (judged_parted b k t (answered_no n)) f = record {
      yes = λ g. differ answer_number (sym f ∙ g) (omega arith);
      no = λ g h. n ((within p).passed_meets p q (own p i) (of_same b) k t h);
      same = λ g. differ answer_number (sym f ∙ g) (omega arith);
      never_refused = λ m g. differ answer_number (sym f ∙ g) (omega arith);
    }

    pub flow_meaning : FlowMeaning S (lent_after S L).basins (lent_after S L).labels p q
    flow_meaning =
        let fits = least_fits_lem S.least S.split (checks S L accepted).least_and_split in
        by_answer _ judged
        (from_outlet_flow S.depth S.least (unit_at basins labels p) (unit_at basins labels q) fits)

  -- ---- the outlet question

  unit_outlet_lem : (p : ℕ) → Inside S p
      → OneOutlet (next S.grid) (OfBasin S basins (basin_at basins p)) (digits_at labels) (digits_at labels p)
  unit_outlet_lem p i =
      (within p).one_outlet (digits_at labels p) p
      (record { is_inside_lem = own p i; begins = begins_all (digits_at labels p) })

  module _ (p q : ℕ) (i : Inside S p) (j : Inside S q) where
    -- where the labels part, the outlet rule
    rule_at_lem : basin_at basins p ≡ basin_at basins q → (k : ℕ) → PartAt (digits_at labels p) (digits_at labels q) k
        → Passes (next S.grid) q (unit_outlet_lem p i).cell ↔ RuleAt (digits_at labels p) (digits_at labels q) k
    rule_at_lem b k t =
        (outlet_rule S L accepted (basin_at basins p)).rule p q (own p i) (of_same p q i j b) (unit_outlet_lem p i).cell
        (unit_outlet_lem p i).drains k t

    by_rule : basin_at basins p ≡ basin_at basins q → label_at labels p ≢ label_at labels q
        → Passes (next S.grid) q (unit_outlet_lem p i).cell ↔ MeetsRule (digits_at labels p) (digits_at labels q)
    by_rule b d =
        let t = (within p).labels_part p q (own p i) (of_same p q i j b) d in (
          λ w. record { place = t.0; part = t.1; rule = (rule_at_lem b t.0 t.1).0 w },
          λ m. (rule_at_lem b m.place m.part).1 m.rule,
        )

    same_passes : unit_at basins labels p ≡ unit_at basins labels q
        → Passes (next S.grid) q (unit_outlet_lem p i).cell
    same_passes e =
        let b : basin_at basins p ≡ basin_at basins q = ap (λ (u : UnitName). u.basin) e in
        let l : label_at labels p ≡ label_at labels q = ap (λ (u : UnitName). u.label) e in
        drains_passes ((unit_outlet_lem p i).drains.drains q
        (record { is_inside_lem = of_same p q i j b; begins = rw l (begins_all (digits_at labels q)) }))

    -- the outlet is a cell of p's basin
    not_across : basin_at basins p ≢ basin_at basins q → ¬ Passes (next S.grid) q (unit_outlet_lem p i).cell
    not_across d =
        let o = (unit_outlet_lem p i).drains.among.is_inside_lem in
        (demand_three S L accepted).across (unit_outlet_lem p i).cell q o.is_inside_lem j (λ e. d (sym o.numbered ∙ e))

    parted_units : {k : ℕ} → PartAt (digits_at labels p) (digits_at labels q) k
        → unit_at basins labels p ≢ unit_at basins labels q
    parted_units t e = part_differs t (ap (λ (u : UnitName). digits_of u.label) e)

    says : (a : OutletFlow) → Judged basins labels p q a
        → Says (unit_at basins labels p ≡ unit_at basins labels q) (Passes (next S.grid) q (unit_outlet_lem p i).cell) a
    says a (judged_across d) = says_no (λ e. d (ap (λ (u : UnitName). u.basin) e)) (not_across d)
    says a (judged_same e) = says_same e
    says a (judged_parted b k t (answered_yes r)) = says_yes (parted_units t) ((rule_at_lem b k t).1 r)
    says a (judged_parted b k t (answered_no n)) = says_no (parted_units t) (λ w. n ((rule_at_lem b k t).0 w))

    answer_says : Says (unit_at basins labels p ≡ unit_at basins labels q)
        (Passes (next S.grid) q (unit_outlet_lem p i).cell) (outlet_asked S basins labels p q)
    answer_says = says _ (judged p q i j)

  pub outlet_flow_meaning : OutletFlowMeaning S (lent_after S L).basins (lent_after S L).labels
  outlet_flow_meaning = record {
    outlet = unit_outlet_lem;
    rule = by_rule;
    yes = λ p q i j. (answer_says p q i j).yes;
    no = λ p q i j. (answer_says p q i j).no;
    same = λ p q i j. (answer_says p q i j).same;
    same_passes = same_passes;
    never_refused = λ p q i j. (answer_says p q i j).never_refused;
  }
