-- The statements of specs/Demand.antt hold of what the calls wrote.
use mathlib.Core.Path.{◌≡◌, refl}
use Prim.Native.Nat.{ℕ}
use native.Mathlib.Omega.{arith}
use Rattle.sheet.specs.Sheet.{Sheet}
use Rattle.sheet.specs.Refusal.{Lent, outcome, lent_after}
use Rattle.faults.specs.declared.Sizes.{Sizes}
use Rattle.intake.specs.declared.Intake.{Intake}
use Rattle.intake.specs.Intake.{LentSheet, ended_sizes}
use Rattle.claims.proofs.Theorems.{demand_three}
use Rattle.claims.proofs.AsBefore.{as_before, one_number}
use Rattle.claims.proofs.FlowMeaning.{flow_meaning, outlet_flow_meaning}
use Rattle.claims.proofs.Written.{basins_mean, alone_meaning, direct_meaning}
use Rattle.labelling.specs.FromIntake.{sheet_of, outcome_with, lent_with, intake_outcome, intake_lent}
use Rattle.labelling.specs.Demand.{LabelledDirectly, OfIntake, ForAllAccepted, DemandThreeWhole, FlowWhole}
use Rattle.labelling.specs.Demand.{AsBeforeWhole, OneNumberWhole, OutletFlowWhole, BasinsWhole, AloneWhole}
use Rattle.labelling.specs.Demand.{DirectWhole}
use Rattle.sheet.specs.Answer.{Accepted}
use Rattle.std.specs.Prelude.{None, Option, Some}

-- what holds of every accepted sheet and what the definition writes, holds however it is labelled
module _ (Statement : Sheet → Lent → Type 0)
    (of : (S : Sheet) (L : Lent) → outcome S L ≡ Accepted → Statement S (lent_after S L)) where
  directly : (S : Sheet) (L L' : Lent) → LabelledDirectly S L L' → Statement S L'
  directly S L L' c = rw c.after (of S L c.accepted)

  from_sizes : (i : Intake) (sizes : Option Sizes) (T : LentSheet) (L L' : Lent) → ended_sizes i.stage ≡ sizes
      → outcome_with sizes T L ≡ Accepted → L' ≡ lent_with sizes T L → OfIntake Statement i T L'
  unfolding outcome_with lent_with
  from_sizes i None T L L' e a f = let z : ◌≡◌ {A = ℕ} 0 1 = cc in absurd (omega arith)
  from_sizes i (Some z) T L L' e a f = record {
    sizes = z;
    ended = e;
    holds = directly (sheet_of z T) L L' (record { accepted = a; after = f });
  }

  pub for_all_accepted : ForAllAccepted Statement
  unfolding intake_outcome intake_lent
  for_all_accepted = record {
    directly = directly;
    from_intake = λ i T L L' c. from_sizes i (ended_sizes i.stage) T L L' refl c.accepted c.after;
  }

pub demand_three_whole : DemandThreeWhole
demand_three_whole = for_all_accepted _ demand_three

pub flow_whole : FlowWhole
flow_whole = for_all_accepted _ flow_meaning

pub as_before_whole : AsBeforeWhole
as_before_whole = for_all_accepted _ as_before

pub one_number_whole : OneNumberWhole
one_number_whole = for_all_accepted _ one_number

pub outlet_flow_whole : OutletFlowWhole
outlet_flow_whole = for_all_accepted _ outlet_flow_meaning

pub basins_whole : BasinsWhole
basins_whole = for_all_accepted _ basins_mean

pub alone_whole : AloneWhole
alone_whole = for_all_accepted _ alone_meaning

pub direct_whole : DirectWhole
direct_whole = for_all_accepted _ direct_meaning
