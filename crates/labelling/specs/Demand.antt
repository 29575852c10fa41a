-- The third demand, what the flow question and the outlet question say, basins, and the labels of document 01, about
-- what the calls wrote: directly, and from an intake.
use Rattle.std.specs.Prelude.{◌≡◌, ℕ, Some}
use Rattle.sheet.specs.Sheet.{Sheet}
use Rattle.sheet.specs.Refusal.{Lent, outcome, lent_after}
use Rattle.faults.specs.declared.Sizes.{Sizes}
use Rattle.intake.specs.declared.Intake.{Intake}
use Rattle.intake.specs.Intake.{LentSheet, ended_sizes}
use Rattle.claims.specs.Demand.{Inside, DemandThreeOf}
use Rattle.claims.specs.Alone.{BasinsMeaning, AloneMeaning, DirectMeaning}
use Rattle.claims.specs.AsBefore.{AsBefore, OneNumber}
use Rattle.claims.specs.Flow.{FlowMeaning, OutletFlowMeaning}
use Rattle.labelling.specs.FromIntake.{sheet_of, intake_outcome, intake_lent}
use Rattle.sheet.specs.Answer.{Accepted}

-- what the contract of `label` promises of an accepted call: L was lent, and L' is what the slices hold afterwards
pub record LabelledDirectly (S : Sheet) (L L' : Lent) : Type 0 where
  pub accepted : outcome S L ≡ Accepted
  pub after : L' ≡ lent_after S L

-- and that of `label_intake`
pub record LabelledFrom (i : Intake) (T : LentSheet) (L L' : Lent) : Type 0 where
  pub accepted : intake_outcome i T L ≡ Accepted
  pub after : L' ≡ intake_lent i T L

-- a statement about a sheet and what was written for it, of the sheet of an intake that had ended
pub record OfIntake (Statement : Sheet → Lent → Type 0) (i : Intake) (T : LentSheet) (L : Lent) : Type 0 where
  pub sizes : Sizes
  pub ended : ended_sizes i.stage ≡ Some sizes
  pub holds : Statement (sheet_of sizes T) L

-- a statement for all accepted sheets, however they are labelled; acceptance is the only hypothesis
pub record ForAllAccepted (Statement : Sheet → Lent → Type 0) : Type 1 where
  pub directly : (S : Sheet) (L L' : Lent) → LabelledDirectly S L L' → Statement S L'
  pub from_intake : (i : Intake) (T : LentSheet) (L L' : Lent) → LabelledFrom i T L L' → OfIntake Statement i T L'

-- the third demand, for all weights, least and split together: about the cells of one basin, and across basins
abbrev pub DemandThreeWhole : Type 1
DemandThreeWhole = ForAllAccepted (λ S L. DemandThreeOf S L.basins L.labels)

-- what the flow question says, told the sheet's own least
abbrev pub FlowWhole : Type 1
FlowWhole = ForAllAccepted (λ S L. (p q : ℕ) → Inside S p → Inside S q → FlowMeaning S L.basins L.labels p q)

-- flow to a unit's outlet: exactly under the digit rule, and exactly if the outlet question says Yes
abbrev pub OutletFlowWhole : Type 1
OutletFlowWhole = ForAllAccepted (λ S L. OutletFlowMeaning S L.basins L.labels)

-- the numbers of basins
abbrev pub BasinsWhole : Type 1
BasinsWhole = ForAllAccepted (λ S L. BasinsMeaning S L.basins)

-- areas and labels are those of the sheet on which all other basins are set to 0
abbrev pub AloneWhole : Type 1
AloneWhole = ForAllAccepted (λ S L. AloneMeaning S L.areas L.labels L.basins)

-- and those of the sheet itself: on a sheet of one basin, those of document 01
abbrev pub DirectWhole : Type 1
DirectWhole = ForAllAccepted (λ S L. DirectMeaning S L.areas L.labels)

-- least 1 and split 4 give the labels of document 01
abbrev pub AsBeforeWhole : Type 1
AsBeforeWhole = ForAllAccepted (λ S L. AsBefore S L.labels)

-- a label of a sheet of depth 18 or less is one number, as in document 01
abbrev pub OneNumberWhole : Type 1
OneNumberWhole = ForAllAccepted (λ S L. OneNumber S L.labels)
