-- What the answers to the flow question and to the outlet question say of inside cells of a sheet with the basins and
-- labels that were written for it; and how the two questions agree.
use Rattle.std.specs.Prelude.{◌≡◌, true, cond, List, ◌≢◌, ◌↔◌, ℕ, eqb}
use Rattle.sheet.specs.declared.Flow.{Flow}
use Rattle.sheet.specs.declared.Flow.TheVariants.{Same, Yes, No, Undecided, Refused}
use Rattle.sheet.specs.declared.OutletFlow.{OutletFlow}
use Rattle.sheet.specs.declared.OutletFlow.TheVariants.{Same as OutletSame, Yes as OutletYes, No as OutletNo}
use Rattle.sheet.specs.declared.OutletFlow.TheVariants.{Refused as OutletRefused}
use Rattle.sheet.specs.Sheet.{Sheet, next}
use Rattle.sheet.specs.Water.{Passes}
use Rattle.sheet.specs.declared.UnitName.{UnitName}
use Rattle.sheet.specs.Record.{label_at, unit_at}
use Rattle.sheet.specs.Refusal.{least_fits}
use Rattle.sheet.specs.Flow.{outlet_flow, flow, answer_number, outlet_answer_number}
use Rattle.claims.specs.Demand.{OneOutlet, Inside, digits_at, basin_at, OfBasin}
use Rattle.claims.specs.Parting.{MeetsRule}

-- does water from q pass p? asked of their units, told the sheet's own least
abbrev pub asked : Sheet → List ℕ → List ℕ → ℕ → ℕ → Flow
asked S basins labels p q = flow S.depth S.least (unit_at basins labels p) (unit_at basins labels q)

-- what the flow question says of inside cells p and q, of one basin or of two
pub record FlowMeaning (S : Sheet) (basins labels : List ℕ) (p q : ℕ) : Type 0 where
  pub yes : asked S basins labels p q ≡ Yes → Passes (next S.grid) q p
  pub no : asked S basins labels p q ≡ No → ¬ Passes (next S.grid) q p
  pub same : asked S basins labels p q ≡ Same → unit_at basins labels p ≡ unit_at basins labels q
  pub never_refused : (number : ℕ) → ¬ (asked S basins labels p q ≡ Refused number)

-- the outlet question, does water from q pass the outlet of p's unit? asked of their units
abbrev pub outlet_asked : Sheet → List ℕ → List ℕ → ℕ → ℕ → OutletFlow
outlet_asked S basins labels p q = outlet_flow S.depth (unit_at basins labels p) (unit_at basins labels q)

-- what the outlet question says of the inside cells of a sheet, at any depth
pub record OutletFlowMeaning (S : Sheet) (basins labels : List ℕ) : Type 0 where
  -- the outlet of p's unit is the cell of the one-outlet statement, about the cells of p's basin and for its label as
  -- leading digits
  pub outlet : (p : ℕ) → Inside S p
      → OneOutlet (next S.grid) (OfBasin S basins (basin_at basins p)) (digits_at labels) (digits_at labels p)
  -- different labels in one basin: water from q passes it exactly if the digit rule is met
  pub rule : (p q : ℕ) (i : Inside S p) → Inside S q → basin_at basins p ≡ basin_at basins q
      → label_at labels p ≢ label_at labels q
      → Passes (next S.grid) q (outlet p i).cell ↔ MeetsRule (digits_at labels p) (digits_at labels q)
  -- different units: exactly if the question says Yes, and it does not pass it exactly if the question says No
  pub yes : (p q : ℕ) (i : Inside S p) → Inside S q → unit_at basins labels p ≢ unit_at basins labels q
      → Passes (next S.grid) q (outlet p i).cell ↔ (outlet_asked S basins labels p q ≡ OutletYes)
  pub no : (p q : ℕ) (i : Inside S p) → Inside S q → unit_at basins labels p ≢ unit_at basins labels q
      → (¬ Passes (next S.grid) q (outlet p i).cell) ↔ (outlet_asked S basins labels p q ≡ OutletNo)
  -- exactly for the same unit the question says Same; water from q then passes the outlet
  pub same : (p q : ℕ) → Inside S p → Inside S q
      → (unit_at basins labels p ≡ unit_at basins labels q) ↔ (outlet_asked S basins labels p q ≡ OutletSame)
  pub same_passes : (p q : ℕ) (i : Inside S p) → Inside S q → unit_at basins labels p ≡ unit_at basins labels q
      → Passes (next S.grid) q (outlet p i).cell
  -- no two units of the sheet are refused
  pub never_refused : (p q : ℕ) → Inside S p → Inside S q → (number : ℕ)
      → ¬ (outlet_asked S basins labels p q ≡ OutletRefused number)

-- how an answer f to the flow question and an answer o to the outlet question agree
pub record AnswersAgree (f : Flow) (o : OutletFlow) : Type 0 where
  pub yes : f ≡ Yes → o ≡ OutletYes
  pub undecided : f ≡ Undecided → o ≡ OutletYes
  pub no : (f ≡ No) ↔ (o ≡ OutletNo)
  pub same : (f ≡ Same) ↔ (o ≡ OutletSame)
  pub refused : (number : ℕ) → (f ≡ Refused number) ↔ (o ≡ OutletRefused number)
  -- their numbers are the same but for that of Undecided, which becomes that of Yes
  pub numbers : outlet_answer_number o ≡ cond (eqb (answer_number f) (answer_number Undecided)) (answer_number Yes)
      (answer_number f)
  pub never_undecided : outlet_answer_number o ≢ answer_number Undecided

-- the two questions agree, asked of any records, where least fits
abbrev pub QuestionsAgree : Type 0
QuestionsAgree =
    (depth least : ℕ) (p q : UnitName) → least_fits least ≡ true
    → AnswersAgree (flow depth least p q) (outlet_flow depth p q)
