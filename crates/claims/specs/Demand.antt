-- The third demand, about any labels: where water goes, which cells it is about (`inside`: of a sheet, the inside cells
-- of one basin), the depth, the least area of a mouth that is counted, each cell's label and its digits.
use Rattle.std.specs.Prelude.{◌≡◌, true, List, ◌≢◌, ◌↔◌, ℕ, ◌<◌, length, get_or}
use Rattle.sheet.specs.Sheet.{Sheet, inside, next}
use Rattle.sheet.specs.Water.{Passes, DrainsTo}
use Rattle.sheet.specs.Record.{digits_of, label_at}
use Rattle.claims.specs.Parting.{PartAt, RuleAt, Begins}
use Rattle.sheet.specs.Answer.{Next}

-- an inside cell that has the leading digits w
pub record Shares (inside : ℕ → Type 0) (digits : ℕ → List ℕ) (w : List ℕ) (c : ℕ) : Type 0 where
  pub is_inside_lem : inside c
  pub begins : Begins w (digits c)

-- exactly one of the cells with the leading digits w is such that they drain, through each other, to it
pub record OneOutlet (next : ℕ → Next) (inside : ℕ → Type 0) (digits : ℕ → List ℕ) (w : List ℕ) : Type 0 where
  pub cell : ℕ
  pub drains : DrainsTo next (Shares inside digits w) cell
  pub only : (c : ℕ) → DrainsTo next (Shares inside digits w) c → c ≡ cell

-- least is 1, so that every mouth is counted: no area is smaller
abbrev pub AllCounted : ℕ → Type 0
AllCounted least = least ≡ 1

-- demand 3, both halves
pub record DemandThree (next : ℕ → Next) (inside : ℕ → Type 0) (depth least : ℕ) {Label : Type 0} (label : ℕ → Label)
    (digits : ℕ → List ℕ) : Type 0 where
  -- every two different labels of inside cells part
  pub labels_part : (p q : ℕ) → inside p → inside q → label p ≢ label q → (i : ℕ) × PartAt (digits p) (digits q) i
  -- water from q that passes p meets the rule: where their labels part, p's digit is smaller and p's digits from there
  -- on are all odd
  pub passed_meets : (p q : ℕ) → inside p → inside q → (i : ℕ) → PartAt (digits p) (digits q) i
      → Passes next q p → RuleAt (digits p) (digits q) i
  -- where least is 1, it passes p exactly if the rule is met; for a label of p that has fewer digits than the depth
  pub cell_rule : AllCounted least → (p q : ℕ) → inside p → inside q → length (digits p) < depth
      → (i : ℕ) → PartAt (digits p) (digits q) i → Passes next q p ↔ RuleAt (digits p) (digits q) i
  -- the cells that share leading digits drain, through cells that share them, to exactly one of them
  pub one_outlet : (w : List ℕ) (c : ℕ) → Shares inside digits w c → OneOutlet next inside digits w

-- the outlet rule, from which OutletFlowMeaning (Flow.antt) is drawn: water from q passes the outlet of the unit that
-- p's label names, exactly under the digit rule, at any depth
pub record OutletRule (next : ℕ → Next) (inside : ℕ → Type 0) (digits : ℕ → List ℕ) : Type 0 where
  pub rule : (p q : ℕ) → inside p → inside q → (o : ℕ) → DrainsTo next (Shares inside digits (digits p)) o
      → (i : ℕ) → PartAt (digits p) (digits q) i → Passes next q o ↔ RuleAt (digits p) (digits q) i

-- an inside cell of a sheet
abbrev pub Inside : Sheet → ℕ → Type 0
Inside S c = inside S.grid c ≡ true

-- the digits of the label that stands for a cell in a slice of labels
abbrev pub digits_at : List ℕ → ℕ → List ℕ
digits_at labels c = digits_of (label_at labels c)

-- the basin that stands for a cell in a slice of basins
abbrev pub basin_at : List ℕ → ℕ → ℕ
basin_at basins c = get_or basins c 0

-- an inside cell of a basin, by the basins that were written
pub record OfBasin (S : Sheet) (basins : List ℕ) (basin c : ℕ) : Type 0 where
  pub is_inside_lem : Inside S c
  pub numbered : basin_at basins c ≡ basin

-- demand 3 about a sheet and the basins and labels that were written for it
pub record DemandThreeOf (S : Sheet) (basins labels : List ℕ) : Type 0 where
  -- about the cells of one basin
  pub within : (basin : ℕ) → DemandThree (next S.grid) (OfBasin S basins basin) S.depth S.least
      (label_at labels) (digits_at labels)
  -- across basins no water passes
  pub across : (p q : ℕ) → Inside S p → Inside S q → basin_at basins p ≢ basin_at basins q
      → ¬ Passes (next S.grid) q p

-- the outlet rule, about the cells of one basin
abbrev pub OutletRuleOf : Sheet → List ℕ → List ℕ → Type 0
OutletRuleOf S basins labels =
    (basin : ℕ) → OutletRule (next S.grid) (OfBasin S basins basin) (digits_at labels)
