-- `levy_fitting` meets its contract: each step hands the next what it asks.
use mathlib.Core.Path.{ap, ◌∙◌}
use Prim.Native.Nat.{ℕ}
use native.Mathlib.Omega.{arith}
use lib.ListN.{replicate}
use Rattle.sheet.specs.Sheet.{Sheet}
use Rattle.sheet.specs.Record.{label_places}
use Rattle.sheet.specs.Refusal.{Lent}
use Rattle.sheet.proofs.Cells.{cells_most}
use Rattle.intake.specs.Intake.{lent_sheet}
use Rattle.labelling.specs.FromIntake.{sheet_of}
use Rattle.labelling.specs.Labelling.{lent}
use Rattle.levy.proofs.Steps.{Lengths, in_order_levy, levied_fitting}
use Rattle.levy.proofs.levy_fitting.Goals as goal
use Rattle.levy.proofs.levy_fitting.Goals.{After-label_in_order-found}

abbrev S : After-label_in_order-found → Sheet
S c =
    let a = c.args in sheet_of a.sizes (lent_sheet a.dirs.now a.weights.now)

-- what the slices hold after labelling
abbrev L' : After-label_in_order-found → Lent
L' c =
    let h = c.label_in_order-found.new in
    lent h.areas h.labels h.basins h.work

long : (c : After-label_in_order-found) → Lengths (S c) (L' c)
long c =
    let k = c.label_in_order-found.auto in
    let p = c.requires.fitting in
    record {
      areas = omega (arith, k.areas, p.areas);
      labels = omega (arith, ap label_places k.labels, p.labels);
      basins = omega (arith, k.basins, p.basins);
      work = k.work ∙ p.work;
    }

pub overflow_mul-sizes : goal.overflow_mul-sizes
overflow_mul-sizes c =
    let p = c.requires.fitting in
    omega (arith, cells_most p.sized.rows_most p.sized.cols_most)

pub levy_in_order-answer-requires : goal.levy_in_order-answer-requires
levy_in_order-answer-requires c =
    λ e.
    in_order_levy _ _ c.requires.work_value c.requires.fitting c.label_in_order-found.ensures (long (goal.at.levy_in_order-answer-requires c).After-label_in_order-found) _ _ e c.requires.total_le_greatest_total _

pub returns : goal.returns
returns c =
    levied_fitting _ _ c.requires.work_value c.requires.fitting c.label_in_order-found.ensures (long (goal.at.returns c).After-label_in_order-found) _ _ c.levy_in_order-answer.ensures
    (c.clear_places.ensures ∙ ap (λ (k : ℕ). replicate k 0) (long (goal.at.returns c).After-label_in_order-found).work)
