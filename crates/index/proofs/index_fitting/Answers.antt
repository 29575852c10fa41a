-- `index_fitting` meets its contract: each step hands the next what it asks.
use mathlib.Core.Path.{ap, ◌∙◌}
use Prim.Native.Nat.{ℕ}
use lib.ListN.{replicate}
use native.Mathlib.Omega.{arith}
use Rattle.sheet.specs.Record.{label_places}
use Rattle.sheet.proofs.Cells.{cells_most}
use Rattle.index.proofs.Steps.{in_order_lem, indexed_fitting}
use Rattle.index.proofs.index_fitting.Goals as goal

pub index_in_order-answer-requires : goal.index_in_order-answer-requires
index_in_order-answer-requires c =
    let p = c.requires.fitting in λ e.
    in_order_lem (cells_most p.sized.rows_most p.sized.cols_most)
    (c.label_in_order-found.auto.work ∙ p.work)
    (omega (arith, ap label_places c.label_in_order-found.auto.labels, p.labels))
    (omega (arith, c.label_in_order-found.auto.basins, p.basins)) (c.label_in_order-found.ensures.order e)

pub returns : goal.returns
returns c =
    indexed_fitting _ _ c.requires.work_value c.label_in_order-found.ensures _ c.index_in_order-answer.ensures.answer c.index_in_order-answer.ensures.index
    (c.clear_places.ensures ∙
    ap (λ (k : ℕ). replicate k 0) (c.label_in_order-found.auto.work ∙ c.requires.fitting.work))
