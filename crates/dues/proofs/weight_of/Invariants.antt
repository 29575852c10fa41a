use Rattle.sheet.specs.Area.{row_weight}
use Rattle.dues.proofs.Sharing.{WeighedTo}
use Rattle.dues.proofs.weight_of.Given as goal

abbrev pub invariant-loop-cell : goal.invariant-loop-cell
invariant-loop-cell l = WeighedTo (row_weight l.cols l.weights) l.cells l.cell-index l.weight
