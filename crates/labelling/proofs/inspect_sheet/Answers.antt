-- `inspect_sheet` meets its contract: by whether the weights fit.
use mathlib.Core.Path.{sym, ◌∙◌}
use Rattle.labelling.specs.Labelling.{sheet}
use Rattle.labelling.proofs.Steps.{inspected, refused_17}
use Rattle.labelling.proofs.inspect_sheet.Goals as goal

pub returns-then-weights_fit : goal.returns-then-weights_fit
returns-then-weights_fit c = λ depth least split.
    inspected (sheet _ _ depth least split _ _) (sym c.weights_fit.ensures
    ∙ c.if-weights_fit.true)
    c.inspect.ensures

pub returns : goal.returns
returns c = λ depth least split. rw c.numbered.ensures
    (refused_17 (sheet _ _ depth least split _ _) (sym c.weights_fit.ensures ∙ c.if-weights_fit.false))
