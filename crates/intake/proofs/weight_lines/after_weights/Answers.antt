-- `after_weights` meets its contract.
use borrow.Author.Tests.{lt-ltb, le-ltb}
use Rattle.intake.specs.Intake.{after_weights}
use Rattle.intake.proofs.weight_lines.after_weights.Goals as goal

pub returns-then-count-sizes : goal.returns-then-count-sizes
unfolding after_weights
returns-then-count-sizes c = simp (lt-ltb _ _ c.if-count-sizes.true)

pub returns : goal.returns
unfolding after_weights
returns c = simp (le-ltb _ _ c.if-count-sizes.false)
