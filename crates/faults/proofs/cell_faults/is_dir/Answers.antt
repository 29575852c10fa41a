-- `is_dir` meets its contract.
use mathlib.Core.Path.{sym, ◌∙◌}
use borrow.Author.Tests.{le-ltb}
use Rattle.faults.proofs.FaultLaws.{code_none}
use Rattle.faults.proofs.cell_faults.is_dir.Goals as goal

pub returns-else-dir-lt256 : goal.returns-else-dir-lt256
returns-else-dir-lt256 c = le-ltb _ _ c.if-dir-lt256.false ∙ sym (code_none c.args.dir c.if-dir-lt256.false)
