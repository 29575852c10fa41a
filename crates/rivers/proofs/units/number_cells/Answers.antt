-- `rivers::units::number_cells` meets its contract. Invariant: what is still to be numbered makes of the basins what
-- the whole makes of those at entry.
use mathlib.Core.Path.{sym, ◌∙◌}
use native.Mathlib.Omega.{arith}
use lib.ListN.{length-set}
use Rattle.rivers.proofs.Relabelled.{numbered_none, numbered_more}
use Rattle.rivers.proofs.units.number_cells.Goals as goal

pub loop-i-preserved : goal.loop-i-preserved
loop-i-preserved c =
    let on = c.requires.by_index c.loop-i.i (omega arith) in
    let same = c.loop-i.invariant.0 in (
      simp length-set same,
      numbered_more _ _ _ _ _ c.loop-i-test.true (omega (arith, on, same)) ∙ c.loop-i.invariant.1,
    )

pub returns : goal.returns
returns c = sym (numbered_none _ _ _ _ _ c.loop-i-test.false) ∙ c.loop-i.invariant.1
