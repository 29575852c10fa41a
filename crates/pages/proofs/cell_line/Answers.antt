-- `cell_line` meets its contract: the texts of the values are set into their fields one after the other.
use native.Mathlib.Omega.{arith}
use Rattle.pages.specs.Line.{Texts, texts_of, value_texts}
use Rattle.pages.proofs.Fields.{Fit, fit_of, fields_set}
use Rattle.pages.proofs.cell_line.Goals as goal
use Rattle.pages.proofs.cell_line.Goals.{Start}

-- the texts of the values, which fit their fields
abbrev columns : Start → Texts
columns c = texts_of c.args.values

fit : (c : Start) → Fit (columns c)
fit c = fit_of (columns c) c.requires

pub set_right-requires : goal.set_right-requires
unfolding value_texts
set_right-requires c = ((fit (goal.at.set_right-requires c).Start).basin, omega arith)

pub set_right-requires-2 : goal.set_right-requires-2
unfolding value_texts
set_right-requires-2 c =
    (omega (arith, (fit (goal.at.set_right-requires-2 c).Start).row), omega (arith, c.set_right.auto.line))

pub set_right-requires-3 : goal.set_right-requires-3
unfolding value_texts
set_right-requires-3 c = (
  omega (arith, (fit (goal.at.set_right-requires-3 c).Start).col),
  omega (arith, c.set_right-2.auto.line, c.set_right.auto.line),
)

pub set_right-requires-4 : goal.set_right-requires-4
unfolding value_texts
set_right-requires-4 c = (
  omega (arith, (fit (goal.at.set_right-requires-4 c).Start).area),
  omega (arith, c.set_right-3.auto.line, c.set_right-2.auto.line, c.set_right.auto.line),
)

pub put_label-requires : goal.put_label-requires
unfolding value_texts
put_label-requires c =
    omega (
      arith,
      (fit (goal.at.put_label-requires c).Start).label,
      c.set_right-4.auto.line,
      c.set_right-3.auto.line,
      c.set_right-2.auto.line,
      c.set_right.auto.line,
    )

pub returns : goal.returns
unfolding value_texts
returns c =
    fields_set (columns (goal.at.returns c).Start) (fit (goal.at.returns c).Start) c.set_right.ensures c.set_right-2.ensures c.set_right-3.ensures
    c.set_right-4.ensures c.put_label.ensures.after_is
