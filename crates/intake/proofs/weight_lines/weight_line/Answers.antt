-- `weight_line` meets its contract.
use mathlib.Core.Path.{◌≡◌, sym, ◌∙◌}
use mathlib.Core.List.{List}
use Prim.Native.Nat.{ℕ}
use Rattle.lines.specs.declared.columns.Columns.{Columns}
use Rattle.lines.specs.Values.{ValuesLine}
use Rattle.lines.specs.Values.{values_line}
use Rattle.names.specs.Columns.{weight_columns}
use Rattle.intake.specs.Intake.{on_weight}
use Rattle.intake.proofs.weight_lines.weight_line.Goals as goal

-- what the line is, read with the weights' columns
read : (line : List ℕ) {given : Columns} {found answer : ValuesLine} → given ≡ weight_columns
    → found ≡ values_line given line → found ≡ answer → values_line weight_columns line ≡ answer
read line is e f = sym (rw is at e) ∙ f

pub returns-in_default : goal.returns-in_default
unfolding on_weight
returns-in_default c =
    λ dirs. simp (
      read _ c.weight_columns.ensures c.read_values.ensures.line c.in_default.is,
      c.refused.ensures,
    )

pub returns : goal.returns
returns c =
    λ dirs. simp (
      read _ c.weight_columns.ensures c.read_values.ensures.line c.in-Some.is,
      c.take_weight.ensures dirs,
    )
