-- `lines::columns::column_digits` meets its contract.
use Rattle.std.proofs.Common.{Some, refl, sym, ◌∙◌}
use Rattle.lines.specs.declared.columns.Column.TheVariants.{Least}
use Rattle.lines.specs.Columns.{column_digits}
use Rattle.lines.proofs.ColumnLaws.{equal_is}
use Rattle.lines.proofs.columns.column_digits.Goals as goal

pub returns-then-eq : goal.returns-then-eq
unfolding column_digits
returns-then-eq c = rw (sym (c.eq.ensures ∙ equal_is c.args.column (Some Least)) ∙ c.if-eq.true) refl

pub returns-else-eq : goal.returns-else-eq
unfolding column_digits
returns-else-eq c = rw (sym (c.eq.ensures ∙ equal_is c.args.column (Some Least)) ∙ c.if-eq.false) refl
