-- `names::read_names` meets its contract.
use mathlib.Core.Path.{sym, ◌∙◌}
use native.Mathlib.Omega.{arith}
use Rattle.names.proofs.NamesLaws.{names_long, names_bad, names_expected, names_unexpected}
use Rattle.names.proofs.read_names.Goals as goal

pub returns-then-line-gt-LINE_BYTES : goal.returns-then-line-gt-LINE_BYTES
returns-then-line-gt-LINE_BYTES c = sym (names_long _ _ (omega arith))

pub returns-in_err-columns : goal.returns-in_err-columns
returns-in_err-columns c =
    c.from_residual.ensures ∙ sym (names_bad _ _ (omega arith) (sym c.columns_in.ensures ∙ c.in_err-columns.was))

pub returns-then-same_columns : goal.returns-then-same_columns
returns-then-same_columns c =
    let named = sym
    c.columns_in.ensures ∙ c.in_ok-columns.was in
    sym (names_expected _ _ (omega arith) named (sym c.same_columns.ensures ∙ c.if-same_columns.true))

pub returns-else-same_columns : goal.returns-else-same_columns
returns-else-same_columns c =
    let named = sym
    c.columns_in.ensures ∙ c.in_ok-columns.was in
    sym (names_unexpected _ _ (omega arith) named (sym c.same_columns.ensures ∙ c.if-same_columns.false))
