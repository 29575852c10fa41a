-- `lines::values::field_value` meets its contract.
use Rattle.std.proofs.Common.{sym, ◌∙◌}
use Rattle.lines.proofs.ValuesLaws.{field_none, field_whole, field_more}
use Rattle.lines.proofs.values.field_value.Goals as goal

pub returns-in_err-value : goal.returns-in_err-value
returns-in_err-value c =
    c.from_residual.ensures ∙ sym (field_none _ _ (sym c.read_value.ensures.value ∙ c.in_err-value.was))

pub returns-then-end-field : goal.returns-then-end-field
returns-then-end-field c =
    sym (field_whole _ _ (sym c.read_value.ensures.value ∙ c.in_ok-value.was) c.if-end-field.true)

pub returns-else-end-field : goal.returns-else-end-field
returns-else-end-field c =
    sym (field_more _ _ (sym c.read_value.ensures.value ∙ c.in_ok-value.was) c.if-end-field.false)
