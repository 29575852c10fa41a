-- `lines::values::values_in` meets its contract. The invariant: the values from the present place on, read into the
-- present values, are the values of the line.
use Rattle.std.proofs.Common.{rules, tests, ◌≡◌, ◌+◌, ◌≤◌, ◌∷◌, length, length-append, drop, sym, ap, ◌∙◌, arith, eqb}
use Rattle.std.proofs.lemmas.Iterator.Consumers.{YieldsList-turn, YieldsList-end}
use Rattle.std.proofs.lemmas.Iterator.Splits.{YieldsList-from_slice_split}
use Rattle.decimal.specs.Ascii.{comma}
use Rattle.lines.specs.Fields.{fields}
use Rattle.lines.specs.Columns.{column_at, column_digits}
use Rattle.lines.specs.Values.{field_value, with_value}
use Rattle.lines.proofs.FieldLaws.{fields_split, field_and_later}
use Rattle.lines.proofs.ValuesLaws.{values_done, values_short, values_other, values_value}
use Rattle.lines.proofs.values.values_in.Goals as goal
use Rattle.lines.proofs.values.values_in.Goals.{In-Some, In-None, After-field_value}

-- the field of a turn is the one at its place
field : (c : In-Some)
    → drop c.loop-field.place (fields c.args.line.now)
    ≡ c.in-Some.field.now ∷ drop (c.loop-field.place + 1) (fields c.args.line.now)
field c =
    let turn = YieldsList-turn
    (YieldsList-from_slice_split {s = c.into_iter-field-iterator.result} _ (λ b. eqb b comma) c.args.line.now
    (search rules) (search rules) (search rules) (λ x b q k. search (rules, tests)))
    c.loop-field.yielded c.loop-field.field-iterator c.loop-field.yielded_by c.next.result c.next.new.self
    c.in-Some.field c.in-Some.is c.next.ensures.steps in
    let is = fields_split c.args.line.now in
    let place = c.loop-field.invariant.1 in
    field_and_later (fields c.args.line.now) c.loop-field.place (omega (arith, turn.0, place, ap length is))
    (rw (is, place) turn.1)

-- after the last turn no field is left
end : (c : In-None) → length (fields c.args.line.now) ≤ c.loop-field.place
end c =
    let last = YieldsList-end
    (YieldsList-from_slice_split {s = c.into_iter-field-iterator.result} _ (λ b. eqb b comma) c.args.line.now
    (search rules) (search rules) (search rules) (λ x b q k. search (rules, tests)))
    c.loop-field.yielded c.loop-field.field-iterator c.loop-field.yielded_by c.next.result c.next.new.self
    c.in-None.is c.next.ensures.steps in
    omega (arith, last.1, c.loop-field.invariant.1, ap length (fields_split c.args.line.now))

-- the digits allowed are those of the column at the place
value : (c : After-field_value)
    → c.field_value.result ≡ field_value (column_digits (column_at c.args.columns c.loop-field.place)) c.in-Some.field.now
value c =
    let most = c.column_digits-most.ensures ∙ ap column_digits c.column_at.ensures in
    c.field_value.ensures ∙ ap (λ n. field_value n c.in-Some.field.now) most

pub returns-in_err-value : goal.returns-in_err-value
returns-in_err-value c =
    let other = sym (value (goal.at.returns-in_err-value c).After-field_value) ∙ c.in_err-value.was in
    let there = field (goal.at.returns-in_err-value c).In-Some in
    c.from_residual.ensures ∙ sym (rw there (values_other _ _ c.loop-field.values _ _ other)) ∙ c.loop-field.invariant.0

pub loop-field-preserved : goal.loop-field-preserved
unfolding with_value
loop-field-preserved c =
    let found = sym (value (goal.at.loop-field-preserved c).After-field_value) ∙ c.in_ok-value.was in
    let there = field (goal.at.loop-field-preserved c).In-Some in (
      rw c.set_value.ensures (sym (rw there (values_value _ _ c.loop-field.values _ _ found))) ∙ c.loop-field.invariant.0,
      grind (arith, c.loop-field.invariant.1, length-append),
    )

pub returns-then-place-count : goal.returns-then-place-count
returns-then-place-count c =
    let done = values_done c.args.columns c.loop-field.place c.loop-field.values (fields c.args.line.now)
    (end (goal.at.returns-then-place-count c).In-None) (omega (arith, c.if-place-count.true, c.column_count-count.ensures)) in
    sym done ∙ c.loop-field.invariant.0

pub returns-else-place-count : goal.returns-else-place-count
returns-else-place-count c =
    let short = values_short c.args.columns c.loop-field.place c.loop-field.values (fields c.args.line.now)
    (end (goal.at.returns-else-place-count c).In-None) (omega (arith, c.if-place-count.false, c.column_count-count.ensures)) in
    sym short ∙ c.loop-field.invariant.0
