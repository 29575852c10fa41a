-- `names::columns_in` meets its contract. The invariant: the columns from the present place on, read into the present
-- columns, are the columns of the line.
use Rattle.std.proofs.Common.{rules, tests, ◌≡◌, ◌+◌, ◌≤◌, ◌∷◌, length, length-append, drop, sym, ap, ◌∙◌, arith, eqb}
use Rattle.std.proofs.lemmas.Iterator.Consumers.{YieldsList-turn, YieldsList-end}
use Rattle.std.proofs.lemmas.Iterator.Splits.{YieldsList-from_slice_split}
use Rattle.decimal.specs.Ascii.{comma}
use Rattle.names.specs.Columns.{with_column}
use Rattle.lines.specs.Fields.{fields}
use Rattle.lines.proofs.FieldLaws.{fields_split, field_and_later}
use Rattle.names.proofs.NamesLaws.{names_done, names_over, names_none, names_some}
use Rattle.names.proofs.columns_in.Goals as goal
use Rattle.names.proofs.columns_in.Goals.{In-Some, In-None}

-- the field of a turn is the one at its place
field : (c : In-Some)
    → drop c.loop-field.place (fields c.args.line.now)
    ≡ c.in-Some.field.now ∷ drop (c.loop-field.place + 1) (fields c.args.line.now)
field c =
    let turn = YieldsList-turn
    (YieldsList-from_slice_split {s = c.into_iter-field-iterator.result} _ (λ b. eqb b comma) c.args.line.now
    (search rules) (search rules) (search rules) (λ x b q k. search (rules, tests)))
    c.loop-field.yielded c.loop-field.field-iterator c.loop-field.yielded_by c.next.result c.next.new.self
    c.in-Some.field c.in-Some.is c.next.ensures.steps in
    let is = fields_split c.args.line.now in
    let place = c.loop-field.invariant.1 in
    field_and_later (fields c.args.line.now) c.loop-field.place (omega (arith, turn.0, place, ap length is))
    (rw (is, place) turn.1)

-- after the last turn no field is left
end : (c : In-None) → length (fields c.args.line.now) ≤ c.loop-field.place
end c =
    let last = YieldsList-end
    (YieldsList-from_slice_split {s = c.into_iter-field-iterator.result} _ (λ b. eqb b comma) c.args.line.now
    (search rules) (search rules) (search rules) (λ x b q k. search (rules, tests)))
    c.loop-field.yielded c.loop-field.field-iterator c.loop-field.yielded_by c.next.result c.next.new.self
    c.in-None.is c.next.ensures.steps in
    omega (arith, last.1, c.loop-field.invariant.1, ap length (fields_split c.args.line.now))

pub returns-in_err-column : goal.returns-in_err-column
returns-in_err-column c =
    let none = sym c.column_named.ensures ∙ c.in_err-column.was in
    let there = field (goal.at.returns-in_err-column c).In-Some in
    c.from_residual.ensures ∙ sym (rw there (names_none _ c.loop-field.columns _ _ none)) ∙ c.loop-field.invariant.0

pub loop-field-preserved : goal.loop-field-preserved
unfolding with_column
loop-field-preserved c =
    let named = sym c.column_named.ensures ∙ c.in_ok-column.was in
    let there = field (goal.at.loop-field-preserved c).In-Some in (
      rw c.with_place-columns.ensures (sym (rw there (names_some _ c.loop-field.columns _ _ named))) ∙ c.loop-field.invariant.0,
      grind (arith, c.loop-field.invariant.1, length-append),
    )

pub returns-then-place-le-MOST_COLUMNS : goal.returns-then-place-le-MOST_COLUMNS
returns-then-place-le-MOST_COLUMNS c =
    sym (names_done c.loop-field.place c.loop-field.columns (fields c.args.line.now)
    (end (goal.at.returns-then-place-le-MOST_COLUMNS c).In-None) c.if-place-le-MOST_COLUMNS.true)
    ∙ c.loop-field.invariant.0

pub returns-else-place-le-MOST_COLUMNS : goal.returns-else-place-le-MOST_COLUMNS
returns-else-place-le-MOST_COLUMNS c =
    sym (names_over c.loop-field.place c.loop-field.columns (fields c.args.line.now)
    (end (goal.at.returns-else-place-le-MOST_COLUMNS c).In-None) c.if-place-le-MOST_COLUMNS.false)
    ∙ c.loop-field.invariant.0
