-- `answer_pairs` meets its contract: the numbers still to write, written to the present places, give what the whole
-- gives.
use native.Mathlib.Omega.{arith}
use mathlib.Core.Path.{◌≡◌, ap, ◌∙◌}
use mathlib.Core.List.{List}
use Prim.Native.Nat.{◌<◌}
use lib.ListN.{length, get_or}
use Rattle.sheet.specs.declared.UnitName.{UnitName}
use Rattle.sheet.specs.Record.{labels_in, label_places, units_in}
use Rattle.sheet.specs.Flow.{flow, answer_number}
use Rattle.flow.proofs.Answers.{number_byte}
use Rattle.flow.specs.Pairs.{pair_count}
use Rattle.flow.proofs.PairNumbers.{no_unit, count_p, count_q, SlicesFit, slices_fit_lem, units_counted, unit_at_lem}
use Rattle.flow.proofs.PairNumbers.{answering_starts, answering_goes_on, answering_ends}
use Rattle.flow.proofs.pairs.answer_pairs.Goals as goal
use Rattle.flow.proofs.pairs.answer_pairs.Goals.{After-answer_number, In-loop-i, Start}

-- the units of P and of Q
abbrev units_of_p : Start → List UnitName
units_of_p c = units_in c.args.p_basins.now (labels_in c.args.p.now)

-- the units of P and of Q
abbrev units_of_p-After-answer_number : After-answer_number → List UnitName
units_of_p-After-answer_number c = units_in c.args.p_basins.now (labels_in c.args.p.now)

abbrev units_of_q : Start → List UnitName
units_of_q c = units_in c.args.q_basins.now (labels_in c.args.q.now)

abbrev units_of_q-After-answer_number : After-answer_number → List UnitName
units_of_q-After-answer_number c = units_in c.args.q_basins.now (labels_in c.args.q.now)

-- what the tests before the call showed
fit : (c : Start)
    → SlicesFit c.args.count (length c.args.p_basins.now) (length c.args.q_basins.now)
    (length c.args.answers.now)
fit c = slices_fit_lem _ _ _ _ c.requires.answers_value

-- what the tests before the call showed
fit-In-loop-i : (c : In-loop-i)
    → SlicesFit c.args.count (length c.args.p_basins.now) (length c.args.q_basins.now)
    (length c.args.answers.now)
fit-In-loop-i c = slices_fit_lem _ _ _ _ c.requires.answers_value

-- what the tests before the call showed
fit-After-answer_number : (c : After-answer_number)
    → SlicesFit c.args.count (length c.args.p_basins.now) (length c.args.q_basins.now)
    (length c.args.answers.now)
fit-After-answer_number c = slices_fit_lem _ _ _ _ c.requires.answers_value

-- the count of pairs
counted : (c : Start) → c.args.count ≡ pair_count (length (units_of_p c)) (length (units_of_q c))
counted c = units_counted _ _ _ _ _ c.requires.count_value (fit c).of_p (fit c).of_q

-- each pair has two labels
p-place : (c : In-loop-i) → c.loop-i.i < label_places (length c.args.p.now)
p-place c =
    omega (
      arith,
      c.requires.count_value,
      count_p (label_places (length c.args.p.now)) (label_places (length c.args.q.now)),
    )

-- each pair has two labels
p-place-After-answer_number : (c : After-answer_number) → c.loop-i.i < label_places (length c.args.p.now)
p-place-After-answer_number c =
    omega (
      arith,
      c.requires.count_value,
      count_p (label_places (length c.args.p.now)) (label_places (length c.args.q.now)),
    )

q-place : (c : In-loop-i) → c.loop-i.i < label_places (length c.args.q.now)
q-place c =
    omega (
      arith,
      c.requires.count_value,
      count_q (label_places (length c.args.p.now)) (label_places (length c.args.q.now)),
    )

q-place-After-answer_number : (c : After-answer_number) → c.loop-i.i < label_places (length c.args.q.now)
q-place-After-answer_number c =
    omega (
      arith,
      c.requires.count_value,
      count_q (label_places (length c.args.p.now)) (label_places (length c.args.q.now)),
    )

-- and two basins
p-basin : (c : In-loop-i) → c.loop-i.i < length c.args.p_basins.now
p-basin c = omega (arith, (fit-In-loop-i c).of_p)

-- and two basins
p-basin-After-answer_number : (c : After-answer_number) → c.loop-i.i < length c.args.p_basins.now
p-basin-After-answer_number c = omega (arith, (fit-After-answer_number c).of_p)

q-basin : (c : In-loop-i) → c.loop-i.i < length c.args.q_basins.now
q-basin c = omega (arith, (fit-In-loop-i c).of_q)

q-basin-After-answer_number : (c : After-answer_number) → c.loop-i.i < length c.args.q_basins.now
q-basin-After-answer_number c = omega (arith, (fit-After-answer_number c).of_q)

pub loop-i-init : goal.loop-i-init
loop-i-init c =
    answering_starts _ _ _ _ _ (omega (arith, counted (goal.at.loop-i-init c).Start, (fit (goal.at.loop-i-init c).Start).of_answers))

pub unit_at-of_p-requires : goal.unit_at-of_p-requires
unit_at-of_p-requires c = record {
  place_in_bounds = p-basin c;
  place_bound = p-place c;
}

pub unit_at-of_q-requires : goal.unit_at-of_q-requires
unit_at-of_q-requires c = record {
  place_in_bounds = q-basin (goal.at.unit_at-of_q-requires c).In-loop-i;
  place_bound = q-place (goal.at.unit_at-of_q-requires c).In-loop-i;
}

pub answer_fitting-answer-requires : goal.answer_fitting-answer-requires
answer_fitting-answer-requires c = c.requires.depth_value

-- the number of the pair's answer
answered : (c : After-answer_number)
    → let i = c.loop-i.i in
    c.answer_number.result
    ≡ answer_number (flow c.args.depth c.args.least (get_or (units_of_p-After-answer_number c) i no_unit) (get_or (units_of_q-After-answer_number c) i no_unit))
answered c =
    let a = c.args in
    let p = c.unit_at-of_p in
    let q = c.unit_at-of_q in
    let of_p = p.ensures ∙ unit_at_lem _ _ c.loop-i.i (p-basin-After-answer_number c) (p-place-After-answer_number c) in
    let of_q = q.ensures ∙ unit_at_lem _ _ c.loop-i.i (q-basin-After-answer_number c) (q-place-After-answer_number c) in
    c.answer_number.ensures
    ∙ ap answer_number (c.answer_fitting-answer.ensures
    ∙ ap (λ (unit : UnitName). flow a.depth a.least unit q.result) of_p
    ∙ ap (flow a.depth a.least (get_or (units_of_p-After-answer_number c) c.loop-i.i no_unit)) of_q)

pub overflow_cast-answers : goal.overflow_cast-answers
overflow_cast-answers c = omega (arith, number_byte _ _ _ _ _ (answered c))

pub bounds-answers-i : goal.bounds-answers-i
bounds-answers-i c = omega (arith, (fit (goal.at.bounds-answers-i c).Start).of_answers, c.loop-i.invariant.same_length)

pub loop-i-preserved : goal.loop-i-preserved
loop-i-preserved c =
    answering_goes_on _ _ _ _ _ c.loop-i.invariant _ (omega (arith, counted (goal.at.loop-i-preserved c).Start)) (answered c)

pub shape_of-answers : goal.shape_of-answers
shape_of-answers c = c.loop-i.invariant.same_length

pub returns : goal.returns
returns c =
    answering_ends _ _ _ _ _ c.loop-i.invariant (omega (arith, counted (goal.at.returns c).Start))
