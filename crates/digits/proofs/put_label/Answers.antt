-- `put_label` meets its contract: the second number's digits stand last, the first number's before them, and the label
-- is judged by how many each has.
use native.Mathlib.Omega.{arith}
use mathlib.Core.Path.{refl, sym, ◌∙◌}
use Rattle.digits.proofs.LabelPlaces.{rest_put, rest_refused, first_refused, rest_room, both_put}
use Rattle.digits.proofs.LabelPlaces.{counts_short, counts_refused, counts_accepted, first_counted}
use Rattle.digits.proofs.put_label.Goals as goal

pub returns-in_err-rest : goal.returns-in_err-rest
returns-in_err-rest c =
    let none = sym c.put_number.ensures.start ∙ c.in_err-rest.was in
    let a = c.args in record {
      start = c.from_residual.ensures ∙ rest_refused a.label _ _ none;
      places = rest_put a.label a.out.now _ none c.put_number.ensures.places;
    }

pub put_number-requires-2 : goal.put_number-requires-2
put_number-requires-2 c =
    let room = rest_room c.args.label _ _ c.requires (sym c.put_number.ensures.start ∙ c.in_ok-rest.was) (omega arith) in
    (room.0, omega (arith, room.1))

pub returns-in_err-first : goal.returns-in_err-first
returns-in_err-first c = record {
  start = c.from_residual-in_err-first.ensures
      ∙ first_refused c.args.label _ _ _ (sym c.put_number-2.ensures.start ∙ c.in_err-first.was);
  places = both_put c.args.label _ _ c.requires (sym c.put_number.ensures.start ∙ c.in_ok-rest.was) (omega arith)
      c.args.out.now _ _ refl c.put_number.ensures.places c.put_number-2.ensures.places;
}

pub overflow_sub-rest : goal.overflow_sub-rest
overflow_sub-rest c =
    omega (
      arith,
      first_counted c.args.label _ _ c.requires (sym c.put_number.ensures.start ∙ c.in_ok-rest.was) (omega arith)
          _ (sym c.put_number-2.ensures.start ∙ c.in_ok-first.was),
    )

pub overflow_sub-places : goal.overflow_sub-places
overflow_sub-places c =
    (rest_room c.args.label _ _ c.requires (sym c.put_number.ensures.start ∙ c.in_ok-rest.was) (omega arith)).1

pub counts_fit-requires : goal.counts_fit-requires
counts_fit-requires c =
    counts_short c.args.label _ _ c.requires (sym c.put_number.ensures.start ∙ c.in_ok-rest.was) (omega arith)
    _ (sym c.put_number-2.ensures.start ∙ c.in_ok-first.was)

pub returns-then-not-counts_fit : goal.returns-then-not-counts_fit
returns-then-not-counts_fit c =
    let rest = sym c.put_number.ensures.start ∙ c.in_ok-rest.was in
    let unfit = sym c.counts_fit.ensures ∙ c.if-not-counts_fit.true in record {
      start = counts_refused c.args.label _ _ c.requires rest (omega arith)
          _ (sym c.put_number-2.ensures.start ∙ c.in_ok-first.was) _ unfit;
      places = both_put c.args.label _ _ c.requires rest (omega arith)
          c.args.out.now _ _ refl c.put_number.ensures.places c.put_number-2.ensures.places;
    }

pub returns : goal.returns
returns c =
    let rest = sym c.put_number.ensures.start ∙ c.in_ok-rest.was in
    let fits = sym c.counts_fit.ensures ∙ c.if-not-counts_fit.false in record {
      start = counts_accepted c.args.label _ _ c.requires rest (omega arith)
          _ (sym c.put_number-2.ensures.start ∙ c.in_ok-first.was) _ fits;
      places = both_put c.args.label _ _ c.requires rest (omega arith)
          c.args.out.now _ _ refl c.put_number.ensures.places c.put_number-2.ensures.places;
    }
