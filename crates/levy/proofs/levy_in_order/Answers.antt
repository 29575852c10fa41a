-- `levy_in_order` meets its contract: by the outcome of labelling.
use mathlib.Core.Path.{refl}
use Rattle.std.proofs.lemmas.Result.{err_from_is_err_and}
use Rattle.levy.proofs.Steps.{not_labelled}
use Rattle.levy.proofs.levy_in_order.Goals as goal

pub levy_accepted-requires : goal.levy_accepted-requires
levy_accepted-requires c = record {
  outcome_value = c.in_ok-found.was;
  levy_in_order = c.requires c.in_ok-found.was;
}

pub returns : goal.returns
returns c = c.levy_accepted.ensures

pub returns-in_err-found : goal.returns-in_err-found
returns-in_err-found c =
    let p = err_from_is_err_and c.from_residual.result c.from_residual.ensures.1 in
    rw (p.1, p.2) (not_labelled _ _ _ _ _ _ _ _ _ c.in_err-found.was)
