-- `index_in_order` meets its contract: by the outcome of labelling.
use mathlib.Core.Path.{refl}
use Prim.Native.Nat.{◌*◌}
use Rattle.std.proofs.lemmas.Result.{err_from_is_err_and}
use Rattle.upstream.specs.Work.{cells_part}
use Rattle.labelling.proofs.Steps.{part_is}
use Rattle.index.specs.Index.{indexed_on}
use Rattle.index.specs.Steps.{InOrder}
use Rattle.index.proofs.index_in_order.Goals as goal
use Rattle.index.proofs.index_in_order.Goals.{In_ok-found}

-- what stands in the work places of an accepted sheet
stands : (c : In_ok-found) → InOrder c.args.n c.args.work.now
    c.args.labels.now c.args.basins.now c.args.found.queued
stands c = c.requires c.in_ok-found.was

pub returns : goal.returns
unfolding indexed_on
returns c =
    let a = c.args in
    let answered = rw (part_is (cells_part * a.n) a.found.queued) at c.write_units.ensures.answer in
    let indexed = rw (part_is (cells_part * a.n) a.found.queued) at c.write_units.ensures.index in
    record { answer = rw c.in_ok-found.was answered; index = indexed }

pub returns-in_err-found : goal.returns-in_err-found
unfolding indexed_on
returns-in_err-found c =
    let p = err_from_is_err_and c.from_residual.result c.from_residual.ensures.1 in
    record { answer = rw (p.1, p.2, c.in_err-found.was); index = rw p.1 }
