-- `areas` meets its contract.
use mathlib.Core.Path.{◌≡◌, sym, ◌∙◌}
use Prim.Native.Nat.{◌*◌}
use Rattle.sheet.proofs.Cells.{cells_most, row_lt}
use Rattle.sheet.proofs.Weights.{fits_at, weight_bounds}
use Rattle.sheet.specs.Area.{row_weight}
use Rattle.drainage.specs.Total.{own_values}
use Rattle.drainage.proofs.Lists.{filled, filled_written}
use Rattle.drainage.proofs.Measures.{areas_written, own_gathers}
use Rattle.drainage.proofs.measure.areas.Goals as goal
use Rattle.drainage.proofs.measure.areas.Goals.{After-own_weights}

-- the own weights
own : (c : After-own_weights)
    → let a =
    c.args in c.own_weights.new.totals ≡ filled
    (own_values a.grid.dirs.now (row_weight a.grid.cols a.weights.now)) (a.grid.rows * a.grid.cols) a.areas.now
own c = c.own_weights.ensures ∙ sym (filled_written _ _ _)

pub gather-requires : goal.gather-requires
gather-requires c =
    let p = c.requires in
    let a = c.args in
    rw (own (goal.at.gather-requires c).After-own_weights)
    (own_gathers p.1 (row_weight a.grid.cols a.weights.now) _
    (λ q l. (weight_bounds _ (fits_at a.grid.rows a.weights.now p.2.fit _ (row_lt p.0.cols_some l))).1)
    (cells_most p.0.rows_most p.0.cols_most) p.3)

pub returns : goal.returns
returns c = λ S e w.
    (rw (own (goal.at.returns c).After-own_weights) at c.gather.ensures)
    ∙ areas_written c.requires.1 c.args.weights.now _ S e w
