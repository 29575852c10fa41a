-- `sizes` meets its contract.
use mathlib.Core.Path.{◌≡◌, sym, ◌∙◌}
use Prim.Native.Nat.{◌*◌}
use native.Mathlib.Omega.{arith}
use Rattle.sheet.specs.Sheet.{grid}
use Rattle.sheet.specs.Refusal.{written}
use Rattle.sheet.proofs.Cells.{cells_most}
use Rattle.drainage.specs.Total.{own_values, sizes_of}
use Rattle.drainage.proofs.Lists.{filled, filled_written}
use Rattle.drainage.proofs.Measures.{ones, sizes_long, sizes_written_lem, sizes_put, own_gathers}
use Rattle.drainage.proofs.measure.sizes.Goals as goal
use Rattle.drainage.proofs.measure.sizes.Goals.{After-gather, After-own_values}

-- the own counts
own : (c : After-own_values)
    → let a =
    c.args in c.own_values.new.totals ≡ filled
    (own_values a.grid.dirs.now ones) (a.grid.rows * a.grid.cols) a.areas.now
own c = c.own_values.ensures ∙ sym (filled_written _ _ _)

-- the own counts
own-After-gather : (c : After-gather)
    → let a =
    c.args in c.own_values.new.totals ≡ filled
    (own_values a.grid.dirs.now ones) (a.grid.rows * a.grid.cols) a.areas.now
own-After-gather c = c.own_values.ensures ∙ sym (filled_written _ _ _)

pub gather-requires : goal.gather-requires
gather-requires c =
    let p = c.requires in
    rw (own (goal.at.gather-requires c).After-own_values)
    (own_gathers p.1 ones _ (λ c l. omega arith) (cells_most p.0.rows_most p.0.cols_most) p.2)

-- the sizes
gathered : (c : After-gather)
    → let a =
    c.args in c.gather.new.totals ≡ written
    (sizes_of (grid a.grid.rows a.grid.cols a.grid.dirs.now)) a.areas.now
gathered c =
    (rw (own-After-gather c) at c.gather.ensures) ∙ sizes_written_lem
    c.requires.1 _

pub returns : goal.returns
returns c =
    let a = c.args in
    let G = grid a.grid.rows a.grid.cols a.grid.dirs.now in
    let written_sizes = gathered (goal.at.returns c).After-gather in (
      rw c.copy.ensures
          (sizes_put (a.grid.rows * a.grid.cols) a.work.now (sizes_of G) _ a.areas.now c.requires.1.searched.upstream.queue.room
          (sizes_long G) written_sizes),
      written_sizes,
    )
