-- `measure` meets its contract.
use mathlib.Core.Path.{sym, ◌∙◌, ap}
use Prim.Native.Nat.{◌<◌}
use native.Mathlib.Omega.{arith}
use Rattle.sheet.specs.Sheet.{grid, cells}
use Rattle.sheet.specs.Label.{areas_of}
use Rattle.drainage.specs.Total.{sizes_of}
use Rattle.drainage.proofs.Measures.{sizes_long, areas_long, written_over}
use Rattle.drainage.proofs.Kept.{drained_same, with_sizes_same}
use Rattle.drainage.proofs.Ones.{areas_are_sizes}
use Rattle.drainage.proofs.measure.measure.Goals as goal

pub all_ones-requires : goal.all_ones-requires
all_ones-requires c = c.requires.2.room

-- all weights are 1
pub returns-then-all_ones : goal.returns-then-all_ones
returns-then-all_ones c =
    let ones = sym c.all_ones.ensures ∙ c.if-all_ones.true in (
      c.sizes.ensures.0,
      λ S g w.
          let some : 0 < S.grid.cols = rw g c.requires.0.cols_some in
          rw (areas_are_sizes S some (rw (g, w) ones), g) c.sizes.ensures.1,
    )

pub areas-requires : goal.areas-requires
areas-requires c =
    let p = c.requires in (
      p.0,
      rw c.sizes.ensures.0 (drained_same (with_sizes_same _ _ _ p.1.searched.upstream.queue.room) p.1),
      p.2,
      omega (arith, p.3, c.sizes.auto.areas),
    )

pub returns : goal.returns
returns c =
    let a = c.args in
    let G = grid a.grid.rows a.grid.cols a.grid.dirs.now in (
      c.sizes.ensures.0,
      λ S s w. (rw c.sizes.ensures.1 at (c.areas.ensures S s w))
          ∙ written_over (areas_of S) (sizes_of G) a.lent_areas.now
          (sizes_long G ∙ ap cells (sym s) ∙ sym (areas_long S)),
    )
