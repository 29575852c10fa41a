-- `basin_part` meets its contract: the sizes give the position where the basin begins and how many cells it has.
use mathlib.Core.Path.{◌≡◌, refl, ap, ◌∙◌}
use mathlib.Core.List.{List}
use Prim.Native.Nat.{ℕ, ◌+◌, ◌*◌, ◌≤◌}
use native.Mathlib.Omega.{arith}
use lib.ListN.{length, get_or}
use Rattle.upstream.specs.Work.{ordered_sizes_part}
use Rattle.order.specs.Places.{sizes_in}
use Rattle.labelling.proofs.Steps.{part_is}
use Rattle.dues.specs.Steps.{basin_start, basin_size}
use Rattle.dues.proofs.BasinParts.{basin_within, holds_basin}
use Rattle.dues.proofs.basin_part.Goals as goal
use Rattle.dues.proofs.basin_part.Goals.{After-size_at-size}

-- the sizes, and what they tell
abbrev sizes : After-size_at-size → List ℕ
sizes c = let a = c.args in sizes_in a.n a.work.now a.queued

begins : (c : After-size_at-size)
    → c.basin_start-start.result ≡ basin_start (sizes c) c.args.basin
begins c =
    let a = c.args in
    rw (part_is (ordered_sizes_part * a.n) a.queued) at c.basin_start-start.ensures

has_cells : (c : After-size_at-size) → c.size_at-size.result ≡ basin_size (sizes c) c.args.basin
unfolding basin_size
has_cells c =
    let a = c.args in
    rw (part_is (ordered_sizes_part * a.n) a.queued) at c.size_at-size.ensures
    ∙ ap (λ (j : ℕ). get_or (sizes c) j 0) (begins c)

within : (c : After-size_at-size) → c.basin_start-start.result + c.size_at-size.result ≤ length (sizes c)
within c =
    omega (arith, begins c, has_cells c, basin_within (sizes c) c.requires.sizes c.args.basin)

pub overflow_add-first : goal.overflow_add-first
overflow_add-first c = omega (arith, within c, c.requires.small, c.requires.sizes.few)

pub overflow_add-result : goal.overflow_add-result
overflow_add-result c = omega (arith, within c, c.requires.small, c.requires.sizes.few)

pub returns : goal.returns
returns c = holds_basin _ _ _ c.requires (begins c) (has_cells c) _ refl
