use mathlib.Core.Path.{◌≡◌}
use Prim.Native.Nat.{◌+◌, ◌-◌, ◌≤◌, ◌<◌}
use lib.ListN.{length}
use Rattle.sheet.specs.Label.{label_of}
use Rattle.sheet.specs.Basins.{basin_of}
use Rattle.rivers.specs.Labelled.{relabelled, cells_labelled, stands}
use Rattle.order.specs.Places.{BasinAt}
use Rattle.labelling.specs.Labelling.{BasinsOf}
use Rattle.labelling.proofs.basins.label_basins.Given as goal

abbrev pub invariant-loop-j : goal.invariant-loop-j
invariant-loop-j l =
    (l.j ≤ length l.cell) × (l.number ≤ l.j + 1)
    × ((b : BasinsOf l.cell l.size l.area l.depth l.split l.least)
    → (l.j < length l.cell → BasinAt b.sheet.grid l.cell l.j l.number)
    × (l.labels ≡ cells_labelled (stands l.cell 0 l.j) (label_of b.sheet) l.initial.labels)
    × (l.basins ≡ relabelled (stands l.cell 0 l.j) (basin_of b.sheet.grid) l.initial.basins))

abbrev pub decreases-loop-j : goal.decreases-loop-j
decreases-loop-j l = length l.cell - l.j
