-- A network that is laid out, a unit of it at positions of the layout, and the places for areas and labels.
use Rattle.std.specs.Prelude.{List, ℕ, ◌≤◌, length}
use Rattle.sheet.specs.River.{Network, heavier, Run}
use Rattle.claims.specs.Runs.{Headed}
use Rattle.claims.specs.Lawful.{Lawful}
use Rattle.rivers.specs.Layout.{Laid, Layout, LayoutOf}

-- a network, the layout of its cells, and their areas
pub record NetworkOf (cell size area : List ℕ) (split least : ℕ) : Type 0 where
  pub network : Network
  pub lawful : Lawful network (heavier network)
  pub laid_out : LayoutOf network cell size area split least

-- a unit at positions lo to hi, of a river whose subtree ends at `end`
pub record UnitAt (cell size area : List ℕ) (split least end lo hi : ℕ) : Type 0 where
  pub of : NetworkOf cell size area split least
  pub run : Run
  pub headed : Headed of.network.next (heavier of.network) run
  pub laid : Laid cell size end lo hi run
  pub before_end : hi ≤ end
  pub end_within : end ≤ length cell

-- the cells of the layout have places in slices of so many areas and labels, and 1 to 4 mouths may be taken
pub record Places (cell size : List ℕ) (areas labels split : ℕ) : Type 0 where
  pub for_areas : Layout cell size areas
  pub for_labels : Layout cell size labels
  pub split_some : 1 ≤ split
  pub split_most : split ≤ 4
