-- Neighbours in a list of cells that are of the same unit: one entry for each such group.
use Rattle.std.specs.Prelude.{cond, List, [], ◌∷◌, ℕ, suc}
use Rattle.sheet.specs.declared.UnitName.{UnitName}
use Rattle.sheet.specs.Record.{same_unit}
use Rattle.index.specs.Units.{UnitEntry, unit_entry}

-- a cell in front of groups: it is the first cell of the first group if the units are the same, else a group of its own
unfoldable pub with_cell : UnitName → ℕ → List UnitEntry → List UnitEntry
unfolding same_unit
with_cell unit cell [] = unit_entry unit cell 1 ∷ []
with_cell unit cell (e ∷ es) =
    cond (same_unit unit e.unit) (unit_entry unit cell (suc e.count) ∷ es) (unit_entry unit cell 1 ∷ e ∷ es)

-- the groups of a list of cells: an entry has the group's unit, its first cell and its count of cells
unfoldable pub grouped : (ℕ → UnitName) → List ℕ → List UnitEntry
unfolding with_cell
grouped unit [] = []
grouped unit (c ∷ cs) = with_cell (unit c) c (grouped unit cs)
