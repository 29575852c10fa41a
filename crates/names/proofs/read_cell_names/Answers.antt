-- `names::read_cell_names` meets its contract.
use Rattle.names.specs.Names.{names_values}
use Rattle.names.proofs.NamesLaws.{names_as}
use mathlib.Core.Path.{ap}
use Rattle.names.proofs.read_cell_names.Goals as goal

pub returns : goal.returns
returns c = let e = (names_as _ c.cell_columns.ensures c.read_names.ensures) in record { line = e; values = ap names_values e }
