-- `write_cell` meets its contract.
use mathlib.Core.Path.{refl}
use Rattle.faults.proofs.FaultLaws.{code_fits, row_fits, number_fits_lem, byte_lent}
use Rattle.intake.specs.Intake.{cell_written}
use Rattle.intake.proofs.cell_lines.write_cell.Goals as goal

pub overflow_cast-dirs : goal.overflow_cast-dirs
overflow_cast-dirs c = search code_fits

pub overflow_mul-dirs : goal.overflow_mul-dirs
overflow_mul-dirs c = search row_fits

pub overflow_add-dirs : goal.overflow_add-dirs
overflow_add-dirs c = search number_fits_lem

pub bounds-dirs-cell : goal.bounds-dirs-cell
bounds-dirs-cell c = search byte_lent

pub returns : goal.returns
unfolding cell_written
returns c = λ weights. refl
