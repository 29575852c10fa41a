-- How a file ends: with an ended intake, or refused by document 01's number at a place.
use Rattle.std.specs.Prelude.{Result}
use Rattle.intake.specs.declared.Intake.{Intake}
use Rattle.sheet.specs.declared.Refusal.{Refusal}

abbrev pub Read : Type 0
Read = Result Intake Refusal
