-- The verdict on a file: a labelled sheet's sizes, or a refusal.
use Rattle.std.specs.Prelude.{Result}
use Rattle.faults.specs.declared.Sizes.{Sizes}
use Rattle.sheet.specs.declared.Refusal.{Refusal}

abbrev pub Verdict : Type 0
Verdict = Result Sizes Refusal
