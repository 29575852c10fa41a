-- The answer to the outlet question from that to the flow question.
use Rattle.sheet.specs.declared.Flow.{Flow}
use Rattle.sheet.specs.declared.Flow.TheVariants.{Same, Yes, No, Undecided, Refused}
use Rattle.sheet.specs.declared.OutletFlow.{OutletFlow}
use Rattle.sheet.specs.declared.OutletFlow.TheVariants.{Same as OutletSame, Yes as OutletYes, No as OutletNo}
use Rattle.sheet.specs.declared.OutletFlow.TheVariants.{Refused as OutletRefused}

-- Yes for Undecided; the others stay
abbrev pub outlet_answer : Flow → OutletFlow
outlet_answer Same = OutletSame
outlet_answer Yes = OutletYes
outlet_answer No = OutletNo
outlet_answer Undecided = OutletYes
outlet_answer (Refused number) = OutletRefused number
