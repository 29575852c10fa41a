use Rattle.sheet.specs.Record.{labels_in, units_in}
use Rattle.flow.proofs.PairNumbers.{Answering}
use Rattle.flow.proofs.pairs.answer_pairs.Given as goal

abbrev pub invariant-loop-i : goal.invariant-loop-i
invariant-loop-i l =
    Answering l.depth l.least (units_in l.p_basins (labels_in l.p)) (units_in l.q_basins (labels_in l.q)) l.initial.answers l.answers l.i
