-- `part_at` meets its contract: the first pair of digits that differ stands where the labels part.
use Rattle.std.proofs.Common.{rules, tests, ◌∙◌}
use Rattle.std.proofs.lemmas.Iterator.{YieldsList-from_slice, YieldsList-from_zip}
use Rattle.std.proofs.lemmas.Iterator.Adapters.{position_from-zero}
use Rattle.std.proofs.lemmas.Iterator.Search.{position_from_yields_List}
use Rattle.std.specs.List.{zip}
use Rattle.sheet.specs.Flow.{part_at}
use Rattle.flow.proofs.Places.{differ, part_zipped}
use Rattle.flow.proofs.part_at.Goals as goal

pub returns : goal.returns
unfolding part_at
returns c =
    let p = c.args.p.now in
    let q = c.args.q.now in
    position_from_yields_List differ c.position.new.self _ c.position.result c.position.ensures.ran
    (YieldsList-from_zip {s = c.zip.result} (YieldsList-from_slice p cc) (YieldsList-from_slice q cc)) (λ x b u k. search (rules, tests))
    ∙ position_from-zero differ (zip p q)
    ∙ part_zipped 0 p q
