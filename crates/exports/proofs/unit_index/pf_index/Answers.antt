-- `pf_index` meets its contract.
use mathlib.Core.Path.{ap, ◌∙◌}
use Rattle.exports.specs.Exports.{indexed_code}
use Rattle.exports.proofs.Codes.{answer_told}
use Rattle.exports.proofs.unit_index.pf_index.Goals as goal

pub indexed_code-requires : goal.indexed_code-requires
indexed_code-requires c = rw c.index.ensures.answer (answer_told _ _ _)

pub returns : goal.returns
returns c =
    let e = c.index.ensures in
    record { answer = c.indexed_code.ensures ∙ ap indexed_code e.answer; lent = e.lent; index = e.index }
