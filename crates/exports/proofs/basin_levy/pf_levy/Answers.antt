-- `pf_levy` meets its contract.
use mathlib.Core.Path.{ap, ◌∙◌}
use Rattle.exports.specs.Exports.{indexed_code}
use Rattle.exports.proofs.Codes.{levy_told}
use Rattle.exports.proofs.basin_levy.pf_levy.Goals as goal

pub indexed_code-requires : goal.indexed_code-requires
indexed_code-requires c = rw c.levy.ensures.answer (levy_told _ _ _ _ _ _)

pub returns : goal.returns
returns c =
    let e = c.levy.ensures in
    record { answer = c.indexed_code.ensures ∙ ap indexed_code e.answer; lent = e.lent; index = e.index; dues = e.dues }
