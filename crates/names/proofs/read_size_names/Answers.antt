-- `names::read_size_names` meets its contract.
use Rattle.std.proofs.Common.{sym, ap, ◌∙◌}
use Rattle.names.specs.Names.{names_values}
use Rattle.names.proofs.NamesLaws.{size_names_first, size_names_second}
use Rattle.names.proofs.read_size_names.Goals as goal

pub returns-in-Some : goal.returns-in-Some
returns-in-Some c =
    let e = size_names_first _ c.size_columns.ensures (sym c.read_names.ensures ∙ c.in-Some.is) in
    record { line = e; values = ap names_values e }

pub returns : goal.returns
returns c =
    let e = size_names_second _ c.size_columns.ensures (sym c.read_names.ensures ∙ c.in_default.is)
    c.size_columns-2.ensures c.read_names-2.ensures in
    record { line = e; values = ap names_values e }
