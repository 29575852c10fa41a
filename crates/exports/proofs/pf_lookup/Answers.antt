-- `pf_lookup` meets its contract: it hands on what `find` answers.
use mathlib.Core.Path.{sym, ◌∙◌, ap}
use Rattle.lookup.specs.Lookup.{lookup_values}
use Rattle.exports.proofs.pf_lookup.Goals as goal
use Rattle.lookup.specs.Answer.{LookupAnswer}

pub returns-in-Ok : goal.returns-in-Ok
returns-in-Ok c =
    let q = sym c.in-Ok.is ∙ (rw c.unit.ensures at c.find.ensures.answer) in record {
      number = ap (λ (a : LookupAnswer). (lookup_values a).number) q;
      start = ap (λ (a : LookupAnswer). (lookup_values a).start) q;
      length = ap (λ (a : LookupAnswer). (lookup_values a).length) q;
    }

pub returns-in-Err : goal.returns-in-Err
returns-in-Err c =
    let q = sym c.in-Err.is ∙ (rw c.unit.ensures at c.find.ensures.answer) in record {
      number = ap (λ (a : LookupAnswer). (lookup_values a).number) q;
      start = ap (λ (a : LookupAnswer). (lookup_values a).start) q;
      length = ap (λ (a : LookupAnswer). (lookup_values a).length) q;
    }
