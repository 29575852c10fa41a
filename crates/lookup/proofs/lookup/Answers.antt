-- `lookup` meets its contract: the part lies in the slice, since it holds exactly the basin's labels that begin so.
use native.Mathlib.Omega.{arith}
use mathlib.Core.Path.{◌≡◌, sym, ◌∙◌}
use Prim.Native.Nat.{◌+◌, ◌*◌, ◌≤◌}
use lib.ListN.{length}
use Rattle.std.specs.Prelude.{Ok}
use Rattle.sheet.specs.Record.{labels_in}
use Rattle.lookup.specs.Lookup.{lookup_answer}
use Rattle.lookup.proofs.Answers.{found_part, found_place, found_number, refused_part, refused_place, refused_number}
use Rattle.lookup.proofs.Counted.{labels_counted}
use Rattle.lookup.proofs.Exactly.{found_within}
use Rattle.lookup.proofs.lookup.Goals as goal
use Rattle.lookup.proofs.lookup.Goals.{In-Ok}

found : (c : In-Ok) → lookup_answer c.args.leading (labels_in c.args.labels.now) c.args.basins.now ≡ Ok c.in-Ok.part
found c = sym c.find.ensures.answer ∙ c.in-Ok.is

within : (c : In-Ok) → c.in-Ok.part.start + c.in-Ok.part.length ≤ length (labels_in c.args.labels.now)
within c = found_within _ _ _ c.in-Ok.part.start c.in-Ok.part.length (found c)

-- and as numbers
numbers-within : (c : In-Ok) → 2 * c.in-Ok.part.start + 2 * c.in-Ok.part.length ≤ length c.args.labels.now
numbers-within c = omega (arith, within c, labels_counted c.args.labels.now)

pub overflow_mul-from : goal.overflow_mul-from
overflow_mul-from c = omega (arith, numbers-within (goal.at.overflow_mul-from c).In-Ok)

pub overflow_mul-to : goal.overflow_mul-to
overflow_mul-to c = omega (arith, numbers-within (goal.at.overflow_mul-to c).In-Ok)

pub overflow_add-to : goal.overflow_add-to
overflow_add-to c = omega (arith, numbers-within (goal.at.overflow_add-to c).In-Ok)

pub offset_bounds-labels-from : goal.offset_bounds-labels-from
offset_bounds-labels-from c = omega (arith, numbers-within (goal.at.offset_bounds-labels-from c).In-Ok)

pub slice_bounds-result-end : goal.slice_bounds-result-end
slice_bounds-result-end c = numbers-within (goal.at.slice_bounds-result-end c).In-Ok

pub returns-in-Ok : goal.returns-in-Ok
returns-in-Ok c =
    let here = (goal.at.returns-in-Ok c).In-Ok in
    let part = found here in record {
      part = found_part c.args.leading c.args.labels.now c.args.basins.now _ _ part (within here);
      place = found_place c.args.leading c.args.labels.now c.args.basins.now _ _ part c.args.labels.ref_ptr;
      refusal = found_number c.args.leading c.args.labels.now c.args.basins.now _ _ part;
    }

pub returns-in-Err : goal.returns-in-Err
returns-in-Err c =
    let refused = sym c.find.ensures.answer ∙ c.in-Err.is in record {
      part = refused_part c.args.leading c.args.labels.now c.args.basins.now _ refused;
      place = refused_place c.args.leading c.args.labels.now c.args.basins.now _ refused c.args.labels.ref_ptr;
      refusal = refused_number c.args.leading c.args.labels.now c.args.basins.now _ refused;
    }
