-- `inspect` meets its contract.
use mathlib.Core.Path.{◌≡◌, sym, ◌∙◌, ap}
use native.Mathlib.Omega.{arith}
use Rattle.sheet.specs.Sheet.{Grid, grid, cells, inside, first}
use Rattle.sheet.specs.Refusal.{bad_code, undrained, refused_at}
use Rattle.drainage.proofs.Outcomes.{ranks_part_lem, inside_is, undrained_is, coded_of, refused_4, refused_5}
use Rattle.drainage.proofs.Outcomes.{inspected_before, inspected}
use Rattle.drainage.proofs.inspect.inspect.Goals as goal
use Rattle.drainage.proofs.inspect.inspect.Goals.{After-first_target, After-first_target-unreached, In-Some-first_target, In_default}
use Rattle.sheet.specs.Answer.{Found, Accepted}
use Rattle.std.specs.Prelude.{None, Some}

abbrev sheet_of-In_default : In_default → Grid
sheet_of-In_default c = grid c.args.grid.rows c.args.grid.cols c.args.grid.dirs.now

abbrev sheet_of-After-first_target : After-first_target → Grid
sheet_of-After-first_target c = grid c.args.grid.rows c.args.grid.cols c.args.grid.dirs.now

abbrev sheet_of-In-Some-first_target : In-Some-first_target → Grid
sheet_of-In-Some-first_target c = grid c.args.grid.rows c.args.grid.cols c.args.grid.dirs.now

abbrev sheet_of-After-first_target-unreached : After-first_target-unreached → Grid
sheet_of-After-first_target-unreached c = grid c.args.grid.rows c.args.grid.cols c.args.grid.dirs.now

-- what each search found, in the definition's terms
no-bad : (c : In_default)
    → let G = sheet_of-In_default c in first (bad_code G) (cells G) ≡ None
no-bad c = sym c.first_bad_code.ensures ∙ c.in_default.is

in_cells : (c : After-first_target)
    → let G = sheet_of-After-first_target c in c.first_target.result ≡ first (inside G) (cells G)
in_cells c = c.first_target.ensures ∙ inside_is _ _

in_cells-In-Some-first_target : (c : In-Some-first_target)
    → let G = sheet_of-In-Some-first_target c in c.first_target.result ≡ first (inside G) (cells G)
in_cells-In-Some-first_target c = c.first_target.ensures ∙ inside_is _ _

some : (c : In-Some-first_target)
    → let G = sheet_of-In-Some-first_target c in first (inside G) (cells G) ≡ Some c.in-Some-first_target.field-0
some c = sym (in_cells-In-Some-first_target c) ∙ c.in-Some-first_target.is

unreached : (c : After-first_target-unreached)
    → let G =
    sheet_of-After-first_target-unreached c in c.first_target-unreached.result ≡ first
    (undrained G) (cells G)
unreached c =
    c.first_target-unreached.ensures ∙ undrained_is _ _ c.search-queued.ensures.0
    (ranks_part_lem _ _)

pub returns-in-Some : goal.returns-in-Some
returns-in-Some c =
    inspected_before c.refused.ensures (omega arith)
    (refused_4 _ (sym c.first_bad_code.ensures ∙ c.in-Some.is))

pub returns-in_default-first_target : goal.returns-in_default-first_target
returns-in_default-first_target c =
    inspected_before c.refused-in_default-first_target.ensures (omega arith)
    (refused_5 _ (no-bad (goal.at.returns-in_default-first_target c).In_default)
    (sym (in_cells (goal.at.returns-in_default-first_target c).After-first_target) ∙ c.in_default-first_target.is))

pub search-queued-requires : goal.search-queued-requires
search-queued-requires c =
    let p = c.requires in
    (p.0, coded_of _ (no-bad (goal.at.search-queued-requires c).In_default), p.1)

pub returns : goal.returns
returns c =
    inspected (no-bad (goal.at.returns c).In_default)
    (some (goal.at.returns c).In-Some-first_target) c.search-queued.ensures.0
    (c.refused_by.ensures ∙ ap (λ (f : Found). refused_at 6 f Accepted) (unreached (goal.at.returns c).After-first_target-unreached)) c.search-queued.ensures.1
