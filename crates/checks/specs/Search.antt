-- What the searches in reading order for checks 5 and 6 look for.
use Rattle.std.specs.Prelude.{Bool, List, ℕ, eqb, get_or}
use Rattle.sheet.specs.Sheet.{Grid, inside}
use Rattle.sheet.specs.Refusal.{both}
use Rattle.checks.specs.declared.Target.{Target}
use Rattle.checks.specs.declared.Target.TheVariants.{Inside, Unreached}

-- the cell is one that is looked for; `reached` has a number other than 0 for each cell that a search upstream reached
unfoldable pub is_target : Grid → List ℕ → Target → ℕ → Bool
unfolding inside
is_target G reached Inside c = inside G c
is_target G reached Unreached c = both (inside G c) (eqb (get_or reached c 0) 0)
