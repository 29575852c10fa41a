-- What an inspection of a sheet answers and leaves in the work places.
use Rattle.std.specs.Prelude.{◌≡◌, Bool, true, false, List, ℕ, ◌*◌, leb, Err}
use Rattle.sheet.specs.Sheet.{Grid, cells}
use Rattle.sheet.specs.Refusal.{outcome_on}
use Rattle.drainage.specs.declared.Inspection.{Inspection}
use Rattle.upstream.specs.Work.{sizes_part, KeptFrom}
use Rattle.upstream.specs.Search.{Searched, Drained}
use Rattle.sheet.specs.Answer.{Outcome, Accepted}

-- 4 and 5 are told before the search, 6 after it
abbrev pub after_search : Outcome → Bool
after_search Accepted = true
after_search (Err refusal) = leb 6 refusal.number

-- refusals 4 to 6; what the search left, and before the search no place is written
pub record InspectionResult (G : Grid) (work work' : List ℕ) (r : Inspection) : Type 0 where
  pub outcome : r.outcome ≡ outcome_on G
  pub unwritten : after_search r.outcome ≡ false → work' ≡ work
  pub searched : after_search r.outcome ≡ true → Searched G work' r.queued
  pub drained : r.outcome ≡ Accepted → Drained G work' r.queued
  pub kept : KeptFrom (sizes_part * cells G) work work'
