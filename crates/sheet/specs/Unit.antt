-- Document 01's units, with document 02's counted mouths: when a unit is finished, which of its mouths are taken, and
-- the runs between them.
use Rattle.std.specs.Prelude.{Bool, true, false, cond, [], ◌∷◌, ℕ, suc, ltb}
use Rattle.sheet.specs.Area.{heavier_by}
use Rattle.sheet.specs.River.{Network, heavier, Entry, stem, mouth, Run}

-- a unit without counted mouths is finished
unfoldable pub finished : Network → Run → Bool
finished N [] = true
finished N (stem s ∷ R) = finished N R
finished N (mouth v ∷ R) = let r = finished N R in cond (N.counted v) false r

-- how many mouths of the run are heavier than v
unfoldable pub rank : (ℕ → ℕ → Bool) → Run → ℕ → ℕ
rank heavier [] v = 0
rank heavier (stem s ∷ R) v = rank heavier R v
rank heavier (mouth u ∷ R) v = let r = rank heavier R v in cond (heavier u v) (suc r) r

-- v is one of the heaviest counted mouths of the unit, as many as `split` says, or of all if fewer: it is counted, and
-- fewer than `split` are heavier. Those are counted too, being heavier. A mouth that is not taken stays in its run.
unfoldable pub taken : Network → Run → ℕ → Bool
unfolding heavier_by rank
taken N R v = cond (N.counted v) (ltb (rank (heavier N) R v) N.split) false

-- the runs before, between and after the taken mouths of a unit; each may be empty
pub data Parts : Type 0 where
  last : Run → Parts
  part : Run → ℕ → Parts → Parts

-- the parts with one entry more at the start of the first run
unfoldable pub prepend : Entry → Parts → Parts
prepend e (last R) = last (e ∷ R)
prepend e (part R v P) = part (e ∷ R) v P

-- a run cut at the mouths that pass a test
unfoldable pub cut_at : (ℕ → Bool) → Run → Parts
unfolding prepend
cut_at test [] = last []
cut_at test (stem s ∷ R) = prepend (stem s) (cut_at test R)
cut_at test (mouth v ∷ R) = let P = cut_at test R in cond (test v) (part [] v P) (prepend (mouth v) P)

-- the parts of a unit
unfoldable pub parts : Network → Run → Parts
unfolding cut_at taken
parts N R = cut_at (taken N R) R
