-- Keys of mouths: of cells below 65536 the heavier has the larger key, so that ranks are counts of keys.
use mathlib.Core.Path.{◌≡◌, refl, ◌∙◌}
use mathlib.Core.Bool.{Bool}
use mathlib.Core.List.{[], ◌∷◌}
use Prim.Native.Nat.{ℕ, ◌+◌, ◌*◌, ◌≤◌, ◌<◌}
use native.Mathlib.Omega.{arith}
use native.Mathlib.Decide.{dec_le, ℕ_discrete}
use lib.Dec.{ltb, leb}
use borrow.Author.Tests.{ltb-true, lt-ltb, le-leb, lt-leb}
use Rattle.sheet.specs.Area.{heavier_by}
use Rattle.sheet.specs.River.{heavier, Run, stem, mouth}
use Rattle.sheet.specs.Unit.{rank}
use Rattle.claims.specs.Runs.{MouthOf, mouth_here, mouth_there}
use Rattle.claims.proofs.Lawful.{decided}
use Rattle.claims.proofs.Heavier.{More, larger, later, more, more_test}
use Rattle.claims.proofs.Mouths.{chosen}
use Rattle.rivers.specs.Cut.{key_by}
use Rattle.rivers.proofs.Positions.{same_test}

-- "heavier" is the larger key
pub heavier_key : (area : ℕ → ℕ) (u v : ℕ) → u < 65536 → v < 65536
    → heavier_by area u v ≡ ltb (key_by area v) (key_by area u)
heavier_key area u v g h =
    same_test (decided _ (more area u v) (more_test area u v))
    (decided _ (ltb-true (key_by area v) (key_by area u)) (lt-ltb (key_by area v) (key_by area u)))
    over (back (ℕ_discrete (area u) (area v)))
  where
    over : More area u v → key_by area v < key_by area u
    over (larger l) = omega arith
    over (later e l) = omega arith

    back : Dec (area u ≡ area v) → key_by area v < key_by area u → More area u v
    back (yes e) l = later e (omega arith)
    back (no e) l = larger (omega arith)

-- an area is large enough to count if the key is
pub counted_key : (least a v : ℕ) → v < 65536 → leb least a ≡ leb (least * 65536) (a * 65536 + v)
counted_key least a v h = go (dec_le least a)
  where
    go : Dec (least ≤ a) → leb least a ≡ leb (least * 65536) (a * 65536 + v)
    go (yes l) = rw (le-leb least a l, le-leb (least * 65536) (a * 65536 + v) (omega arith))
    go (no l) = rw (lt-leb least a (omega arith), lt-leb (least * 65536) (a * 65536 + v) (omega arith))

-- how many mouths of the run have a key above x
abbrev pub above : (ℕ → ℕ) → ℕ → Run → ℕ
above area x R = chosen (λ u. ltb x (key_by area u)) R

chosen_same : (t s : ℕ → Bool) (R : Run) → ((u : ℕ) → MouthOf R u → t u ≡ s u) → chosen t R ≡ chosen s R
unfolding chosen
chosen_same t s [] e = refl
chosen_same t s (stem c ∷ R) e = chosen_same t s R (λ u m. e u (mouth_there m))
chosen_same t s (mouth v ∷ R) e = rw (e v mouth_here, chosen_same t s R (λ u m. e u (mouth_there m)))

rank_chosen : (heavier : ℕ → ℕ → Bool) (R : Run) (v : ℕ) → rank heavier R v ≡ chosen (λ u. heavier u v) R
unfolding rank chosen
rank_chosen heavier [] v = refl
rank_chosen heavier (stem c ∷ R) v = rank_chosen heavier R v
rank_chosen heavier (mouth u ∷ R) v = rw (rank_chosen heavier R v)

-- the rank of a mouth is the number of larger keys
pub rank_key : (area : ℕ → ℕ) (R : Run) (v : ℕ) → v < 65536 → ((u : ℕ) → MouthOf R u → u < 65536)
    → rank (heavier_by area) R v ≡ above area (key_by area v) R
rank_key area R v h small =
    rank_chosen (heavier_by area) R v ∙ chosen_same _ _ R (λ u m. heavier_key area u v (small u m) h)
