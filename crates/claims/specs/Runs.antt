-- Mouths of a run, and the order in which a run of a river list names stem cells and mouths.
use Rattle.std.specs.Prelude.{◌≡◌, Bool, true, [], ◌∷◌, ℕ, Some}
use Rattle.std.proofs.Math.Option.{Option, none, some}
use Rattle.sheet.specs.River.{Run, Entry, stem, mouth}
use Rattle.sheet.specs.Answer.{Next}

-- v is a mouth of the run
pub data MouthOf : Run → ℕ → Type 0 where
  mouth_here : {v : ℕ} {R : Run} → MouthOf (mouth v ∷ R) v
  mouth_there : {e : Entry} {R : Run} {v : ℕ} → MouthOf R v → MouthOf (e ∷ R) v

-- v is heavier than the donor named last, if one was named
abbrev pub Above : (ℕ → ℕ → Bool) → Option ℕ → ℕ → Type 0
Above heavier none v = Unit {0}
Above heavier (some u) v = heavier v u ≡ true

-- the run goes on after the stem cell s, of which the donors up to `old` have been named: it ends there, goes on to a
-- donor as the next stem cell, or names the mouth of a tributary; donors are named from lightest to heaviest
pub data Chain (next : ℕ → Next) (heavier : ℕ → ℕ → Bool) : ℕ → Option ℕ → Run → Type 0 where
  chain_end : {s : ℕ} {old : Option ℕ} → Chain next heavier s old []
  chain_stem : {s : ℕ} {old : Option ℕ} {t : ℕ} {R : Run} → next t ≡ Some s → Above heavier old t
      → Chain next heavier t none R → Chain next heavier s old (stem t ∷ R)
  chain_mouth : {s : ℕ} {old : Option ℕ} {v : ℕ} {R : Run} → next v ≡ Some s → Above heavier old v
      → Chain next heavier s (some v) R → Chain next heavier s old (mouth v ∷ R)

-- the run is empty or begins with a stem cell, and goes on after it
pub data Headed (next : ℕ → Next) (heavier : ℕ → ℕ → Bool) : Run → Type 0 where
  headed_none : Headed next heavier []
  headed_stem : {s : ℕ} {R : Run} → Chain next heavier s none R → Headed next heavier (stem s ∷ R)
