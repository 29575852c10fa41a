-- The place of a refusal of labelling is the number of a cell.
use Prim.Native.Nat.{◌<◌}
use native.Mathlib.Omega.{arith}
use Rattle.sheet.specs.Sheet.{Sheet}
use Rattle.sheet.specs.Refusal.{Lent, outcome, outcome_values}
use Rattle.claims.proofs.Places.{SmallRefusal, refusal_small}
use Rattle.sheet.specs.Answer.{Outcome, Accepted}
use Rattle.std.specs.Prelude.{Err}

pub place_small : (S : Sheet) (L : Lent) → (outcome_values (outcome S L)).place < 65536
place_small S L = go (outcome S L) (refusal_small S L)
  where
    go : (o : Outcome) → SmallRefusal o → (outcome_values o).place < 65536
    go Accepted s = omega arith
    go (Err refusal) s = s.2
