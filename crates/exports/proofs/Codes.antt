-- The code of an answer of the index call and of the levy's fits 64 bits, and tells the answer.
use mathlib.Core.Path.{◌≡◌, ap}
use mathlib.Core.Bool.{Bool, true, false, cond}
use mathlib.Core.List.{List}
use Prim.Native.Nat.{ℕ, ◌+◌, ◌/◌, ◌%◌, ◌^◌, ◌<◌, ◌≤◌}
use native.Mathlib.Omega.{arith}
use lib.Dec.{leb}
use lib.ListN.{length}
use Rattle.sheet.specs.Sheet.{Sheet}
use Rattle.sheet.specs.Refusal.{Lent}
use Rattle.index.specs.Index.{LentIndex, indexed, indexed_values}
use Rattle.index.proofs.SmallAnswers.{SmallAnswer, answer_small}
use Rattle.dues.specs.Levy.{units_of_basin, total_fits, with_dues, levied_on, levied}
use Rattle.exports.specs.Exports.{indexed_code, CodeTells}
use Rattle.sheet.specs.Answer.{Counted, Refused}
use Rattle.sheet.proofs.Answer.{same_refused}
use Rattle.std.specs.Prelude.{Err, Ok}

-- every answer of the call is one that its code tells
pub answer_told : (S : Sheet) (L : Lent) (I : LentIndex) → CodeTells (indexed S L I)
answer_told S L I = go (indexed S L I) (answer_small S L I)
  where
    go : (a : Counted) → SmallAnswer a → CodeTells a
    go (Ok units) s = s
    go (Err refusal) s = (s.0, omega (arith, s.1), s.2)

-- and of the levy's
pub levy_told : (S : Sheet) (L : Lent) (I : LentIndex) (basin total : ℕ) (dues : List ℕ)
    → CodeTells (levied S L I basin total dues)
unfolding levied levied_on with_dues
levy_told S L I basin total dues = go (total_fits total) (indexed S L I) (answer_told S L I)
  where
    fitted : (units : ℕ) → units ≤ 65536 → (b : Bool) → CodeTells (cond b (Ok units) (Refused 3 0))
    fitted units l true = l
    fitted units l false = (omega arith, omega arith, omega arith)

    go : (b : Bool) (a : Counted) → CodeTells a
        → CodeTells (cond b (with_dues a (length (units_of_basin S basin)) dues) (Refused 18 0))
    go true (Ok units) t = fitted units t (leb (length (units_of_basin S basin)) (length dues))
    go true (Err refusal) t = t
    go false a t = (omega arith, omega arith, omega arith)

pub code_fits : (a : Counted) → CodeTells a → indexed_code a < 2 ^ 64
code_fits (Ok units) t = omega arith
code_fits (Err refusal) t = omega arith

-- its lowest byte: 0, or the refusal's number; and the rest of it: the number of units, or the refusal's place
pub code_byte : (a : Counted) → CodeTells a → indexed_code a % 256 ≡ (indexed_values a).number
code_byte (Ok units) t = omega arith
code_byte (Err refusal) t = omega arith

pub code_rest : (a : Counted) → CodeTells a → indexed_code a / 256 ≡ (indexed_values a).place + (indexed_values a).units
code_rest (Ok units) t = omega arith
code_rest (Err refusal) t = omega arith

-- two answers with the same code are the same
pub code_tells : (a b : Counted) → CodeTells a → CodeTells b → indexed_code a ≡ indexed_code b → a ≡ b
code_tells (Ok x) (Ok y) t u e = ap Ok (omega arith)
code_tells (Ok x) (Err refusal) t u e = absurd (omega arith)
code_tells (Err refusal) (Ok y) t u e = absurd (omega arith)
code_tells (Err refusal) (Err refusal2) t u e = same_refused (omega arith) (omega arith)
