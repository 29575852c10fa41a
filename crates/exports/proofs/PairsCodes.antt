-- The code of an answer of the call for many pairs tells the answer: its lowest byte whether it was refused, and the
-- rest the count of pairs, where P's slice has fewer than 2 ^ 57 numbers; 2 ^ 57 would take 2 ^ 60 bytes.
use mathlib.Core.Path.{◌≡◌, refl}
use mathlib.Core.Bool.{Bool, true, false, cond}
use Prim.Native.Nat.{ℕ, ◌/◌, ◌%◌, ◌^◌, ◌<◌}
use native.Mathlib.Omega.{arith}
use Rattle.sheet.specs.Record.{label_places}
use Rattle.sheet.specs.Refusal.{depth_fits, least_fits}
use Rattle.flow.specs.Pairs.{pair_count, slices_fit, pairs_answer, pairs_values}
use Rattle.flow.proofs.PairNumbers.{count_p}
use Rattle.exports.specs.Exports.{pairs_code}
use Rattle.sheet.specs.Answer.{Counted, Refused}
use Rattle.std.specs.Prelude.{Ok}

module _ (depth least m pm n qn places : ℕ) where
  -- what holds of the count and of the refusals holds of the answer
  abbrev counted : ℕ
  counted = pair_count (label_places m) (label_places n)

  answer_either : (P : Counted → Type 0) → P (Ok counted) → P (Refused 3 0) → P (Refused 19 0)
      → P (Refused 2 0) → P (pairs_answer depth least m pm n qn places)
  unfolding pairs_answer
  answer_either P told short unfit deep = go (depth_fits depth) (least_fits least) (slices_fit counted pm qn places)
    where
      go : (d l r : Bool)
          → P (cond d (cond l (cond r (Ok counted) (Refused 3 0)) (Refused 19 0)) (Refused 2 0))
      go true true true = told
      go true true false = short
      go true false r = unfit
      go false l r = deep

  -- the lowest byte: 0, or the refusal's number
  pub pairs_byte : pairs_code (pairs_answer depth least m pm n qn places) % 256 ≡ (pairs_values
      (pairs_answer depth least m pm n qn places)).number
  pairs_byte = answer_either (λ a. pairs_code a % 256 ≡ (pairs_values a).number) (omega arith) refl refl refl

  -- the rest: the count of pairs
  pub pairs_rest : m < 2 ^ 57
      → pairs_code (pairs_answer depth least m pm n qn places) / 256 ≡ (pairs_values
      (pairs_answer depth least m pm n qn places)).count
  unfolding label_places
  pairs_rest h =
      let half : label_places m < 2 ^ 56 = omega arith in
      answer_either (λ a. pairs_code a / 256 ≡ (pairs_values a).count)
      (omega (arith, half, count_p (label_places m) (label_places n))) refl refl refl
