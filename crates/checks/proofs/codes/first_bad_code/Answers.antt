-- `first_bad_code` meets its contract: before each turn no cell of the words passed has a bad code.
use mathlib.Core.Path.{sym, ◌∙◌, ap}
use mathlib.Core.Bool.{not}
use Prim.Native.Nat.{ℕ, ◌*◌, ◌<◌, ◌≤◌}
use native.Mathlib.Decide.{dec_lt}
use native.Mathlib.Omega.{arith}
use lib.ListN.{get_or}
use Rattle.sheet.specs.Word.{number_at, first_bad_of}
use Rattle.sheet.specs.Refusal.{bad_code}
use Rattle.sheet.proofs.First.{first_from_lem}
use Rattle.sheet.proofs.Words.{word_codes}
use Rattle.checks.proofs.codes.first_bad_code.Goals as goal

pub loop-word-preserved : goal.loop-word-preserved
unfolding bad_code
loop-word-preserved c =
    let l = c.loop-word in
    let dirs = c.args.grid.dirs.now in
    let place = c.first_bad.ensures ∙ ap first_bad_of c.word_at.ensures.word in
    let none : 8 ≤ first_bad_of (number_at 8 dirs (8 * l.word)) = omega (arith, place) in
    let small : (m : ℕ) → get_or dirs m 0 < 256 = c.word_at.ensures.bytes in
    λ k h. elim (dec_lt k (8 * l.word)) [
      | yes b ↦ l.invariant k b
      | no b ↦ ap not (word_codes dirs (8 * l.word) small none k (omega arith) (omega arith))
    ]

pub returns-then-first_bad-lt8 : goal.returns-then-first_bad-lt8
returns-then-first_bad-lt8 c =
    c.first_bad_from.ensures ∙ sym (first_from_lem _ _ _ (omega arith) (λ k h. c.loop-word.invariant k (omega arith)))

pub returns : goal.returns
returns c =
    c.first_bad_from-2.ensures ∙ sym (first_from_lem _ _ _ (omega arith) (λ k h. c.loop-word.invariant k (omega arith)))
