-- `word_at` meets its contract.
use Prim.Native.Nat.{◌+◌}
use native.Mathlib.Omega.{arith}
use Rattle.checks.proofs.Joined.{joined, joined_is}
use Rattle.checks.proofs.codes.word_at.Goals as goal

pub overflow_cast-result : goal.overflow_cast-result
overflow_cast-result c = omega (arith, c.type_inv.bytes c.args.at)

pub overflow_cast-result-2 : goal.overflow_cast-result-2
overflow_cast-result-2 c = omega (arith, c.type_inv.bytes (c.args.at + 1))

pub overflow_cast-result-3 : goal.overflow_cast-result-3
overflow_cast-result-3 c = omega (arith, c.type_inv.bytes (c.args.at + 2))

pub overflow_cast-result-4 : goal.overflow_cast-result-4
overflow_cast-result-4 c = omega (arith, c.type_inv.bytes (c.args.at + 3))

pub overflow_cast-result-5 : goal.overflow_cast-result-5
overflow_cast-result-5 c =
    let at = c.args.at in
    omega (arith, c.type_inv.bytes (at + 4))

pub overflow_cast-result-6 : goal.overflow_cast-result-6
overflow_cast-result-6 c =
    let at = c.args.at in
    omega (arith, c.type_inv.bytes (at + 5))

pub overflow_cast-result-7 : goal.overflow_cast-result-7
overflow_cast-result-7 c =
    let at = c.args.at in
    omega (arith, c.type_inv.bytes (at + 6))

pub overflow_cast-result-8 : goal.overflow_cast-result-8
overflow_cast-result-8 c =
    let at = c.args.at in
    omega (arith, c.type_inv.bytes (at + 7))

pub returns-clause-bytes : goal.returns-clause-bytes
returns-clause-bytes c = λ m. omega (arith, c.type_inv.bytes m)

pub returns-clause-word : goal.returns-clause-word
unfolding joined
returns-clause-word c =
    let a = c.args in
    joined_is a.bytes.now (λ m. omega (arith, c.type_inv.bytes m)) a.at 7 (omega arith)
