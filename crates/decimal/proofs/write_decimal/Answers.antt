-- `decimal::write_decimal` meets its contract. The invariant: the text of the rest, written on the present buffer, is
-- the text of n, written on the first one.
use Prim.Native.Nat.{ℕ, ◌+◌}
use mathlib.Core.Path.{refl, ap, ◌∙◌}
use native.Mathlib.Omega.{arith}
use lib.ListN.{length-set}
use Rattle.decimal.specs.Text.{decimal_text, WrittenValues, written_values, Writing}
use Rattle.decimal.proofs.TextLaws.{text_longer, text_some, write_last_digit, write_first_digit, written}
use Rattle.decimal.proofs.TextLaws.{not_written}
use Rattle.decimal.proofs.write_decimal.Goals as goal

-- the number and value of the answer
abbrev values : Writing → WrittenValues
values w = written_values w.answer

pub returns-in_err-room : goal.returns-in_err-room
returns-in_err-room c =
    rw c.from_residual.ensures
    (let e = (not_written c.args.out.now c.args.at (decimal_text c.args.n) (omega (arith, c.in_err-room.ensures))) in record { written = e; values = ap values e })

pub returns-then-room-count : goal.returns-then-room-count
returns-then-room-count c = let e = (not_written _ _ _ (omega arith)) in record { written = e; values = ap values e }

pub overflow_add-end : goal.overflow_add-end
overflow_add-end c = omega arith

pub loop-rest-init : goal.loop-rest-init
loop-rest-init c = (
  refl,
  ap (λ (k : ℕ). c.args.at + k) c.decimal_length-count.ensures,
  omega arith,
  refl,
)

pub overflow_sub-end : goal.overflow_sub-end
overflow_sub-end c = omega (arith, text_some c.loop-rest.rest)

pub bounds-out-end : goal.bounds-out-end
bounds-out-end c = omega (arith, text_some c.loop-rest.rest)

pub loop-rest-smaller : goal.loop-rest-smaller
loop-rest-smaller c = omega arith

pub loop-rest-preserved : goal.loop-rest-preserved
loop-rest-preserved c =
    let l = c.loop-rest in
    let room = text_longer l.rest c.loop-rest-test.true in (
      write_last_digit _ _ _ _ c.loop-rest-test.true l.invariant.1 (omega arith) ∙ l.invariant.0,
      omega arith,
      omega arith,
      simp length-set l.invariant.3,
    )

pub bounds-out-at : goal.bounds-out-at
bounds-out-at c = omega (arith, text_some c.loop-rest.rest)

pub overflow_add-result : goal.overflow_add-result
overflow_add-result c = omega arith

pub shape_of-out : goal.shape_of-out
shape_of-out c = simp length-set c.loop-rest.invariant.3

pub returns : goal.returns
returns c =
    let l = c.loop-rest in
    let count = c.decimal_length-count.ensures in
    let e = (written _ _ _ _ _
    (omega arith)
    (write_first_digit _ _ _ c.loop-rest-test.false (omega (arith, text_some l.rest)) ∙ l.invariant.0)
    (ap (λ (k : ℕ). c.args.at + k) count)) in record { written = e; values = ap values e }
