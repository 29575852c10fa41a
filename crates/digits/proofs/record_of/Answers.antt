-- `record_of` meets its contract: the two parts of the digits are the record's numbers.
use native.Mathlib.Omega.{arith}
use mathlib.Core.Path.{◌≡◌, ap, ◌∙◌}
use Prim.Native.Nat.{◌-◌}
use lib.ListN.{length, take, drop, drop_of_length-le, length-take, length-drop}
use lib.Seq.{take_all}
use Rattle.sheet.specs.Record.{number, number_from, record_of, label_of_numbers}
use Rattle.sheet.proofs.Digits.{number_fits_lem}
use Rattle.sheet.proofs.Records.{digits_take, digits_drop}
use Rattle.digits.proofs.record_of.Goals as goal

pub number_of-requires : goal.number_of-requires
number_of-requires c = number_fits_lem _ c.requires.0 (omega arith)

pub returns-then-digits-le-NUMBER_DIGITS : goal.returns-then-digits-le-NUMBER_DIGITS
unfolding record_of number number_from
returns-then-digits-le-NUMBER_DIGITS c =
    let x = c.args.digits.now in
    simp (take_all 18 x c.if-digits-le-NUMBER_DIGITS.true, drop_of_length-le x {i = 18} c.if-digits-le-NUMBER_DIGITS.true)
    (ap (λ m. label_of_numbers m 0) c.number_of.ensures)

pub number_of-requires-2 : goal.number_of-requires-2
number_of-requires-2 c =
    let x = c.args.digits.now in
    number_fits_lem _ (digits_take 18 c.requires.0) (rw (length-take 18 x) (omega arith))

pub number_of-requires-3 : goal.number_of-requires-3
number_of-requires-3 c =
    let x = c.args.digits.now in
    let all : take (length x - 18) (drop 18 x) ≡ drop 18 x =
    take_all (length x - 18) (drop 18 x) (rw (length-drop 18 x) (omega arith)) in
    rw all (number_fits_lem _ (digits_drop 18 c.requires.0)
    (rw (length-drop 18 x) (omega arith)))

pub returns : goal.returns
unfolding record_of
returns c =
    let x = c.args.digits.now in
    let all : take (length x - 18) (drop 18 x) ≡ drop 18 x =
    take_all (length x - 18) (drop 18 x) (rw (length-drop 18 x) (omega arith)) in
    ap (λ m. label_of_numbers m c.number_of-3.result) c.number_of-2.ensures
    ∙ ap (label_of_numbers _) (c.number_of-3.ensures ∙ ap number all)
