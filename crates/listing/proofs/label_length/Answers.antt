-- `label_length` meets its contract: the digits of the two numbers, where they are not 0.
use mathlib.Core.Path.{sym, ap, ◌∙◌}
use native.Mathlib.Omega.{arith}
use lib.ListN.{length, length-append}
use Rattle.decimal.specs.Text.{decimal_text}
use Rattle.decimal.proofs.TextLaws.{text_64_bit}
use Rattle.listing.proofs.LabelText.{text_of_first, text_of_rest, text_of_both}
use Rattle.listing.proofs.label_length.Goals as goal

pub returns-then-label-eq0 : goal.returns-then-label-eq0
returns-then-label-eq0 c =
    c.decimal_length.ensures
    ∙ ap length (sym (text_of_first c.args.label (omega arith) c.if-label-eq0.true))

pub returns-then-label-eq0-2 : goal.returns-then-label-eq0-2
returns-then-label-eq0-2 c =
    c.decimal_length-then-label-eq0-2.ensures
    ∙ ap length (sym (text_of_rest c.args.label (omega arith) c.if-label-eq0-2.true))

pub overflow_add-result : goal.overflow_add-result
overflow_add-result c =
    let p = c.args.label in
    omega (arith, text_64_bit p.first (omega arith), text_64_bit p.rest (omega arith))

pub returns : goal.returns
returns c =
    let p = c.args.label in
    omega (
      arith,
      ap length
          (text_of_both p (omega arith) (omega arith) c.if-label-eq0-2.false
          c.if-label-eq0.false),
      length-append (decimal_text p.first) (decimal_text p.rest),
    )
