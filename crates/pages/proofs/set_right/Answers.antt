-- `set_right` meets its contract: the number stands before the end of its field.
use mathlib.Core.Path.{ap, ◌∙◌}
use Prim.Native.Nat.{ℕ, ◌-◌}
use Rattle.decimal.specs.Text.{decimal_text, overwrite}
use Rattle.pages.proofs.set_right.Goals as goal

pub returns : goal.returns
returns c =
    let a = c.args in
    c.put_value.ensures.after_is
    ∙ ap (λ (k : ℕ). overwrite a.line.now (a.end - k) (decimal_text a.value)) c.decimal_length-digits.ensures
