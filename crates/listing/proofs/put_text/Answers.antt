-- `put_text` meets its contract: the text is copied to the places from the position on.
use Rattle.std.proofs.Common.{◌≡◌, ◌+◌, ◌-◌, length, arith, refl}
use Rattle.std.proofs.lemmas.List.{drop-drop}
use Rattle.decimal.specs.Text.{overwrite}
use Rattle.listing.proofs.put_text.Goals as goal

pub returns : goal.returns
unfolding overwrite
returns c =
    let a = c.args in
    let whole : a.at + length a.text.now - a.at ≡ length a.text.now = omega arith in record {
      next_is = refl;
      after_is = rw (whole, c.copy_from_slice.ensures.after, drop-drop (length a.text.now) a.at a.out.now) refl;
    }
