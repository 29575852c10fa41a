-- `names_line` meets its contract, by computation.
use Rattle.decimal.specs.Text.{overwrite}
use Rattle.pages.specs.Field.{to_right, to_left}
use Rattle.pages.specs.Line.{fields, line_columns}
use Rattle.pages.proofs.names_line.Goals as goal

pub returns : goal.returns
unfolding overwrite line_columns fields to_right to_left
returns c =
    rw (
      c.put_text-5.ensures.after_is,
      c.put_text-4.ensures.after_is,
      c.put_text-3.ensures.after_is,
      c.put_text-2.ensures.after_is,
      c.put_text.ensures.after_is,
    )
