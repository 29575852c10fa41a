-- `put_value` meets its contract: the number has room, and so it is written whole.
use Rattle.std.proofs.Common.{ap, ◌∙◌}
use Rattle.std.specs.Option.{unwrap_or}
use Rattle.decimal.specs.Text.{decimal_text}
use Rattle.listing.proofs.Putting.{wrote_answer, wrote_put}
use Rattle.listing.proofs.put_value.Goals as goal

pub returns : goal.returns
returns c =
    let written = c.write_decimal.ensures.written in
    let whole = wrote_answer (decimal_text c.args.value) c.args.out.now c.args.at c.requires written in
    let end = c.unwrap_or.ensures ∙ ap (λ r. unwrap_or r c.args.at) whole in
    rw end (wrote_put (decimal_text c.args.value) c.args.out.now c.args.at c.requires written whole)
