-- `put_field` meets its contract: the number is written whole, and the byte stands at its end.
use Rattle.listing.proofs.Putting.{put_field_lem}
use Rattle.listing.proofs.put_field.Goals as goal

pub returns : goal.returns
returns c = put_field_lem _ _ c.requires c.put_value-end.ensures
