-- `put_label` meets its contract: the two numbers, where they are not 0, stand one after the other.
use Prim.Native.Nat.{◌+◌, ◌≤◌}
use mathlib.Core.Path.{◌≡◌}
use mathlib.Core.List.{◌++◌}
use native.Mathlib.Omega.{arith}
use lib.ListN.{length}
use Rattle.decimal.specs.Text.{decimal_text}
use Rattle.listing.specs.Listing.{label_text, field}
use Rattle.listing.proofs.LabelText.{text_of_first, text_of_rest, text_of_both}
use Rattle.listing.proofs.Lengths.{field_length}
use Rattle.listing.proofs.Putting.{front_room, put_room, put_then, field_join}
use Rattle.listing.proofs.put_label.Goals as goal
use Rattle.listing.proofs.put_label.Goals.{Else-label-eq0-2, Then-label-eq0, Then-label-eq0-2}

-- ---- what the tests show of the text
first_alone : (c : Then-label-eq0)
    → let p = c.args.label in label_text p ≡ decimal_text p.first
first_alone c = text_of_first c.args.label (omega arith) c.if-label-eq0.true

rest-alone : (c : Then-label-eq0-2)
    → let p = c.args.label in label_text p ≡ decimal_text p.rest
rest-alone c = text_of_rest c.args.label (omega arith) c.if-label-eq0-2.true

both : (c : Else-label-eq0-2)
    → let p = c.args.label in label_text p
    ≡ decimal_text p.first ++ decimal_text p.rest
both c =
    text_of_both c.args.label (omega arith) (omega arith)
    c.if-label-eq0-2.false c.if-label-eq0.false

-- both numbers and the byte have room
both-room : (c : Else-label-eq0-2)
    → let a = c.args in a.at + length
    (decimal_text a.label.first ++ field (decimal_text a.label.rest) a.after) ≤ length a.out.now
both-room c =
    let p = c.args.label in
    rw (field_join (decimal_text p.first) (decimal_text p.rest) c.args.after, ← both c)
    (omega (arith, c.requires, field_length (label_text p) c.args.after))

-- ---- the needs
pub put_field-requires : goal.put_field-requires
put_field-requires c = rw (first_alone (goal.at.put_field-requires c).Then-label-eq0) at c.requires

pub returns-then-label-eq0 : goal.returns-then-label-eq0
returns-then-label-eq0 c = rw (first_alone (goal.at.returns-then-label-eq0 c).Then-label-eq0) c.put_field.ensures

pub put_field-requires-then-label-eq0-2 : goal.put_field-requires-then-label-eq0-2
put_field-requires-then-label-eq0-2 c = rw (rest-alone (goal.at.put_field-requires-then-label-eq0-2 c).Then-label-eq0-2) at c.requires

pub returns-then-label-eq0-2 : goal.returns-then-label-eq0-2
returns-then-label-eq0-2 c = rw (rest-alone (goal.at.returns-then-label-eq0-2 c).Then-label-eq0-2) c.put_field-then-label-eq0-2.ensures

pub put_value-rest_at-requires : goal.put_value-rest_at-requires
put_value-rest_at-requires c =
    let a = c.args in
    front_room a.at (length a.out.now) (decimal_text a.label.first)
    (field (decimal_text a.label.rest) a.after) (both-room (goal.at.put_value-rest_at-requires c).Else-label-eq0-2)

pub put_field-requires-2 : goal.put_field-requires-2
put_field-requires-2 c =
    let a = c.args in
    let rest = decimal_text a.label.rest in
    omega (
      arith,
      put_room c.put_value-rest_at.ensures (field rest a.after) (both-room (goal.at.put_field-requires-2 c).Else-label-eq0-2),
      field_length rest a.after,
    )

pub returns : goal.returns
returns c =
    let a = c.args in
    let put = put_then c.put_value-rest_at.ensures c.put_field-2.ensures (both-room (goal.at.returns c).Else-label-eq0-2) in
    rw (
      both (goal.at.returns c).Else-label-eq0-2,
      ← field_join (decimal_text a.label.first) (decimal_text a.label.rest) a.after,
    ) put
