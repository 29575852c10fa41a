-- `write_refusal` meets its contract: the heading and the two values stand one after the other.
use Prim.Native.Nat.{ℕ, ◌+◌, ◌<◌, ◌≤◌}
use mathlib.Core.Path.{◌≡◌}
use mathlib.Core.List.{List, ◌++◌}
use native.Mathlib.Omega.{arith}
use lib.ListN.{length}
use Rattle.decimal.specs.Ascii.{comma, line_feed}
use Rattle.decimal.specs.Text.{decimal_text}
use Rattle.listing.specs.Listing.{field, refusal_heading, refusal_text}
use Rattle.listing.specs.Writing.{refusal_into}
use Rattle.listing.proofs.Lengths.{refusal_length, refusal_most}
use Rattle.listing.proofs.Putting.{put_room, put_then, field_end_lem, put_whole, put_none, promises}
use Rattle.listing.proofs.write_refusal.Goals as goal
use Rattle.listing.proofs.write_refusal.Goals.{After-decimal_length-place_digits, After-put_text-number_at, Else-out-number_digits}

-- the line of values of a refusal
abbrev values : ℕ → ℕ → List ℕ
values number place = field (decimal_text number) comma ++ field (decimal_text place) line_feed

-- the bytes that were counted are those of the text, which are few
counted : (c : After-decimal_length-place_digits)
    → 14 + c.decimal_length-number_digits.result + c.decimal_length-place_digits.result + 2
    ≡ length (refusal_text c.args.number c.args.place)
counted c =
    omega (
      arith,
      c.decimal_length-number_digits.ensures,
      c.decimal_length-place_digits.ensures,
      refusal_length c.args.number c.args.place,
    )

few : (c : After-decimal_length-place_digits) → length (refusal_text c.args.number c.args.place) ≤ 39
few c = refusal_most c.args.number c.args.place c.ranges.number.fits c.ranges.place.fits

-- each part of the text has room
room : (c : Else-out-number_digits) → length (refusal_text c.args.number c.args.place) ≤ length c.args.out.now
room c = omega (arith, counted (goal.at.Else-out-number_digits c).After-decimal_length-place_digits)

heading-room : (c : Else-out-number_digits)
    → 0 + length (refusal_heading ++ values c.args.number c.args.place) ≤ length c.args.out.now
unfolding refusal_text
heading-room c = omega (arith, room c)

values-room : (c : After-put_text-number_at)
    → c.put_text-number_at.result + length (values c.args.number c.args.place) ≤ length c.put_text-number_at.new.out
values-room c =
    put_room c.put_text-number_at.ensures (values c.args.number c.args.place)
    (heading-room (goal.at.After-put_text-number_at c).Else-out-number_digits)

pub overflow_add-number_digits : goal.overflow_add-number_digits
overflow_add-number_digits c = omega (arith, counted c, few c)

pub overflow_add-number_digits-2 : goal.overflow_add-number_digits-2
overflow_add-number_digits-2 c = omega (arith, counted c, few c)

pub overflow_add-number_digits-3 : goal.overflow_add-number_digits-3
overflow_add-number_digits-3 c = omega (arith, counted c, few c)

pub returns-then-out-number_digits : goal.returns-then-out-number_digits
unfolding refusal_into
returns-then-out-number_digits c =
    let whole : List ℕ = refusal_text c.args.number c.args.place in
    let short : length c.args.out.now < length whole
    = omega (arith, counted (goal.at.returns-then-out-number_digits c).After-decimal_length-place_digits) in
    let f = promises (rw c.numbered.ensures (put_none whole c.args.out.now short)) in
    record { refusal = f.0; values = f.1 }

pub put_field-place_at-requires : goal.put_field-place_at-requires
put_field-place_at-requires c =
    omega (
      arith,
      room (goal.at.put_field-place_at-requires c).Else-out-number_digits,
      refusal_length c.args.number c.args.place,
      c.put_text-number_at.ensures.next_is,
      c.put_text-number_at.auto.out,
    )

pub put_field-requires : goal.put_field-requires
put_field-requires c =
    omega (
      arith,
      room (goal.at.put_field-requires c).Else-out-number_digits,
      refusal_length c.args.number c.args.place,
      c.put_text-number_at.ensures.next_is,
      c.put_text-number_at.auto.out,
      field_end_lem _ _ c.put_field-place_at.ensures,
      c.put_field-place_at.auto.out,
    )

pub returns : goal.returns
unfolding refusal_into refusal_text
returns c =
    let p = goal.at.returns c in
    let f = promises
    (put_whole _ _ (room p.Else-out-number_digits)
    (put_then c.put_text-number_at.ensures
    (put_then c.put_field-place_at.ensures c.put_field.ensures (values-room p.After-put_text-number_at))
    (heading-room p.Else-out-number_digits))) in
    record { refusal = f.0; values = f.1 }
