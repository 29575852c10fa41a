-- `write_listing` meets its contract: a fault is refused, and the heading and the lines stand one after the other.
use Prim.Native.Nat.{ℕ, ◌+◌, ◌<◌, ◌≤◌}
use mathlib.Core.Path.{◌≡◌, refl, sym, ◌∙◌}
use mathlib.Core.List.{List, ◌++◌}
use native.Mathlib.Omega.{arith}
use lib.ListN.{length}
use Rattle.std.proofs.lemmas.Result.{err_from_is_err_and}
use Rattle.sheet.proofs.Answer.{accepted_no_fault, refused_by_fault, same_refusal}
use Rattle.sheet.proofs.Answer.{refused_fault as some_fault}
use Rattle.sheet.proofs.Cells.{cells_most}
use Rattle.listing.specs.declared.LabelledSheet.{LabelledSheet}
use Rattle.listing.specs.Labelled.{CanBeListed, grid_of, lines_of}
use Rattle.listing.specs.Listing.{listing_heading, listing_text}
use Rattle.listing.specs.Writing.{text_into, listing_fault, listing_into}
use Rattle.listing.proofs.Lengths.{listing_length}
use Rattle.listing.proofs.Putting.{put_room, put_then, put_whole, put_none, promises}
use Rattle.listing.proofs.Answers.{no_fault, refused_fault, no_fault_into}
use Rattle.listing.proofs.write_listing.Goals as goal
use Rattle.listing.proofs.write_listing.Goals.{After-lines_length-length, Else-out-length, In_ok-listing_fault}

-- the text of a sheet that is lent
abbrev text : LabelledSheet → List ℕ
text a = listing_text (grid_of a) a.areas.now a.labels.now a.basins.now

none : (c : In_ok-listing_fault)
    → let a = c.args.sheet in listing_fault (grid_of a) a.areas.now a.labels.now a.basins.now ≡ 0
none c = accepted_no_fault _ (sym c.listing_fault.ensures ∙ c.in_ok-listing_fault.was)

checked : (c : In_ok-listing_fault) → CanBeListed c.args.sheet
checked c = no_fault _ _ _ _ _ _ (none c)

into : (c : In_ok-listing_fault)
    → let a = c.args.sheet in listing_into (grid_of a) a.areas.now a.labels.now a.basins.now
    c.args.out.now ≡ text_into (text a) c.args.out.now
into c = no_fault_into _ _ _ _ _ (none c)

-- the bytes that were counted are those of the text
counted : (c : After-lines_length-length) → 25 + c.lines_length-length.result ≡ length (text c.args.sheet)
counted c =
    let a = c.args.sheet in
    omega (
      arith,
      c.lines_length-length.ensures.bytes,
      listing_length (grid_of a) a.areas.now a.labels.now a.basins.now,
    )

-- the heading and the lines have room
room : (c : Else-out-length) → length (text c.args.sheet) ≤ length c.args.out.now
room c = omega (arith, counted (goal.at.Else-out-length c).After-lines_length-length)

text-room : (c : Else-out-length) → 0 + length (listing_heading ++ lines_of c.args.sheet) ≤ length c.args.out.now
unfolding listing_text
text-room c = omega (arith, room c)

pub returns-in_err-listing_fault : goal.returns-in_err-listing_fault
returns-in_err-listing_fault c =
    let e = sym c.listing_fault.ensures ∙ c.in_err-listing_fault.was in
    let p = err_from_is_err_and c.from_residual.result c.from_residual.ensures.1 in
    let f = promises (rw (p.1, p.2, same_refusal (refused_by_fault _ e)) (refused_fault _ _ _ _ _ _ refl (some_fault _ e))) in
    record { listing = f.0; values = f.1 }

pub lines_length-length-requires : goal.lines_length-length-requires
lines_length-length-requires c = checked (goal.at.lines_length-length-requires c).In_ok-listing_fault

pub overflow_add-length : goal.overflow_add-length
overflow_add-length c =
    let p = checked (goal.at.overflow_add-length c).In_ok-listing_fault in
    omega (arith, c.lines_length-length.ensures.few, cells_most p.rows_most p.cols_most)

pub returns-then-out-length : goal.returns-then-out-length
returns-then-out-length c =
    let short : length c.args.out.now < length (text c.args.sheet)
    = omega (arith, counted (goal.at.returns-then-out-length c).After-lines_length-length) in
    let f = promises
    (rw c.numbered.ensures
    (put_none _ _ short ∙ sym (into (goal.at.returns-then-out-length c).In_ok-listing_fault))) in
    record { listing = f.0; values = f.1 }

pub put_lines-requires : goal.put_lines-requires
put_lines-requires c = (
  checked (goal.at.put_lines-requires c).In_ok-listing_fault,
  put_room c.put_text-at.ensures (lines_of c.args.sheet)
      (text-room (goal.at.put_lines-requires c).Else-out-length),
)

pub returns : goal.returns
unfolding listing_text
returns c =
    let p = (goal.at.returns c).Else-out-length in
    let f = promises
    (put_whole _ _ (room p) (put_then c.put_text-at.ensures c.put_lines.ensures (text-room p))
    ∙ sym (into (goal.at.returns c).In_ok-listing_fault)) in
    record { listing = f.0; values = f.1 }
