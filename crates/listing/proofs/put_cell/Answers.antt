-- `put_cell` meets its contract: the five fields of the line stand one after the other.
use Prim.Native.Nat.{ℕ, ◌+◌, ◌≤◌}
use mathlib.Core.List.{List, ◌++◌}
use native.Mathlib.Omega.{arith}
use lib.ListN.{length}
use Rattle.decimal.specs.Ascii.{comma, line_feed}
use Rattle.decimal.specs.Text.{decimal_text}
use Rattle.listing.specs.declared.CellValues.{CellValues}
use Rattle.listing.specs.Listing.{label_text, field, cell_line}
use Rattle.listing.proofs.Lengths.{cell_length_lem}
use Rattle.listing.proofs.Putting.{put_room, put_then, field_end_lem}
use Rattle.listing.proofs.put_cell.Goals as goal
use Rattle.listing.proofs.put_cell.Goals.{After-put_field-area_at, After-put_field-col_at, After-put_field-row_at, Start}

-- the digits of the five values and the five bytes after them have room
room : (c : Start)
    → let a = c.args in
    a.at + length (decimal_text a.values.basin) + length (decimal_text a.values.row) + length (decimal_text a.values.col)
    + length (decimal_text a.values.area) + length (label_text a.values.label) + 5 ≤ length a.out.now
room c =
    let a = c.args in
    omega (arith, c.requires, cell_length_lem a.values.basin a.values.row a.values.col a.values.area (label_text a.values.label))

pub put_field-row_at-requires : goal.put_field-row_at-requires
put_field-row_at-requires c = omega (arith, room (goal.at.put_field-row_at-requires c).Start)

pub put_field-col_at-requires : goal.put_field-col_at-requires
put_field-col_at-requires c =
    omega (
      arith,
      room (goal.at.put_field-col_at-requires c).Start,
      field_end_lem _ _ c.put_field-row_at.ensures,
      c.put_field-row_at.auto.out,
    )

pub put_field-area_at-requires : goal.put_field-area_at-requires
put_field-area_at-requires c =
    omega (
      arith,
      room (goal.at.put_field-area_at-requires c).Start,
      field_end_lem _ _ c.put_field-row_at.ensures,
      field_end_lem _ _ c.put_field-col_at.ensures,
      c.put_field-row_at.auto.out,
      c.put_field-col_at.auto.out,
    )

pub put_field-label_at-requires : goal.put_field-label_at-requires
put_field-label_at-requires c =
    omega (
      arith,
      room (goal.at.put_field-label_at-requires c).Start,
      field_end_lem _ _ c.put_field-row_at.ensures,
      field_end_lem _ _ c.put_field-col_at.ensures,
      field_end_lem _ _ c.put_field-area_at.ensures,
      c.put_field-row_at.auto.out,
      c.put_field-col_at.auto.out,
      c.put_field-area_at.auto.out,
    )

pub put_label-requires : goal.put_label-requires
put_label-requires c =
    omega (
      arith,
      room (goal.at.put_label-requires c).Start,
      field_end_lem _ _ c.put_field-row_at.ensures,
      field_end_lem _ _ c.put_field-col_at.ensures,
      field_end_lem _ _ c.put_field-area_at.ensures,
      field_end_lem _ _ c.put_field-label_at.ensures,
      c.put_field-row_at.auto.out,
      c.put_field-col_at.auto.out,
      c.put_field-area_at.auto.out,
      c.put_field-label_at.auto.out,
    )

-- the fields from the area, the column and the row on
abbrev area_on : CellValues → List ℕ
area_on v = field (decimal_text v.area) comma ++ field (label_text v.label) line_feed

abbrev col_on : CellValues → List ℕ
col_on v = field (decimal_text v.col) comma ++ area_on v

abbrev row_on : CellValues → List ℕ
row_on v = field (decimal_text v.row) comma ++ col_on v

-- each field has room, with those after it
basin-room : (c : Start)
    → let v = c.args.values in
    c.args.at + length (field (decimal_text v.basin) comma ++ row_on v) ≤ length c.args.out.now
unfolding cell_line
basin-room c = c.requires

row_room : (c : After-put_field-row_at)
    → c.put_field-row_at.result + length (row_on c.args.values) ≤ length c.put_field-row_at.new.out
row_room c = put_room c.put_field-row_at.ensures _ (basin-room (goal.at.After-put_field-row_at c).Start)

col-room : (c : After-put_field-col_at)
    → c.put_field-col_at.result + length (col_on c.args.values) ≤ length c.put_field-col_at.new.out
col-room c = put_room c.put_field-col_at.ensures _ (row_room (goal.at.After-put_field-col_at c).After-put_field-row_at)

area-room : (c : After-put_field-area_at)
    → c.put_field-area_at.result + length (area_on c.args.values) ≤ length c.put_field-area_at.new.out
area-room c = put_room c.put_field-area_at.ensures _ (col-room (goal.at.After-put_field-area_at c).After-put_field-col_at)

pub returns : goal.returns
unfolding cell_line
returns c =
    let p = goal.at.returns c in
    put_then c.put_field-row_at.ensures
    (put_then c.put_field-col_at.ensures
    (put_then c.put_field-area_at.ensures
    (put_then c.put_field-label_at.ensures c.put_label.ensures (area-room p.After-put_field-area_at))
    (col-room p.After-put_field-col_at))
    (row_room p.After-put_field-row_at))
    (basin-room p.Start)
