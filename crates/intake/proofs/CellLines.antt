-- Cell lines: the statements of specs/CellLines, proved.
use mathlib.Core.Path.{◌≡◌, refl, sym, ap, ◌∙◌, subst}
use mathlib.Core.Bool.{Bool, true, false, cond}
use mathlib.Core.List.{List, ◌∷◌}
use Prim.Native.Nat.{ℕ, ◌/◌, ◌%◌, ◌<◌, ◌≤◌}
use native.Mathlib.Decide.{ℕ_discrete}
use native.Mathlib.Omega.{arith}
use lib.Dec.{eqb}
use lib.ListN.{length, set, get_or, length-set}
use lib.Seq.{get_or-set_same, get_or-set_other}
use borrow.Author.Tests.{eq-eqb, ne_eqb}
use Rattle.std.proofs.Common.{Some, None}
use Rattle.lines.specs.declared.columns.Columns.{Columns}
use Rattle.lines.specs.declared.values.Values.{Values}
use Rattle.lines.specs.Values.{ValuesLine}
use Rattle.lines.specs.Values.{values_line}
use Rattle.sheet.specs.Direction.{cell_number}
use Rattle.sheet.proofs.Cells.{cell_lt, cell_row, cell_col}
use Rattle.faults.specs.declared.Sizes.{Sizes}
use Rattle.faults.specs.declared.Cell.{Cell}
use Rattle.faults.specs.Faults.{cell_in, cell_count, on_sheet, byte_of, may_set, cell_fault}
use Rattle.faults.proofs.FaultLaws.{on_sheet_both, on_sheet_placed, cell_good, byte_lent}
use Rattle.intake.specs.declared.Stage.TheVariants.{TakingCells}
use Rattle.intake.specs.declared.Intake.{Intake}
use Rattle.intake.specs.Intake.{LentSheet, After, accept, refuse, cell_written, on_cells, line_in, line_after}
use Rattle.intake.specs.Takes.{Takes, takes_none, takes_line}
use Rattle.intake.specs.CellLines.{taking_cells, CellLine, with_cell, cells_listed}
use Rattle.intake.specs.CellLines.{is_named, last_code, BytesAfter, CellLines}
use Rattle.intake.proofs.StateLaws.{takes_cells}
use Rattle.intake.proofs.LineLaws.{accepted_not_refused, cell_accepted, cell_refused, cell_none}
use Rattle.intake.proofs.LineLaws.{line_good, line_none}
use Rattle.intake.proofs.Laws.{fault_of}
use Rattle.sheet.specs.Answer.{Accepted}

-- ---- one line

module _ (z : Sizes) (c : Columns) (line : List ℕ) (x : Cell) (lent : LentSheet) (l : CellLine z c line x lent) where
  abbrev byte : ℕ
  byte = byte_of z x.row x.col lent.dirs

  line_is : line_after (taking_cells z c) line lent ≡ on_cells z c (Some l.values) lent
  unfolding line_in
  line_is = line_good (taking_cells z c) line lent l.state_good ∙ ap (λ v. on_cells z c v lent) l.line_is

  fault_is : cell_fault z x lent.dirs ≡ cond (may_set x.dir byte) 0 10
  unfolding cell_fault
  fault_is = rw (l.on_sheet_lem, l.code)

  may_set_lem : may_set x.dir byte ≡ true
      → line_after (taking_cells z c) line lent ≡ accept (TakingCells z c) (cell_written z x lent)
  may_set_lem e = line_is ∙ cell_accepted z c l.values lent l.cell_is (fault_is ∙ rw e)

  withdrawal : x.dir ≡ 0 → line_after (taking_cells z c) line lent ≡ accept (TakingCells z c) (cell_written z x lent)
  unfolding may_set
  withdrawal e = may_set_lem (rw (eq-eqb _ 0 e))

  byte_0 : byte ≡ 0 → line_after (taking_cells z c) line lent ≡ accept (TakingCells z c) (cell_written z x lent)
  unfolding may_set
  byte_0 e = may_set_lem (go (eqb x.dir 0))
    where
      go : (t : Bool) → cond t true (eqb byte 0) ≡ true
      go true = refl
      go false = eq-eqb byte 0 e

  byte_not_0 : (x.dir ≡ 0 → ⊥) → (byte ≡ 0 → ⊥)
      → line_after (taking_cells z c) line lent ≡ refuse (TakingCells z c) lent 10
  unfolding may_set
  byte_not_0 some set =
      let ten : cell_fault z x lent.dirs ≡ 10 = fault_is ∙ rw (ne_eqb _ 0 some, ne_eqb _ 0 set) in
      line_is ∙ cell_refused z c l.values lent l.cell_is (λ e. omega (arith, ten, e))
      ∙ ap (refuse (TakingCells z c) lent) ten

-- ---- the bytes after one line

-- a cell of the sheet
module _ (z : Sizes) (x : Cell) (on : on_sheet z x ≡ true) where
  abbrev place : ℕ
  place = cell_number z.cols x.row x.col

  -- its byte is set, and that of no other cell
  byte_set : (row col dir : ℕ) (dirs : List ℕ) → place < length dirs → col < z.cols
      → byte_of z row col (set dirs place dir) ≡ cond (is_named row col x) dir (byte_of z row col dirs)
  byte_set row col dir dirs within l =
      elim (ℕ_discrete x.row row) [
        | no d ↦ other (λ e. d (row_same e)) ∙ rw (ne_eqb _ _ d)
        | yes same ↦ elim (ℕ_discrete x.col col) [
          | no d ↦ other (λ e. d (col_same e)) ∙ rw (eq-eqb _ _ same, ne_eqb _ _ d)
          | yes too ↦ own same too ∙ rw (eq-eqb _ _ same, eq-eqb _ _ too)
        ]
      ]
    where
      row_same : cell_number z.cols row col ≡ place → x.row ≡ row
      row_same e = sym (cell_row x.row (on_sheet_both z x on).1) ∙ ap (λ (n : ℕ). n / z.cols) (sym e) ∙ cell_row row l

      col_same : cell_number z.cols row col ≡ place → x.col ≡ col
      col_same e = sym (cell_col x.row (on_sheet_both z x on).1) ∙ ap (λ (n : ℕ). n % z.cols) (sym e) ∙ cell_col row l

      other : (cell_number z.cols row col ≡ place → ⊥)
          → byte_of z row col (set dirs place dir) ≡ byte_of z row col dirs
      other d = get_or-set_other dirs place (cell_number z.cols row col) dir 0 d

      own : x.row ≡ row → x.col ≡ col → byte_of z row col (set dirs place dir) ≡ dir
      own same too = rw (sym same, sym too) (get_or-set_same dirs place dir 0 within)

  -- nor a byte past the sheet
  past_kept : (other dir : ℕ) (dirs : List ℕ) → cell_count z ≤ other
      → get_or (set dirs place dir) other 0 ≡ get_or dirs other 0
  past_kept other dir dirs l =
      let b = on_sheet_both z x on in
      get_or-set_other dirs place other dir 0 (λ e. omega (arith, e, l, cell_lt b.0 b.1))

module _ (z : Sizes) (c : Columns) (line : List ℕ) (x : Cell) (lent : LentSheet) (l : CellLine z c line x lent) where
  withdrawn : x.dir ≡ 0 → byte_of z x.row x.col (cell_written z x lent).dirs ≡ 0
  unfolding cell_written
  withdrawn e =
      let sized = takes_cells z c lent.dirs (length lent.weights) refl l.state_good in
      get_or-set_same lent.dirs (place z x l.on_sheet_lem) x.dir 0 (on_sheet_placed z x _ sized l.on_sheet_lem).byte_lent
      ∙ e

module _ (z : Sizes) (c : Columns) (line next : List ℕ) (x y : Cell) (lent : LentSheet) where
  listed_again : CellLine z c line x lent → x.dir ≡ 0 → CellLine z c next y (cell_written z x lent) → y.row ≡ x.row
      → y.col ≡ x.col → line_after (taking_cells z c) next (cell_written z x lent)
      ≡ accept (TakingCells z c) (cell_written z y (cell_written z x lent))
  listed_again l none k row col =
      byte_0 z c next y (cell_written z x lent) k (rw (row, col) (withdrawn z c line x lent l none))

-- ---- accepted lines

-- an accepted line, while the intake takes cells
record CellTaken (z : Sizes) (c : Columns) (line : List ℕ) (lent : LentSheet) : Type 0 where
  values : Values
  line_is : values_line c line ≡ Some values
  on_sheet_lem : on_sheet z (cell_in c values) ≡ true
  byte_lent : cell_number z.cols (cell_in c values).row (cell_in c values).col < length lent.dirs
  after_is : line_after (taking_cells z c) line lent ≡ accept (TakingCells z c) (cell_written z (cell_in c values) lent)

module _ (z : Sizes) (c : Columns) (line : List ℕ) (lent : LentSheet) where
  cell_taken : (line_after (taking_cells z c) line lent).taken.outcome ≡ Accepted → CellTaken z c line lent
  unfolding line_in
  cell_taken e =
      let good = line_none (taking_cells z c) line lent e in
      read good (values_line c line) refl (line_good (taking_cells z c) line lent good)
    where
      read : fault_of (TakingCells z c) lent ≡ 0 → (v : ValuesLine) → values_line c line ≡ v
          → line_after (taking_cells z c) line lent ≡ on_cells z c v lent → CellTaken z c line lent
      read good None is a = absurd (accepted_not_refused (sym e ∙ ap (λ (b : After). b.taken.outcome) a))
      read good (Some v) is a =
          let x : Cell = cell_in c v in
          let none = cell_none z c v lent refl (sym (ap (λ (b : After). b.taken.outcome) a) ∙ e) in
          let on = (cell_good z x lent.dirs none).0 in
          let sized = takes_cells z c lent.dirs (length lent.weights) refl good in
          record {
            values = v;
            line_is = is;
            on_sheet_lem = on;
            byte_lent = byte_lent z x lent.dirs sized none;
            after_is = a ∙ cell_accepted z c v lent refl none;
          }

-- one line more in front
module _ (z : Sizes) (c : Columns) (line : List ℕ) (lines : List (List ℕ)) (end : Intake) (lent new : LentSheet)
    (t : CellTaken z c line lent) where
  abbrev x : Cell
  x = cell_in c t.values

  one_more : BytesAfter z c (cell_written z x lent) lines end new → BytesAfter z c lent (line ∷ lines) end new
  unfolding cell_written cells_listed last_code
  one_more b = record {
    bytes = λ row col l k. b.bytes row col l k
        ∙ ap (last_code row col (cells_listed c lines))
        (byte_set z x t.on_sheet_lem row col x.dir lent.dirs t.byte_lent k)
        ∙ ap (λ (v : ValuesLine). last_code row col (with_cell c v (cells_listed c lines)) (byte_of z row col lent.dirs))
        (sym t.line_is);
    others_kept = λ other l. b.others_kept other l ∙ past_kept z x t.on_sheet_lem other x.dir lent.dirs l;
    as_long = b.as_long ∙ simp length-set;
    weights_kept = b.weights_kept;
    stage_kept = b.stage_kept;
  }

module _ (z : Sizes) (c : Columns) where
  from_cells : {i end : Intake} {lent new : LentSheet} {lines : List (List ℕ)} → i ≡ taking_cells z c
      → Takes i lent lines end new → BytesAfter z c lent lines end new
  unfolding cells_listed last_code
  from_cells start takes_none = record {
    bytes = λ row col l k. refl;
    others_kept = λ other l. refl;
    as_long = refl;
    weights_kept = refl;
    stage_kept = start;
  }
  from_cells start (takes_line {i} {j = end} {T = lent} {U = new} {lines = lines} line e rest) =
      let here : line_after i line lent ≡ line_after (taking_cells z c) line lent = ap
      (λ (j : Intake). line_after j line lent) start in
      let t = cell_taken z c line lent (sym (ap (λ (a : After). a.taken.outcome) here) ∙ e) in
      let a = here ∙ t.after_is in
      one_more z c line lines end lent new t
      (subst (λ (m : LentSheet). BytesAfter z c m lines end new) (ap (λ (b : After). b.lent) a)
      (from_cells (ap (λ (b : After). b.taken.intake) a) rest))

pub cell_lines_lem : CellLines
cell_lines_lem = record {
  withdrawal = withdrawal;
  withdrawn = withdrawn;
  byte_not_0 = byte_not_0;
  byte_0 = byte_0;
  listed_again = listed_again;
  after_lines = λ z c lent lines end new all. from_cells z c refl all;
}
