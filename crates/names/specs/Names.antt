-- A names line. Document 01: "A line of names, then lines of values in that order", the names "in any order".
use Rattle.std.specs.Prelude.{ℕ, ◌+◌, List, [], ◌∷◌, cond, leb, Option, Some, None}
use Rattle.lines.specs.declared.columns.Column.{Column}
use Rattle.lines.specs.declared.columns.Columns.{Columns}
use Rattle.lines.specs.Fields.{fits_line, fields}
use Rattle.lines.specs.Columns.{most_columns, same_column}
use Rattle.names.specs.Columns.{column_if, column_named, no_columns, with_column, same_columns, size_columns}
use Rattle.names.specs.Columns.{split_size_columns}

-- what reading a names line gives: its columns, or None where the line breaks the file's rules
abbrev pub NamesLine : Type 0
NamesLine = Option Columns

-- The columns that fields name, read column by column from a place on: each field has to name a column, and there is a
-- place for each.
unfoldable pub names_from : ℕ → List (List ℕ) → Columns → NamesLine
unfolding column_named column_if same_column with_column
names_from place [] c = cond (leb place most_columns) (Some c) None
names_from place (f ∷ fs) c =
    let column : Option Column = column_named f in
    let rest : NamesLine = names_from (place + 1) fs (with_column c place column) in
    cond (same_column column None) None rest

abbrev pub if_expected : Columns → NamesLine → NamesLine
if_expected expected (Some c) = cond (same_columns expected c) (Some c) None
if_expected expected None = None

-- A line of the expected names in any order, each as often as it is expected, and nothing else. It gives the columns in
-- the order of the line.
unfoldable pub names_line : Columns → List ℕ → NamesLine
unfolding fits_line fields names_from same_columns
names_line expected s = cond (fits_line s) (if_expected expected (names_from 0 (fields s) no_columns)) None

abbrev pub or_else : NamesLine → NamesLine → NamesLine
or_else (Some c) other = Some c
or_else None other = other

-- A line of the sizes' names. Document 02, W9: "The sizes lines may also name `least` [..] and `split` [..]. Both or
-- neither are named".
unfoldable pub size_names_line : List ℕ → NamesLine
unfolding names_line
size_names_line s = or_else (names_line size_columns s) (names_line split_size_columns s)

-- document 01's number of an answer, and its columns: 8 where the line breaks the file's rules
pub record NamesValues : Type 0 where
  pub number : ℕ
  pub columns : Columns

abbrev pub names_values : NamesLine → NamesValues
names_values (Some c) = record { number = 0; columns = c }
names_values None = record { number = 8; columns = no_columns }
