-- The sizes' names. Document 02, W9, of least and split: "Both or neither are named". Statements about size_names_line.
use Rattle.std.specs.Prelude.{◌≡◌, List, ◌⊎◌, ℕ, Some, None, length}
use Rattle.lines.specs.declared.columns.Columns.{Columns}
use Rattle.lines.specs.declared.columns.Column.TheVariants.{Rows, Cols, Depth, Least, Split}
use Rattle.lines.specs.Columns.{Unnamed}
use Rattle.names.specs.Columns.{count_column}
use Rattle.names.specs.Names.{size_names_line}

pub record SizeNames : Type 0 where
  -- the columns have five places, and no more
  pub five_places : (s : List ℕ) (c : Columns) → size_names_line s ≡ Some c → length c.places ≡ 5
  -- rows, cols and depth are named, each exactly once
  pub sizes_once : (s : List ℕ) (c : Columns) → size_names_line s ≡ Some c
      → (count_column c (Some Rows) ≡ 1) × (count_column c (Some Cols) ≡ 1) × (count_column c (Some Depth) ≡ 1)
  -- least and split are both named, each exactly once, or neither is, and then two places are left: nothing else is
  -- named in either case
  pub both_or_neither : (s : List ℕ) (c : Columns) → size_names_line s ≡ Some c
      → ((count_column c (Some Least) ≡ 1) × (count_column c (Some Split) ≡ 1)) ⊎
      (Unnamed c Least × Unnamed c Split × (count_column c None ≡ 2))
