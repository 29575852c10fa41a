-- Document 02, W9, of least and split: "neither means 1 and 4". Statements about sizes_in.
use Rattle.std.specs.Prelude.{◌≡◌}
use Rattle.lines.specs.declared.columns.Columns.{Columns}
use Rattle.lines.specs.declared.columns.Column.TheVariants.{Least, Split}
use Rattle.lines.specs.declared.values.Values.{Values}
use Rattle.lines.specs.Columns.{Unnamed}
use Rattle.faults.specs.Faults.{sizes_in}

pub record Neither : Type 0 where
  pub least_one : (c : Columns) (v : Values) → Unnamed c Least → (sizes_in c v).least ≡ 1
  pub split_four : (c : Columns) (v : Values) → Unnamed c Split → (sizes_in c v).split ≡ 4
