-- The statements of specs/Neither, proved.
use Rattle.std.proofs.Common.{Some, None, length, arith}
use borrow.Author.Tests.{le-ltb}
use Rattle.std.proofs.lemmas.List.Sums.{position_or_len_is}
use mathlib.Core.Path.{◌≡◌}
use Prim.Native.Nat.{ℕ}
use Rattle.lines.specs.declared.columns.Column.{Column}
use Rattle.lines.specs.declared.columns.Column.TheVariants.{Least, Split}
use Rattle.lines.specs.declared.columns.Columns.{Columns}
use Rattle.lines.specs.declared.values.Values.{Values}
use Rattle.lines.specs.Columns.{same_column, column_at, Unnamed}
use Rattle.lines.specs.Values.{value_or}
use Rattle.faults.specs.Faults.{sizes_in}
use Rattle.faults.specs.Neither.{Neither}

-- where no column has the name there is no first one
unnamed : (c : Columns) (v : Values) (x : Column) (absent : ℕ) → Unnamed c x → value_or c v (Some x) absent ≡ absent
unfolding value_or column_at
unnamed c v x absent none =
    let past = position_or_len_is (λ y. same_column y (Some x)) c.places (length c.places) None (omega arith)
    (λ k h. none k) (λ h. absurd (omega arith)) in
    rw (past, le-ltb (length c.places) (length c.places) (omega arith))

least_one : (c : Columns) (v : Values) → Unnamed c Least → (sizes_in c v).least ≡ 1
unfolding sizes_in
least_one c v none = unnamed c v Least 1 none

split_four : (c : Columns) (v : Values) → Unnamed c Split → (sizes_in c v).split ≡ 4
unfolding sizes_in
split_four c v none = unnamed c v Split 4 none

pub neither : Neither
neither = record { least_one = least_one; split_four = split_four }
