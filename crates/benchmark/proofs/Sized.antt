-- What the test for a byte for each cell tells.
use mathlib.Core.Path.{◌≡◌}
use mathlib.Core.Bool.{true}
use mathlib.Core.List.{List}
use Prim.Native.Nat.{ℕ, ◌*◌}
use lib.Dec.{leb}
use lib.ListN.{length}
use borrow.Author.Tests.{leb-true}
use Rattle.sheet.specs.Refusal.{sizes_fit}
use Rattle.sheet.proofs.Within.{both_true, rows_cols_most, cols_some}
use Rattle.directions.specs.Sizes.{Sized}
use Rattle.benchmark.specs.Cells.{has_cells}

pub sized : (rows cols : ℕ) (dirs : List ℕ) → has_cells rows cols dirs ≡ true → Sized rows cols dirs
unfolding has_cells
sized rows cols dirs e =
    let b = both_true (sizes_fit rows cols) (leb (rows * cols) (length dirs)) e in
    let most = rows_cols_most rows cols b.0 in
    record {
      rows_most = most.0;
      cols_most = most.1;
      cols_some = cols_some rows cols b.0;
      long = leb-true (rows * cols) (length dirs) b.1;
    }
