-- `cell_length` meets its contract: the digits of the five values, and the five bytes after them.
use Prim.Native.Nat.{◌+◌, ◌≤◌}
use native.Mathlib.Omega.{arith}
use Rattle.decimal.proofs.TextLaws.{text_64_bit, text_32_bit}
use Rattle.listing.specs.Listing.{label_text}
use Rattle.listing.proofs.LabelText.{label_most}
use Rattle.listing.proofs.Lengths.{cell_length_lem}
use Rattle.listing.proofs.cell_length.Goals as goal
use Rattle.listing.proofs.cell_length.Goals.{After-label_length-label_bytes}

-- all the digits of a line are at most 100
few : (c : After-label_length-label_bytes)
    → c.decimal_length-basin_digits.result + c.decimal_length-row_digits.result
    + c.decimal_length-col_digits.result + c.decimal_length-area_digits.result + c.label_length-label_bytes.result ≤ 100
few c =
    omega (
      arith,
      text_32_bit c.args.values.basin (omega arith),
      text_64_bit c.args.values.row (omega arith),
      text_64_bit c.args.values.col (omega arith),
      text_32_bit c.args.values.area (omega arith),
      label_most c.args.values.label,
    )

pub overflow_add-result : goal.overflow_add-result
overflow_add-result c = omega (arith, few c)

pub overflow_add-result-2 : goal.overflow_add-result-2
overflow_add-result-2 c = omega (arith, few c)

pub overflow_add-result-3 : goal.overflow_add-result-3
overflow_add-result-3 c = omega (arith, few c)

pub overflow_add-result-4 : goal.overflow_add-result-4
overflow_add-result-4 c = omega (arith, few c)

pub overflow_add-result-5 : goal.overflow_add-result-5
overflow_add-result-5 c = omega (arith, few c)

pub returns : goal.returns
returns c = let a = c.args in record {
  bytes = omega (arith, cell_length_lem a.values.basin a.values.row a.values.col a.values.area (label_text a.values.label));
  few = omega (arith, few (goal.at.returns c).After-label_length-label_bytes);
}
