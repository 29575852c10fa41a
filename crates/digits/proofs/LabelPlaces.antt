-- Laws of a label's digits in the last places of a slice: the second number's are put there, then the first number's
-- before them; and a label's digits are found there.
use mathlib.Core.Path.{◌≡◌, ap, ◌∙◌}
use mathlib.Core.Bool.{true, false}
use mathlib.Core.List.{List, ◌++◌, append-nil}
use Prim.Native.Nat.{ℕ, ◌+◌, ◌-◌, ◌^◌, ◌≤◌, ◌<◌}
use native.Mathlib.Omega.{arith}
use lib.ListN.{length, drop, take, length-append}
use lib.Seq.{drop_at, drop-length, length-take-le, take_all, take-append-le, take-take}
use Rattle.sheet.specs.declared.Label.{Label}
use Rattle.sheet.specs.Record.{decimal_digits, number_digits, digits_of}
use Rattle.sheet.specs.Flow.{is_label}
use Rattle.digits.specs.Counts.{number_fits, counts_fit}
use Rattle.digits.specs.LastPlaces.{end_digits, end_digits_of, written_before, written_last, number_start, label_start}
use Rattle.digits.proofs.Numbers.{fits_short, found_at, found_nothing, first_unfit, rest_unfit, label_by_counts}
use Rattle.digits.proofs.Numbers.{label_first_fits, label_rest_fits}
use Rattle.digits.proofs.NumberPlaces.{ends_all, ends_length}
use Rattle.std.specs.Prelude.{None, Some}

-- ---- written last

before_end : (x out : List ℕ) → written_before (length out) x out ≡ written_last x out
before_end x out = rw (drop-length out, append-nil)

-- x is written right before y
before_last : (x y out : List ℕ) (end : ℕ) → end + length y ≡ length out → length x ≤ end
    → written_before end x (written_last y out) ≡ written_last (x ++ y) out
before_last x y out end e h =
    let seam : length out - length y ≡ end = omega arith in
    let first : length (take end out) ≡ end = length-take-le end out (omega arith) in
    let start : length out - length (x ++ y) ≡ end - length x = omega (arith, length-append x y) in
    rw (
      seam,
      drop_at (take end out) y end first,
      take-append-le (end - length x) (take end out) y (omega arith),
      take-take (end - length x) end out (omega arith),
      start,
    )

-- ---- the two numbers, one after the other

module _ (label : Label) where
  -- a second number that is none of a label's
  pub rest_put : (before out : List ℕ) → number_start label.rest (length before) ≡ None
      → out ≡ written_before (length before) (end_digits number_digits label.rest) before
      → out ≡ written_last (end_digits_of label) before
  unfolding number_start end_digits_of
  rest_put before out e put =
      put ∙ before_end (end_digits 18 label.rest) before
      ∙ rw (found_nothing (number_fits label.rest) (length before - length (decimal_digits label.rest)) e)

  pub rest_refused : (depth places : ℕ) → number_start label.rest places ≡ None
      → None ≡ label_start depth label places
  unfolding number_start label_start
  rest_refused depth places e =
      rw (rest_unfit depth label (found_nothing (number_fits label.rest)
      (places - length (decimal_digits label.rest)) e))

  pub first_refused : (depth places end : ℕ) → number_start label.first end ≡ None
      → None ≡ label_start depth label places
  unfolding number_start label_start
  first_refused depth places end e =
      rw (first_unfit depth label (found_nothing (number_fits label.first)
      (end - length (decimal_digits label.first)) e))

  -- a second number that may be a label's: its digits start at `rest`
  module _ (places rest : ℕ) (room : 36 ≤ places) (e : number_start label.rest places ≡ Some rest)
      (fits : label.rest < 2 ^ 64) where
    rest_found : (number_fits label.rest ≡ true) × (places - length (decimal_digits label.rest) ≡ rest)
    unfolding number_start
    rest_found = found_at (number_fits label.rest) (places - length (decimal_digits label.rest)) rest e

    pub rest_counted : rest + length (decimal_digits label.rest) ≡ places
    rest_counted = omega (arith, rest_found.1, fits_short label.rest rest_found.0)

    pub rest_room : (18 ≤ rest) × (rest ≤ places)
    rest_room =
        let short = fits_short label.rest rest_found.0 in
        (omega (arith, rest_counted), omega (arith, rest_counted))

    pub both_put : (before middle out : List ℕ) → length before ≡ places
        → middle ≡ written_before (length before) (end_digits number_digits label.rest) before
        → out ≡ written_before rest (end_digits number_digits label.first) middle
        → out ≡ written_last (end_digits_of label) before
    unfolding end_digits_of
    both_put before middle out same put put_first =
        let all = ap length (ends_all 18 label.rest fits rest_found.0) in
        put_first
        ∙ ap (written_before rest (end_digits 18 label.first))
        (put ∙ before_end (end_digits 18 label.rest) before)
        ∙ before_last (end_digits 18 label.first) (end_digits 18 label.rest) before rest
        (omega (arith, rest_counted)) (omega (arith, ends_length 18 label.first, rest_room.0))
        ∙ rw rest_found.0

    -- and a first number that may be a label's: its digits start at `first`
    module _ (first : ℕ) (f : number_start label.first rest ≡ Some first) where
      first_found : (number_fits label.first ≡ true) × (rest - length (decimal_digits label.first) ≡ first)
      unfolding number_start
      first_found = found_at (number_fits label.first) (rest - length (decimal_digits label.first)) first f

      pub first_counted : first + length (decimal_digits label.first) ≡ rest
      first_counted = omega (arith, first_found.1, fits_short label.first first_found.0, rest_room.0)

      pub counts_short : (rest - first ≤ 18) × (places - rest ≤ 18)
      counts_short = (
        omega (arith, first_counted, fits_short label.first first_found.0),
        omega (arith, rest_counted, fits_short label.rest rest_found.0),
      )

      label_counted : (depth : ℕ) → is_label depth label ≡ counts_fit depth (rest - first) (places - rest)
      label_counted depth =
          let a : length (decimal_digits label.first) ≡ rest - first = omega (arith, first_counted) in
          let b : length (decimal_digits label.rest) ≡ places - rest = omega (arith, rest_counted) in
          label_by_counts depth label fits first_found.0 rest_found.0 ∙ rw (a, b)

      pub counts_refused : (depth : ℕ) → counts_fit depth (rest - first) (places - rest) ≡ false
          → None ≡ label_start depth label places
      unfolding label_start
      counts_refused depth c = rw (label_counted depth ∙ c)

      pub counts_accepted : (depth : ℕ) → counts_fit depth (rest - first) (places - rest) ≡ true
          → Some first ≡ label_start depth label places
      unfolding label_start digits_of
      counts_accepted depth c =
          let count = length-append (decimal_digits label.first) (decimal_digits label.rest) in
          let start : first ≡ places - length (decimal_digits label.first ++ decimal_digits label.rest) =
          omega (arith, first_counted, rest_counted) in
          rw (label_counted depth ∙ c) (ap Some start)

-- ---- found in the last places

-- of a label, all its digits are written
pub label_ends : (depth : ℕ) (label : Label) → label.first < 2 ^ 64 → label.rest < 2 ^ 64 → is_label depth label ≡ true
    → end_digits_of label ≡ digits_of label
unfolding end_digits_of digits_of
label_ends depth label first_fits rest_fits l =
    let f = label_first_fits depth label l in
    let r = label_rest_fits depth label l in
    rw (r, ends_all 18 label.first first_fits f, ends_all 18 label.rest rest_fits r)

module _ (depth : ℕ) (label : Label) (places : ℕ) where
  found_both : (start : ℕ) → label_start depth label places ≡ Some start
      → (is_label depth label ≡ true) × (places - length (digits_of label) ≡ start)
  unfolding label_start
  found_both start e = found_at (is_label depth label) (places - length (digits_of label)) start e

  pub found_label : (start : ℕ) → label_start depth label places ≡ Some start → is_label depth label ≡ true
  found_label start e = (found_both start e).0

  pub found_within : (start : ℕ) → label_start depth label places ≡ Some start → start ≤ places
  found_within start e = omega (arith, (found_both start e).1)

  pub found_none : label_start depth label places ≡ None → is_label depth label ≡ false
  unfolding label_start
  found_none e = found_nothing (is_label depth label) (places - length (digits_of label)) e

-- a label whose digits were put into the places `before`, which are now `out`
module _ (depth : ℕ) (label : Label) (before out : List ℕ) (start : ℕ) (first_fits : label.first < 2 ^ 64)
    (rest_fits : label.rest < 2 ^ 64) (room : 36 ≤ length before)
    (found : label_start depth label (length before) ≡ Some start)
    (put : out ≡ written_last (end_digits_of label) before) where
  all_digits : end_digits_of label ≡ digits_of label
  all_digits = label_ends depth label first_fits rest_fits (found_label depth label (length before) start found)

  starts : length before - length (digits_of label) ≡ start
  starts = (found_both depth label (length before) start found).1

  digits_room : length (digits_of label) ≤ length before
  unfolding digits_of
  digits_room =
      let l = found_label depth label (length before) start found in
      let a = fits_short label.first (label_first_fits depth label l) in
      let b = fits_short label.rest (label_rest_fits depth label l) in
      rw length-append (omega arith)

  first_places : length (take (length before - length (digits_of label)) before) ≡ start
  first_places = length-take-le (length before - length (digits_of label)) before (omega arith) ∙ starts

  -- the places from the start on
  pub found_digits : take (length before - start) (drop start out) ≡ digits_of label
  found_digits =
      let first = take (length before - length (digits_of label)) before in
      rw (put, all_digits, drop_at first (digits_of label) start first_places)
      (take_all (length before - start) (digits_of label) (omega (arith, starts, digits_room)))
