-- Laws of value lines.
use Rattle.std.proofs.Common.{Some, None}
use Prim.Native.Nat.{ℕ, ◌+◌, ◌<◌, ◌≤◌}
use mathlib.Core.Path.{◌≡◌}
use mathlib.Core.List.{List, ◌∷◌}
use borrow.Author.Tests.{le-leb, lt-leb, eq-eqb, ne_eqb}
use lib.ListN.{length, drop, drop_of_length-le}
use Rattle.decimal.specs.Value.{Found}
use Rattle.decimal.specs.Value.{value_at}
use Rattle.lines.specs.declared.columns.Columns.{Columns}
use Rattle.lines.specs.declared.values.Values.{Values}
use Rattle.lines.specs.Fields.{line_bytes, fields}
use Rattle.lines.specs.Columns.{column_at, column_digits, column_count}
use Rattle.lines.specs.Values.{field_value, with_value, no_values, values_from, values_line}

-- A field.
module _ (most : ℕ) (f : List ℕ) where
  pub field_none : value_at most f 0 ≡ None → field_value most f ≡ None
  unfolding field_value
  field_none e = rw e

  pub field_whole : {v end : ℕ} → value_at most f 0 ≡ Found v end → end ≡ length f → field_value most f ≡ Found v end
  unfolding field_value
  field_whole {end = end} e w = rw (e, eq-eqb end (length f) w)

  pub field_more : {v end : ℕ} → value_at most f 0 ≡ Found v end → (end ≡ length f → ⊥) → field_value most f ≡ None
  unfolding field_value
  field_more {end = end} e w = rw (e, ne_eqb end (length f) w)

-- Column by column.
module _ (c : Columns) (place : ℕ) (v : Values) where
  -- past the last field
  pub values_done : (fs : List (List ℕ)) → length fs ≤ place → place ≡ column_count c
      → values_from c place (drop place fs) v ≡ Some v
  unfolding values_from
  values_done fs h e = rw (drop_of_length-le fs h, eq-eqb place (column_count c) e)

  pub values_short : (fs : List (List ℕ)) → length fs ≤ place → (place ≡ column_count c → ⊥)
      → values_from c place (drop place fs) v ≡ None
  unfolding values_from
  values_short fs h n = rw (drop_of_length-le fs h, ne_eqb place (column_count c) n)

  module _ (f : List ℕ) (fs : List (List ℕ)) where
    pub values_other : field_value (column_digits (column_at c place)) f ≡ None → values_from c place (f ∷ fs) v ≡ None
    unfolding values_from
    values_other e = rw e

    pub values_value : {x end : ℕ} → field_value (column_digits (column_at c place)) f ≡ Found x end
        → values_from c place (f ∷ fs) v ≡ values_from c (place + 1) fs (with_value v place x)
    unfolding values_from
    values_value e = rw e

-- The whole line.
module _ (c : Columns) (s : List ℕ) where
  pub values_long : line_bytes < length s → values_line c s ≡ None
  unfolding values_line
  values_long h = rw (lt-leb (length s) line_bytes h)

  pub values_fit_lem : length s ≤ line_bytes → values_line c s ≡ values_from c 0 (fields s) no_values
  unfolding values_line
  values_fit_lem h = rw (le-leb (length s) line_bytes h)
