-- What a lookup hands back, said by places: a rising list, and the part of it that holds a basin's labels that begin
-- with the leading digits.
use Rattle.std.specs.Prelude.{◌≡◌, true, List, ◌↔◌, ℕ, suc, ◌+◌, ◌≤◌, ◌<◌, length, get_or}
use Rattle.claims.specs.Dictionary.{is_before}
use Rattle.claims.specs.Parting.{Begins}
use Rattle.sheet.specs.declared.Label.{Label}
use Rattle.sheet.specs.declared.UnitName.{UnitName}
use Rattle.sheet.specs.Record.{digits_of, no_digits, unit_name, basin_and_digits, units_in}
use Rattle.lookup.specs.Answer.{PartFrom}
use Rattle.lookup.specs.Lookup.{lookup_answer}

-- the entry at a place
abbrev pub entry_at : List UnitName → ℕ → UnitName
entry_at units i = get_or units i (unit_name 0 no_digits)

-- its basin and the digits of its label
abbrev pub entry_digits : List UnitName → ℕ → List ℕ
entry_digits units i = basin_and_digits (entry_at units i)

-- each entry stands before the next
pub record NeighboursRise (units : List UnitName) : Type 0 where
  pub earlier : (i : ℕ) → suc i < length units → is_before (entry_digits units i) (entry_digits units (suc i)) ≡ true

-- each entry stands before all later ones
pub record PairsRise (units : List UnitName) : Type 0 where
  pub earlier : (i j : ℕ) → i < j → j < length units → is_before (entry_digits units i) (entry_digits units j) ≡ true

-- a unit of the basin that is named beside the leading digits, whose label begins with these
pub record BeginsSo (leading m : UnitName) : Type 0 where
  pub basin : m.basin ≡ leading.basin
  pub digits : Begins (digits_of leading.label) (digits_of m.label)

-- the part that starts at a place and has so many entries
pub record Exactly (leading : UnitName) (units : List UnitName) (start count : ℕ) : Type 0 where
  -- it lies in the list
  pub within : start + count ≤ length units
  -- it holds exactly the units that begin so
  pub exactly : (i : ℕ) → i < length units → ((start ≤ i) × (i < start + count)) ↔ BeginsSo leading (entry_at units i)
  -- the entries before it stand before the leading digits in the basin named
  pub ahead : (i : ℕ) → i < start → is_before (entry_digits units i) (basin_and_digits leading) ≡ true
  -- the entries after it stand after them; so an empty part stands at the place that they would take
  pub past : (i : ℕ) → start + count ≤ i → i < length units
      → is_before (basin_and_digits leading) (entry_digits units i) ≡ true

-- the lookup is not refused, and hands back that part
pub record LookupFinds (leading : UnitName) (labels : List Label) (basins : List ℕ) : Type 0 where
  pub start : ℕ
  pub count : ℕ
  pub answer : lookup_answer leading labels basins ≡ PartFrom start count
  pub part : Exactly leading (units_in basins labels) start count
