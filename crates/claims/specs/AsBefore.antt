-- Least 1 and split 4 give the labels of document 01: every mouth is counted, and the four heaviest are taken. A label
-- of a sheet of depth 18 or less is one number.
use Rattle.std.specs.Prelude.{◌≡◌, true, cond, List, ℕ, ◌≤◌}
use Rattle.sheet.specs.Sheet.{Sheet, cells, inside, next}
use Rattle.sheet.specs.Area.{area}
use Rattle.sheet.specs.River.{Network, river}
use Rattle.sheet.specs.Record.{number, label_of_numbers, record_of, label_at}
use Rattle.sheet.specs.Label.{outlet_of, label, label_digits, list_from}
use Rattle.claims.specs.Demand.{AllCounted, Inside}

-- the network of a sheet in which every mouth is counted, and so many are taken
unfoldable pub every_mouth : ℕ → Sheet → Network
unfolding next area
every_mouth split S = record {
  cells = cells S.grid;
  next = next S.grid;
  area = area S;
  counted = λ v. true;
  split = split;
}

-- the digits of an inside cell's label by a network
unfoldable pub digits_by : Network → Sheet → ℕ → List ℕ
unfolding outlet_of river label
digits_by N S c = label N S.depth (river N (outlet_of S.grid c)) c

-- the labels of the inside cells that were written for a sheet with least 1 and split 4; those of outside cells are 0
pub record AsBefore (S : Sheet) (labels : List ℕ) : Type 0 where
  pub same_labels : AllCounted S.least → S.split ≡ 4 → (c : ℕ) → Inside S c
      → label_at labels c ≡ record_of (digits_by (every_mouth 4 S) S c)

-- the label of a cell as document 01 has it: "one decimal number"; outside cells have 0
unfoldable pub number_label : Sheet → ℕ → ℕ
unfolding inside label_digits number
number_label S c = cond (inside S.grid c) (number (label_digits S c)) 0

-- those of all cells, in reading order
unfoldable pub number_labels : Sheet → List ℕ
unfolding list_from number_label
number_labels S = list_from (number_label S) 0 (cells S.grid)

-- the labels of the inside cells that were written for a sheet of depth 18 or less
pub record OneNumber (S : Sheet) (labels : List ℕ) : Type 0 where
  pub same_number : S.depth ≤ 18 → (c : ℕ) → Inside S c → label_at labels c ≡ label_of_numbers (number_label S c) 0
