-- Looking up leading digits in a basin's part of a list of labels: refusals 3, 11 and 16, and the part of the list
-- that holds the basin's labels that begin so.
use Rattle.std.specs.Prelude.{Bool, true, false, cond, List, [], ◌∷◌, ℕ, suc, ◌+◌, ◌*◌, eqb, leb, length, take, drop, Ok, Err}
use Rattle.claims.specs.Dictionary.{is_before}
use Rattle.sheet.specs.declared.Label.{Label}
use Rattle.sheet.specs.declared.UnitName.{UnitName}
use Rattle.sheet.specs.Record.{basin_and_digits, units_in}
use Rattle.sheet.specs.Flow.{every, is_label}
use Rattle.lookup.specs.declared.Part.{Part}
use Rattle.lookup.specs.Answer.{LookupAnswer}
use Rattle.sheet.specs.Answer.{Refused}

-- the depth at which leading digits and entries are judged: the most digits of any label
abbrev pub greatest_depth : ℕ
greatest_depth = 36

-- x begins with the leading digits w
unfoldable pub begins : List ℕ → List ℕ → Bool
begins [] x = true
begins (a ∷ w) [] = false
begins (a ∷ w) (b ∷ x) = let rest = begins w x in cond (eqb a b) rest false

-- the unit m stands before the unit k: by basin and then label, labels in dictionary order
unfoldable pub stands_before : UnitName → UnitName → Bool
unfolding is_before basin_and_digits
stands_before m k = is_before (basin_and_digits m) (basin_and_digits k)

-- the unit m is of the basin that is named beside the leading digits, and its label begins with these
unfoldable pub begins_with : UnitName → UnitName → Bool
unfolding begins basin_and_digits
begins_with leading m = begins (basin_and_digits leading) (basin_and_digits m)

-- m stands before the first of the units, and each unit before the next
unfoldable pub rising_from : UnitName → List UnitName → Bool
unfolding stands_before
rising_from m [] = true
rising_from m (k ∷ units) = let rest = rising_from k units in cond (stands_before m k) rest false

-- strictly rising by basin and then label, else 16
unfoldable pub is_rising : List UnitName → Bool
unfolding rising_from
is_rising [] = true
is_rising (m ∷ units) = rising_from m units

-- how many entries pass a test
unfoldable pub counted : (UnitName → Bool) → List UnitName → ℕ
counted test [] = 0
counted test (m ∷ units) = let rest = counted test units in cond (test m) (suc rest) rest

-- how many entries stand before the leading digits in the basin named: the place where the part starts
unfoldable pub start_of : UnitName → List UnitName → ℕ
unfolding counted stands_before
start_of leading units = counted (λ m. stands_before m leading) units

-- how many entries are of the basin named and begin with the leading digits
unfoldable pub length_of : UnitName → List UnitName → ℕ
unfolding counted begins_with
length_of leading units = counted (begins_with leading) units

-- the part that holds the entries that begin so
abbrev pub part_found : UnitName → List UnitName → Part
part_found leading units = record { start = start_of leading units; length = length_of leading units }

-- 3 for fewer basins than labels, 11 for the leading digits, 11 for the entries, 16, in this order; else the part.
-- Basins past the labels are not looked at.
unfoldable pub lookup_answer : UnitName → List Label → List ℕ → LookupAnswer
unfolding is_label every units_in is_rising start_of length_of
lookup_answer leading labels basins =
    let units : List UnitName = units_in basins labels in
    let ordered : LookupAnswer = cond (is_rising units) (Ok (part_found leading units)) (Refused 16 0) in
    let judged : LookupAnswer = cond (every (is_label greatest_depth) labels) ordered (Refused 11 0) in
    let known : LookupAnswer = cond (is_label greatest_depth leading.label) judged (Refused 11 0) in
    cond (leb (length labels) (length basins)) known (Refused 3 0)

-- the refusal's number, or 0; where the part starts and how many entries it has, both 0 where the lookup is refused
pub record LookupValues : Type 0 where
  pub number : ℕ
  pub start : ℕ
  pub length : ℕ

abbrev pub lookup_values : LookupAnswer → LookupValues
lookup_values (Ok part) = record { number = 0; start = part.start; length = part.length }
lookup_values (Err refusal) = record { number = refusal.number; start = 0; length = 0 }

-- the entries of a part
abbrev pub part_of : LookupValues → List Label → List Label
part_of values labels = take values.length (drop values.start labels)

-- the part of the labels that is handed back; refused, the empty part at the start
unfoldable pub lookup_part : UnitName → List Label → List ℕ → List Label
unfolding lookup_answer
lookup_part leading labels basins = part_of (lookup_values (lookup_answer leading labels basins)) labels

-- the place, a block and a byte in it, of an entry of a slice whose first entry lies at a place; entries take 16 bytes
abbrev pub entry_place : ℕ × ℕ → ℕ → ℕ × ℕ
entry_place first i = (first.0, first.1 + 16 * i)

-- where the part that is handed back lies, empty or not
unfoldable pub lookup_place : UnitName → List Label → List ℕ → ℕ × ℕ → ℕ × ℕ
unfolding lookup_answer
lookup_place leading labels basins first =
    entry_place first (lookup_values (lookup_answer leading labels basins)).start
