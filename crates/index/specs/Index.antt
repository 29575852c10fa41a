-- Document 02's call that labels a sheet and fills the index of its units: its refusals in order, and what the four
-- slices of the index hold afterwards.
use Rattle.std.specs.Prelude.{Bool, cond, List, map, ℕ, leb, length, Err, Ok}
use Rattle.sheet.specs.Sheet.{Sheet}
use Rattle.sheet.specs.Record.{numbers_of, label_places}
use Rattle.sheet.specs.Refusal.{Lent, both, outcome, written}
use Rattle.index.specs.Units.{UnitEntry, units}
use Rattle.sheet.specs.Answer.{Outcome, Counted, Accepted, Refused}

-- what is lent for the index beside what labelling is lent: labels (two 64-bit numbers each), outlet cells (32-bit),
-- counts (32-bit), basins (32-bit)
pub record LentIndex : Type 0 where
  pub labels : List ℕ
  pub outlets : List ℕ
  pub counts : List ℕ
  pub basins : List ℕ

abbrev pub lent_index : List ℕ → List ℕ → List ℕ → List ℕ → LentIndex
lent_index labels outlets counts basins = record {
  labels = labels;
  outlets = outlets;
  counts = counts;
  basins = basins;
}

-- each of the four slices has a place for each of so many units
unfoldable pub index_fits : ℕ → LentIndex → Bool
unfolding label_places
index_fits units I =
    both (leb units (label_places (length I.labels)))
    (both (leb units (length I.outlets))
    (both (leb units (length I.counts)) (leb units (length I.basins))))

-- the number of units; 3 where one of the four slices is too short for them
unfoldable pub room_for : ℕ → LentIndex → Counted
unfolding index_fits
room_for units I = cond (index_fits units I) (Ok units) (Refused 3 0)

-- all refusals of labelling, with their places, then 3
unfoldable pub indexed_on : Outcome → ℕ → LentIndex → Counted
unfolding room_for
indexed_on Accepted units I = room_for units I
indexed_on (Err refusal) units I = Err refusal

unfoldable pub indexed : Sheet → Lent → LentIndex → Counted
unfolding outcome units indexed_on
indexed S L I = indexed_on (outcome S L) (length (units S)) I

-- the number of units, with number and place 0; or document 01's number and place of the refusal, with units 0
pub record IndexedValues : Type 0 where
  pub number : ℕ
  pub place : ℕ
  pub units : ℕ

abbrev pub indexed_values : Counted → IndexedValues
indexed_values (Ok units) = record { number = 0; place = 0; units = units }
indexed_values (Err refusal) = record { number = refusal.number; place = refusal.place; units = 0 }

-- the first places of the four slices written with the entries' labels, outlets, counts and basins; the others keep
-- theirs
abbrev pub written_index : List UnitEntry → LentIndex → LentIndex
written_index entries I =
    lent_index (written (numbers_of (map (λ (e : UnitEntry). e.unit.label) entries)) I.labels)
    (written (map (λ (e : UnitEntry). e.outlet) entries) I.outlets)
    (written (map (λ (e : UnitEntry). e.count) entries) I.counts)
    (written (map (λ (e : UnitEntry). e.unit.basin) entries) I.basins)

-- refused, no place of the four slices is written
abbrev pub if_indexed : Counted → List UnitEntry → LentIndex → LentIndex
if_indexed (Ok units) entries I = written_index entries I
if_indexed (Err refusal) entries I = I

-- what the four slices hold after the call; areas, labels, basins and work places are those after labelling (lent_after)
unfoldable pub index_after : Sheet → Lent → LentIndex → LentIndex
unfolding indexed units numbers_of
index_after S L I = if_indexed (indexed S L I) (units S) I
