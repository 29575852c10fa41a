-- What the calls that write a text answer, and what the lent buffer holds afterwards.
use Rattle.std.specs.Prelude.{Bool, cond, List, ℕ, leb, length, Err, Ok}
use Rattle.sheet.specs.Record.{label_places}
use Rattle.sheet.specs.Sheet.{Grid, cells}
use Rattle.sheet.specs.Refusal.{both, sizes_fit, written}
use Rattle.listing.specs.Listing.{listing_text, refusal_text}
use Rattle.sheet.specs.Answer.{Counted, Refused}

-- document 01's number of an answer, 0 where it is no refusal, and how many bytes were written
pub record ListingValues : Type 0 where
  pub number : ℕ
  pub bytes : ℕ

abbrev pub listing_values : Counted → ListingValues
listing_values (Ok count) = record { number = 0; bytes = count }
listing_values (Err refusal) = record { number = refusal.number; bytes = 0 }

-- the answer of a call that writes, and the buffer afterwards
pub record Listed : Type 0 where
  pub answer : Counted
  pub buffer : List ℕ

-- a refused call writes no byte
abbrev pub refused : ℕ → List ℕ → Listed
refused number buffer = record { answer = Refused number 0; buffer = buffer }

-- the first bytes of the buffer are the text, and the others keep their values
abbrev pub accepted : List ℕ → List ℕ → Listed
accepted text buffer = record { answer = Ok (length text); buffer = written text buffer }

-- a text in a lent buffer, which 3 refuses where it is too short
unfoldable pub text_into : List ℕ → List ℕ → Listed
text_into text buffer = cond (leb (length text) (length buffer)) (accepted text buffer) (refused 3 buffer)

-- with n = rows × columns: n directions, n areas, n labels, where a label is two numbers of its slice, n basins
unfoldable pub places_fit : Grid → List ℕ → List ℕ → List ℕ → Bool
unfolding label_places
places_fit G areas labels basins =
    both (leb (cells G) (length G.dirs))
    (both (leb (cells G) (length areas))
    (both (leb (cells G) (label_places (length labels))) (leb (cells G) (length basins))))

-- the number of the first of checks 1 and 3 (for the slices) that fails; 0 if none does
unfoldable pub listing_fault : Grid → List ℕ → List ℕ → List ℕ → ℕ
unfolding sizes_fit places_fit
listing_fault G areas labels basins =
    cond (sizes_fit G.rows G.cols) (cond (places_fit G areas labels basins) 0 3) 1

-- the listing in a lent buffer: 1, then 3
unfoldable pub listing_into : Grid → List ℕ → List ℕ → List ℕ → List ℕ → Listed
unfolding sizes_fit places_fit listing_text text_into
listing_into G areas labels basins buffer =
    let rest : Listed = text_into (listing_text G areas labels basins) buffer in
    cond (sizes_fit G.rows G.cols) (cond (places_fit G areas labels basins) rest (refused 3 buffer))
    (refused 1 buffer)

-- the two lines after a refusal in a lent buffer
unfoldable pub refusal_into : ℕ → ℕ → List ℕ → Listed
unfolding refusal_text text_into
refusal_into number place buffer = text_into (refusal_text number place) buffer
