-- Document 02's word: eight directions as one 64-bit number, lowest byte first.
use Rattle.std.specs.Prelude.{cond, List, [], ◌∷◌, ℕ, zero, suc, ◌+◌, ◌*◌, ◌/◌, ◌%◌, get_or}
use Rattle.sheet.specs.Direction.{is_code}

-- the lowest k bytes of a number, lowest first
unfoldable pub bytes_of : ℕ → ℕ → List ℕ
bytes_of zero x = []
bytes_of (suc k) x = x % 256 ∷ bytes_of k (x / 256)

-- the number made of the k bytes of a list from place i on, lowest first
unfoldable pub number_at : ℕ → List ℕ → ℕ → ℕ
number_at zero bytes i = 0
number_at (suc k) bytes i = number_at k bytes (suc i) * 256 + get_or bytes i 0

-- the place of the first byte that is none of the nine codes, counted from 0, or how many bytes there are, if all are
-- codes
unfoldable pub first_bad : List ℕ → ℕ
unfolding is_code
first_bad [] = 0
first_bad (b ∷ bytes) = let r = suc (first_bad bytes) in cond (is_code b) r 0

-- the word test: 0 to 7, or 8
unfoldable pub first_bad_of : ℕ → ℕ
unfolding bytes_of first_bad
first_bad_of word = first_bad (bytes_of 8 word)
