-- A line as fields. Document 01: "Commas part them; nothing else is allowed. A line has at most 80 bytes before its
-- line feed."
use Rattle.std.specs.Prelude.{ℕ, List, [], ◌∷◌, Bool, cond, length, leb, eqb}
use Rattle.std.specs.Str.{bytes_eq}
use Rattle.decimal.specs.Ascii.{comma}

-- a line has at most 80 bytes before its line feed
abbrev pub line_bytes : ℕ
line_bytes = 80

unfoldable pub fits_line : List ℕ → Bool
fits_line s = leb (length s) line_bytes

-- a byte in front of the first field
abbrev pub longer : ℕ → List (List ℕ) → List (List ℕ)
longer b [] = (b ∷ []) ∷ []
longer b (f ∷ fs) = (b ∷ f) ∷ fs

-- The parts of a line before, between and after its commas. A line without a comma is one field.
unfoldable pub fields : List ℕ → List (List ℕ)
fields [] = [] ∷ []
fields (b ∷ s) =
    let later : List (List ℕ) = fields s in
    cond (eqb b comma) ([] ∷ later) (longer b later)

unfoldable pub same_bytes : List ℕ → List ℕ → Bool
same_bytes s t = bytes_eq s t
