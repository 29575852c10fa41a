-- Bytes of a text, so that a line can be written as it is read, and the bytes that the file's rules name.
use Rattle.std.specs.Prelude.{ℕ, List, [], ◌∷◌}
use Prim.Native.Char.{code}
use Prim.Native.String.{String, [] as none, ◌∷◌ as ◌then◌}

abbrev pub ascii : String → List ℕ
ascii none = []
ascii (c then s) = code c ∷ ascii s

-- the digits are the bytes from 48 to 57
abbrev pub digit_zero : ℕ
digit_zero = 48

abbrev pub digit_nine : ℕ
digit_nine = 57

-- the byte that may stand in front of a value
abbrev pub blank : ℕ
blank = 32

-- the byte between two values, and the byte that ends a line
abbrev pub comma : ℕ
comma = 44

abbrev pub line_feed : ℕ
line_feed = 10
