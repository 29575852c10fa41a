-- A text in a field of a width: document 02's "to the right" and "to the left".
use Rattle.std.specs.Prelude.{List, ◌++◌, ℕ, ◌-◌, length, replicate}
use Rattle.decimal.specs.Ascii.{blank}

abbrev pub blanks : ℕ → List ℕ
blanks count = replicate count blank

-- to the right: blanks, then the text
unfoldable pub to_right : ℕ → List ℕ → List ℕ
to_right width text = blanks (width - length text) ++ text

-- to the left: the text, then blanks
unfoldable pub to_left : ℕ → List ℕ → List ℕ
to_left width text = text ++ blanks (width - length text)
