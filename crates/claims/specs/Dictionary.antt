-- Dictionary order of labels, as lists of digits.
use Rattle.std.specs.Prelude.{◌≡◌, Bool, true, false, cond, List, [], ◌∷◌, ◌⊎◌, ℕ, eqb, ltb}

-- x stands before y: where they part its digit is smaller; "a label that begins another stands before it"
unfoldable pub is_before : List ℕ → List ℕ → Bool
is_before x [] = false
is_before [] (b ∷ y) = true
is_before (a ∷ x) (b ∷ y) = let rest = is_before x y in cond (eqb a b) rest (ltb a b)

-- equal, or before
abbrev pub NotAfter : List ℕ → List ℕ → Type 0
NotAfter x y = (x ≡ y) ⊎ (is_before x y ≡ true)
