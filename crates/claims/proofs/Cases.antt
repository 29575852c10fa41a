-- Worked cases of dictionary order: 9 stands before 91, which it begins, and 12 before 2; a label of 18 digits before
-- one of 19 that it begins, and labels that part at the 19th digit by that digit.
use mathlib.Core.Path.{◌≡◌, refl}
use mathlib.Core.Bool.{Bool, true, false}
use mathlib.Core.List.{List, [], ◌∷◌}
use Prim.Native.Nat.{ℕ}
use Rattle.sheet.specs.Record.{digits_of, label_of_numbers}
use Rattle.claims.specs.Dictionary.{is_before}

-- the digits of two numbers
abbrev digits : ℕ → ℕ → List ℕ
digits first rest = digits_of (label_of_numbers first rest)

abbrev nines : ℕ
nines = 999999999999999999

abbrev pub computed : List Bool
unfolding is_before digits_of
computed =
    is_before (digits 9 0) (digits 91 0)
    ∷ is_before (digits 91 0) (digits 9 0)
    ∷ is_before (digits 12 0) (digits 2 0)
    ∷ is_before (digits 2 0) (digits 12 0)
    ∷ is_before (digits 0 0) (digits 1 0)
    ∷ is_before (digits 7 0) (digits 7 0)
    ∷ is_before (digits nines 0) (digits nines 1)
    ∷ is_before (digits nines 12) (digits nines 2)
    ∷ is_before (digits nines 2) (digits nines 12)
    ∷ []

pub dictionary_cases : computed ≡ (true ∷ false ∷ true ∷ false ∷ true ∷ false ∷ true ∷ true ∷ false ∷ [])
unfolding computed
dictionary_cases = refl
