-- Laws of answers.
use mathlib.Core.Path.{◌≡◌, refl, ap}
use mathlib.Core.Bool.{Bool, true, false, cond}

-- an answer that is the same however a test goes
pub either_way : {A : Type 0} (t : Bool) (answer : A) → cond t answer answer ≡ answer
either_way true answer = refl
either_way false answer = refl

-- an answer that is the defined one has its number and values too
pub with_values : {A B : Type 0} (values : A → B) {answer defined : A} → answer ≡ defined
    → (answer ≡ defined) × (values answer ≡ values defined)
with_values values e = (e, ap values e)
