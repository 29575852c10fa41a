-- What the step put_label gives and writes: a label's digits in the last places of a lent slice, and where they start.
use Rattle.std.specs.Prelude.{cond, List, [], ◌∷◌, ◌++◌, ℕ, zero, suc, ◌/◌, ◌%◌, ◌-◌, eqb, length, take, drop, None, Some}
use Rattle.sheet.specs.declared.Label.{Label}
use Rattle.sheet.specs.Record.{decimal_digits, number_digits, digits_of}
use Rattle.sheet.specs.Flow.{are_digits, is_label}
use Rattle.digits.specs.Counts.{number_fits}
use Rattle.sheet.specs.Answer.{Found}

-- the digits of m from its last one back to a 0, at most k of them, the most significant first; of a number with up to
-- k digits, none of them 0, these are all
unfoldable pub end_digits : ℕ → ℕ → List ℕ
end_digits zero m = []
end_digits (suc k) m = let r = end_digits k (m / 10) in cond (eqb (m % 10) 0) [] (r ++ (m % 10 ∷ []))

-- those of a record's second number, and before them, where these are all of its digits, those of the first; of a
-- label these are all
unfoldable pub end_digits_of : Label → List ℕ
unfolding end_digits are_digits decimal_digits
end_digits_of label =
    let rest : List ℕ = end_digits number_digits label.rest in
    let joined : List ℕ = end_digits number_digits label.first ++ rest in
    cond (number_fits label.rest) joined rest

-- the places right before an end written with new values; the others keep theirs
abbrev pub written_before : ℕ → List ℕ → List ℕ → List ℕ
written_before end new old = take (end - length new) old ++ (new ++ drop end old)

-- the last places of a slice written with new values; the others keep theirs
abbrev pub written_last : List ℕ → List ℕ → List ℕ
written_last new old = take (length old - length new) old ++ new

-- where a number's digits start that stand right before an end; nothing for a number that is none of a label's
unfoldable pub number_start : ℕ → ℕ → Found
unfolding are_digits decimal_digits
number_start m end =
    let start : Found = Some (end - length (decimal_digits m)) in
    cond (number_fits m) start None

-- where a label's digits start that stand in the last of so many places; nothing for a record that is no label
unfoldable pub label_start : ℕ → Label → ℕ → Found
unfolding is_label digits_of
label_start depth label places =
    let start : Found = Some (places - length (digits_of label)) in
    cond (is_label depth label) start None
