-- `all_ones` meets its contract: `all` says whether each row's weight is 1.
use Rattle.std.proofs.Common.{rules, ◌≡◌, ◌≤◌, List, ℕ, Bool, true, length, get_or, take, arith}
use Rattle.std.specs.Prelude.{◌↔◌, EachIndex}
use Rattle.std.specs.Cmp.{both_ways}
use Rattle.std.proofs.lemmas.List.{get_or-take, length-take-le}
use Rattle.drainage.specs.Total.{all_ones}
use Rattle.drainage.proofs.Ones.{ones_all, ones_at}
use Rattle.drainage.proofs.measure.all_ones.Goals as goal

-- of the first weights, cut off from the others
abbrev EachOne : List ℕ → Type 0
EachOne first = EachIndex first (λ row. get_or first row 0 ≡ 1)

of_each : (rows : ℕ) (weights : List ℕ) (answer : Bool) → rows ≤ length weights
    → answer ≡ true ↔ EachOne (take rows weights) → answer ≡ all_ones rows weights
of_each rows weights answer room each =
    let long : length (take rows weights) ≡ rows = length-take-le rows weights room in
    both_ways answer (all_ones rows weights)
    (λ t. ones_all weights rows (λ row l. grind (arith, each.0 t row, get_or-take rows weights row 0)))
    (λ t. each.1 (λ row l. grind (arith, ones_at weights rows t row, get_or-take rows weights row 0)))

pub returns : goal.returns
returns c =
    of_each c.args.rows c.args.weights.now c.all.result c.requires (search rules)
