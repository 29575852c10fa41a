-- `weights_fit` meets its contract: `all` says whether each row's weight fits.
use Rattle.std.proofs.Common.{rules, ◌≡◌, ◌≤◌, List, ℕ, Bool, true, length, get_or, take, arith}
use Rattle.std.specs.Prelude.{◌↔◌, EachIndex}
use Rattle.std.specs.Cmp.{both_ways}
use Rattle.std.proofs.lemmas.List.{get_or-take, length-take-le}
use Rattle.sheet.specs.Refusal.{weight_fits, weights_fit}
use Rattle.sheet.proofs.Weights.{all_fit, fits_at}
use Rattle.checks.proofs.weights_fit.Goals as goal

-- of the first weights, cut off from the others
abbrev EachFits : List ℕ → Type 0
EachFits first = EachIndex first (λ row. weight_fits (get_or first row 0) ≡ true)

of_each : (rows : ℕ) (weights : List ℕ) (answer : Bool) → rows ≤ length weights
    → answer ≡ true ↔ EachFits (take rows weights) → answer ≡ weights_fit rows weights
of_each rows weights answer room each =
    let long : length (take rows weights) ≡ rows = length-take-le rows weights room in
    both_ways answer (weights_fit rows weights)
    (λ t. all_fit rows weights (λ row l. grind (arith, each.0 t row, get_or-take rows weights row 0)))
    (λ t. each.1 (λ row l. grind (arith, fits_at rows weights t row, get_or-take rows weights row 0)))

pub returns : goal.returns
returns c =
    of_each c.args.rows c.args.weights.now c.all.result c.requires (search rules)
