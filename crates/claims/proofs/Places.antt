-- A refusal of labelling has a number from 1 to 19, and its place is a cell of the sheet, or 0.
use mathlib.Core.Path.{◌≡◌, refl}
use mathlib.Core.Bool.{Bool, true, false, cond}
use Prim.Native.Nat.{ℕ, ◌<◌, ◌≤◌}
use native.Mathlib.Omega.{arith}
use borrow.Author.Tests.{eqb-true, eqb-false}
use lib.Dec.{eqb}
use Rattle.sheet.specs.Sheet.{Grid, Sheet, cells, inside, first}
use Rattle.sheet.specs.Refusal.{Lent, bad_code, undrained, refused_at}
use Rattle.sheet.specs.Refusal.{refused_if_none, slices_fit, weights_fit, outcome_on, outcome_from17, outcome_from3}
use Rattle.sheet.specs.Refusal.{fault_of, outcome}
use Rattle.sheet.proofs.First.{at_first}
use Rattle.sheet.proofs.Cells.{cells_most}
use Rattle.sheet.proofs.Within.{rows_cols_most, fault_most, no_fault}
use Rattle.sheet.specs.Answer.{Found, Outcome, Accepted, Refused}
use Rattle.std.specs.Prelude.{Err, None, Some}

-- a small number that is not 0, and a place that is the number of a cell
abbrev pub SmallRefusal : Outcome → Type 0
SmallRefusal Accepted = Unit
SmallRefusal (Err refusal) = (1 ≤ refusal.number) × (refusal.number ≤ 19) × (refusal.place < 65536)

-- a cell that was found lies below a bound
abbrev Below : ℕ → Found → Type 0
Below n f = (c : ℕ) → f ≡ Some c → c < n

first_below : (n : ℕ) (test : ℕ → Bool) → Below n (first test n)
first_below n test c e = (at_first test n c e).below

at_small : {n number : ℕ} (f : Found) (rest : Outcome) → n ≤ 65536 → 1 ≤ number → number ≤ 19 → Below n f
    → SmallRefusal rest
    → SmallRefusal (refused_at number f rest)
unfolding refused_at
at_small (Some c) rest m g h b s = let l = b c refl in (g, h, omega arith)
at_small None rest m g h b s = s

none_small : {number : ℕ} (f : Found) (rest : Outcome) → 1 ≤ number → number ≤ 19 → SmallRefusal rest
    → SmallRefusal (refused_if_none number f rest)
unfolding refused_if_none
none_small (Some c) rest g h s = s
none_small None rest g h s = (g, h, omega arith)

on_small : (G : Grid) → cells G ≤ 65536 → SmallRefusal (outcome_on G)
unfolding outcome_on
on_small G m =
    at_small (first (bad_code G) (cells G)) _ m (omega arith) (omega arith) (first_below (cells G) (bad_code G))
    (none_small (first (inside G) (cells G)) _ (omega arith) (omega arith)
    (at_small (first (undrained G) (cells G)) Accepted m (omega arith) (omega arith)
    (first_below (cells G) (undrained G)) tt))

from_17_small : (S : Sheet) → cells S.grid ≤ 65536 → SmallRefusal (outcome_from17 S)
unfolding outcome_from17
from_17_small S m = go (weights_fit S.grid.rows S.weights)
  where
    go : (b : Bool) → SmallRefusal (cond b (outcome_on S.grid) (Refused 17 0))
    go true = on_small S.grid m
    go false = (omega arith, omega arith, omega arith)

from_3_small : (S : Sheet) (L : Lent) → cells S.grid ≤ 65536 → SmallRefusal (outcome_from3 S L)
unfolding outcome_from3
from_3_small S L m = go (slices_fit S L)
  where
    go : (b : Bool) → SmallRefusal (cond b (outcome_from17 S) (Refused 3 0))
    go true = from_17_small S m
    go false = (omega arith, omega arith, omega arith)

pub refusal_small : (S : Sheet) (L : Lent) → SmallRefusal (outcome S L)
unfolding outcome
refusal_small S L = go (eqb (fault_of S) 0) refl
  where
    go : (b : Bool) → eqb (fault_of S) 0 ≡ b → SmallRefusal (cond b (outcome_from3 S L) (Refused (fault_of S) 0))
    go true e =
        let p = no_fault S.grid.rows S.grid.cols S.depth S.least S.split (eqb-true (fault_of S) 0 e) in
        let most = rows_cols_most S.grid.rows S.grid.cols p.0 in
        from_3_small S L (cells_most most.0 most.1)
    go false e = (
      omega (arith, eqb-false (fault_of S) 0 e),
      fault_most S.grid.rows S.grid.cols S.depth S.least S.split,
      omega arith,
    )
