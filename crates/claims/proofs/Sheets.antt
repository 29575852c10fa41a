-- What it says of a sheet that the outcome accepts it: every check is passed, and its inside cells drain to outlets.
use mathlib.Core.Path.{◌≡◌, refl, sym}
use mathlib.Core.Bool.{Bool, true, false, cond, not, true≢false}
use Prim.Native.Nat.{ℕ, ◌<◌}
use native.Mathlib.Omega.{arith}
use lib.Dec.{eqb}
use borrow.Author.Tests.{eqb-true}
use Rattle.sheet.specs.Water.{reaches_outlet}
use Rattle.sheet.specs.River.{network_by}
use Rattle.sheet.specs.Refusal.{sizes_fit, depth_fits, least_and_split_fit, slices_fit, fault_of, bad_code, undrained}
use Rattle.sheet.specs.Refusal.{refused_at, refused_if_none, weights_fit, outcome_on}
use Rattle.sheet.specs.Refusal.{outcome_from17, outcome_from3, outcome, Lent}
use Rattle.sheet.specs.Sheet.{cells, inside, next, goes_nowhere, is_outlet, first, Grid, Sheet}
use Rattle.sheet.proofs.First.{none_first, at_first}
use Rattle.sheet.proofs.Cells.{inside_lt, next_goes}
use Rattle.sheet.proofs.Within.{no_fault}
use Rattle.claims.specs.Basin.{Forest}
use Rattle.claims.proofs.Heavier.{heavier_counts}
use Rattle.claims.proofs.Fuel.{reaches_ends}
use Rattle.sheet.specs.Answer.{Next, Found, Outcome, Accepted, Refused}
use Rattle.std.specs.Prelude.{None, Some}

-- checks 1, 2, 19, 3, 17 and 4 to 6, passed
pub record Passed (S : Sheet) (L : Lent) : Type 0 where
  pub sizes : sizes_fit S.grid.rows S.grid.cols ≡ true
  pub depth : depth_fits S.depth ≡ true
  pub least_and_split : least_and_split_fit S.least S.split ≡ true
  pub slices : slices_fit S L ≡ true
  pub weights : weights_fit S.grid.rows S.weights ≡ true
  pub rest : outcome_on S.grid ≡ Accepted

-- checks 4 to 6, by what they look for
pub record PassedOn (G : Grid) : Type 0 where
  pub codes : (c : ℕ) → c < cells G → bad_code G c ≡ false
  pub some_inside : (c : ℕ) × (c < cells G) × (inside G c ≡ true)
  pub drained : (c : ℕ) → c < cells G → undrained G c ≡ false

if_passed : (n : ℕ) (b : Bool) {x : Outcome} → cond b x (Refused n 0) ≡ Accepted → (b ≡ true) × (x ≡ Accepted)
if_passed n true e = (refl, e)
if_passed n false e = let z : ◌≡◌ {A = ℕ} 0 1 = cc in absurd (omega arith)

if_no_fault : (fault : ℕ) {x : Outcome} → cond (eqb fault 0) x (Refused fault 0) ≡ Accepted
    → (fault ≡ 0) × (x ≡ Accepted)
if_no_fault fault e = go (eqb fault 0) refl e
  where
    go : (b : Bool) → eqb fault 0 ≡ b → {x : Outcome} → cond b x (Refused fault 0) ≡ Accepted
        → (fault ≡ 0) × (x ≡ Accepted)
    go true h f = (eqb-true fault 0 h, f)
    go false h f = let z : ◌≡◌ {A = ℕ} 0 1 = cc in absurd (omega arith)

pub accepted_from_17 : (S : Sheet) → outcome_from17 S ≡ Accepted
    → (weights_fit S.grid.rows S.weights ≡ true) × (outcome_on S.grid ≡ Accepted)
unfolding outcome_from17
accepted_from_17 S e = if_passed 17 (weights_fit S.grid.rows S.weights) e

pub accepted_passed : (S : Sheet) (L : Lent) → outcome S L ≡ Accepted → Passed S L
unfolding outcome outcome_from3
accepted_passed S L e =
    let a = if_no_fault (fault_of S) e in
    let p = no_fault S.grid.rows S.grid.cols S.depth S.least S.split a.0 in
    let c = if_passed 3 (slices_fit S L) a.1 in
    let w = accepted_from_17 S c.1 in
    record {
      sizes = p.0;
      depth = p.1;
      least_and_split = p.2;
      slices = c.0;
      weights = w.0;
      rest = w.1;
    }

not_found : (n : ℕ) (f : Found) {rest : Outcome} → refused_at n f rest ≡ Accepted → (f ≡ None) × (rest ≡ Accepted)
unfolding refused_at
not_found n (Some c) e = let z : ◌≡◌ {A = ℕ} 0 1 = cc in absurd (omega arith)
not_found n None e = (refl, e)

found_one : (n : ℕ) (f : Found) {rest : Outcome} → refused_if_none n f rest ≡ Accepted
    → ((c : ℕ) × (f ≡ Some c)) × (rest ≡ Accepted)
unfolding refused_if_none
found_one n (Some c) e = ((c, refl), e)
found_one n None e = let z : ◌≡◌ {A = ℕ} 0 1 = cc in absurd (omega arith)

pub passed_on : (G : Grid) → outcome_on G ≡ Accepted → PassedOn G
unfolding outcome_on
passed_on G e =
    let a = not_found 4 (first (bad_code G) (cells G)) e in
    let b = found_one 5 (first (inside G) (cells G)) a.1 in
    let c = not_found 6 (first (undrained G) (cells G)) b.1 in
    let i = at_first (inside G) (cells G) b.0.0 b.0.1 in
    record {
      codes = none_first (bad_code G) (cells G) a.0;
      some_inside = (b.0.0, i.below, i.passes);
      drained = none_first (undrained G) (cells G) c.0;
    }

module _ (G : Grid) where
  pub outlet_is : (c : ℕ) → is_outlet G c ≡ true → (inside G c ≡ true) × (next G c ≡ None)
  unfolding is_outlet
  outlet_is c e = go (inside G c) refl (next G c) refl e
    where
      go : (b : Bool) → inside G c ≡ b → (x : Next) → next G c ≡ x → cond b (goes_nowhere x) false ≡ true
          → (b ≡ true) × (x ≡ None)
      go true i None n e = (refl, refl)
      go true i (Some r) n e = absurd (true≢false (sym e))
      go false i x n e = absurd (true≢false (sym e))

  pub is_outlet_lem : (c : ℕ) → inside G c ≡ true → next G c ≡ None → is_outlet G c ≡ true
  unfolding is_outlet
  is_outlet_lem c i e = go (inside G c) i (next G c) e
    where
      go : (b : Bool) → b ≡ true → (x : Next) → x ≡ None → cond b (goes_nowhere x) false ≡ true
      go b i x e = rw (i, e)

  -- an inside cell that is not undrained comes to an outlet
  drained_reaches : (c : ℕ) → inside G c ≡ true → undrained G c ≡ false → reaches_outlet (next G) (cells G) c ≡ true
  unfolding undrained
  drained_reaches c i u = go (reaches_outlet (next G) (cells G) c) (rw i at u)
    where
      go : (b : Bool) → not b ≡ false → b ≡ true
      go true e = refl
      go false e = absurd (true≢false e)

  -- the cells of a grid whose inside cells come to outlets are a forest, whatever their areas and the mouths that count
  module _ (reaches : (c : ℕ) → inside G c ≡ true → reaches_outlet (next G) (cells G) c ≡ true) (area : ℕ → ℕ)
      (least split : ℕ) where
    pub grid_forest : 0 < cells G → Forest (network_by G area least split) (λ c. inside G c ≡ true)
    unfolding network_by
    grid_forest some = record {
      some = some;
      small = inside_lt G;
      from_inside = λ u r e. (next_goes G u e).from_inside;
      to_inside = λ u r e. (next_goes G u e).to_inside;
      ends = λ u i. (cells G, reaches_ends (next G) (cells G) u (reaches u i));
      upwards = heavier_counts area least;
    }

  module _ (P : PassedOn G) where
    -- the water of every inside cell comes to an outlet
    pub all_reach : (c : ℕ) → inside G c ≡ true → reaches_outlet (next G) (cells G) c ≡ true
    all_reach c i = drained_reaches c i (P.drained c (inside_lt G c i))

    -- the cells of the sheet are a forest
    pub forest : (area : ℕ → ℕ) (least split : ℕ) → Forest (network_by G area least split) (λ c. inside G c ≡ true)
    forest area least split =
        let s = P.some_inside in
        grid_forest all_reach area least split (omega (arith, s.1))
