-- The labels of the one basin's index as units: how many, which stands at a place, and their order.
use mathlib.Core.Path.{◌≡◌, refl, sym, ap, ◌∙◌}
use mathlib.Core.Bool.{true, true≢false}
use mathlib.Core.List.{List}
use mathlib.Core.Logic.{◌≢◌}
use Prim.Native.Nat.{ℕ, ◌≤◌, ◌<◌}
use native.Mathlib.Decide.{dec_lt}
use native.Mathlib.Omega.{arith}
use lib.ListN.{length, get_or, replicate, length-replicate, get_or-replicate}
use Rattle.sheet.specs.declared.Label.{Label}
use Rattle.sheet.specs.Record.{digits_of, no_digits, unit_name, basin_and_digits}
use Rattle.sheet.proofs.Units.{units_length, unit_listed}
use Rattle.claims.specs.Dictionary.{is_before}
use Rattle.claims.proofs.Dictionary.{before_irreflexive}
use Rattle.lookup.specs.Lookup.{stands_before, is_rising}
use Rattle.lookup.specs.Exactly.{entry_at, entry_digits}
use Rattle.lookup.proofs.Rising.{rising_pairs}
use Rattle.plan.specs.Plan.{of_one_basin, units_of_one}

module _ (labels : List Label) where
  -- the number of each one's basin
  abbrev basins : List ℕ
  basins = replicate (length labels) 1

  basins_enough : length labels ≤ length basins
  basins_enough = omega (arith, length-replicate {A = ℕ} (length labels) 1)

  pub units_of_one_length : length (units_of_one labels) ≡ length labels
  unfolding units_of_one
  units_of_one_length = units_length basins labels basins_enough

  pub unit_of_one : (i : ℕ) → i < length labels → entry_at (units_of_one labels) i ≡ of_one_basin (get_or labels i no_digits)
  unfolding units_of_one
  unit_of_one i h =
      unit_listed basins labels i (omega (arith, basins_enough)) h
      ∙ ap (λ (basin : ℕ). unit_name basin (get_or labels i no_digits)) (get_or-replicate {A = ℕ} (length labels) i 1 0 h)

-- units of one basin stand as the digits of their labels do
pub before_of_one : (p q : Label) → stands_before (of_one_basin p) (of_one_basin q) ≡ is_before (digits_of p) (digits_of q)
unfolding stands_before basin_and_digits is_before
before_of_one p q = refl

module _ (labels : List Label) where
  pub digits_of_one : (i j : ℕ) → i < length labels → j < length labels
      → is_before (entry_digits (units_of_one labels) i) (entry_digits (units_of_one labels) j)
      ≡ is_before (digits_of (get_or labels i no_digits)) (digits_of (get_or labels j no_digits))
  unfolding basin_and_digits is_before
  digits_of_one i j h g = rw (unit_of_one labels i h, unit_of_one labels j g)

  -- where they rise, each label stands before all later ones
  pub rising_of_one : is_rising (units_of_one labels) ≡ true → (i j : ℕ) → i < j → j < length labels
      → is_before (digits_of (get_or labels i no_digits)) (digits_of (get_or labels j no_digits)) ≡ true
  rising_of_one e i j l h =
      sym (digits_of_one i j (omega arith) h)
      ∙ (rising_pairs (units_of_one labels) e).earlier i j l (omega (arith, units_of_one_length labels))

  -- so different places hold different labels
  pub places_differ : is_rising (units_of_one labels) ≡ true → (i j : ℕ) → i < length labels → j < length labels → i ≢ j
      → get_or labels i no_digits ≢ get_or labels j no_digits
  places_differ rises i j h l n e =
      elim (dec_lt i j) [
        | yes k ↦ earlier_differs i j k l e
        | no k ↦ earlier_differs j i (omega arith) h (sym e)
      ]
    where
      earlier_differs : (i j : ℕ) → i < j → j < length labels → get_or labels i no_digits ≢ get_or labels j no_digits
      earlier_differs i j k l e =
          let before = rw e at (rising_of_one rises i j k l) in
          true≢false (sym before ∙ before_irreflexive (digits_of (get_or labels j no_digits)))
