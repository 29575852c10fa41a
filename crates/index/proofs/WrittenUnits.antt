-- The units that were written for the inside cells of an accepted sheet, by their basins and digits.
use mathlib.Core.Path.{◌≡◌, sym, ◌∙◌, ap}
use mathlib.Core.List.{◌∷◌}
use Prim.Native.Nat.{ℕ, ◌≤◌}
use native.Mathlib.Omega.{arith}
use lib.ListN.{length}
use Rattle.sheet.specs.Sheet.{Sheet}
use Rattle.sheet.specs.Record.{record_of, unit_at, basin_and_digits, unit_digits_at}
use Rattle.sheet.specs.Label.{label_digits}
use Rattle.sheet.specs.Basins.{basin_of, basin_digits}
use Rattle.sheet.specs.Refusal.{Lent, outcome, lent_after}
use Rattle.sheet.proofs.Within.{depth_most}
use Rattle.claims.specs.Demand.{Inside}
use Rattle.claims.proofs.Written.{checks, one_to_nine, at_most_depth, label_written, digits_written, basin_written}
use Rattle.index.specs.Units.{unit_of}
use Rattle.index.proofs.UnitNames.{same_unit_lem, digits_back, unit_back}
use Rattle.sheet.specs.Answer.{Accepted}

module _ (S : Sheet) (L : Lent) (accepted : outcome S L ≡ Accepted) where
  -- a label has at most 36 digits
  pub short : (c : ℕ) → length (label_digits S c) ≤ 36
  short c = omega (arith, at_most_depth S L accepted c, depth_most S.depth (checks S L accepted).depth)

  pub unit_digits_written : (c : ℕ) → Inside S c
      → unit_digits_at (lent_after S L).basins (lent_after S L).labels c ≡ basin_digits S c
  unfolding basin_and_digits basin_digits
  unit_digits_written c i =
      let b = basin_written S L accepted c i in
      let d = digits_written S L accepted c i in λ k. b k ∷ d k

  pub unit_written : (c : ℕ) → Inside S c
      → unit_at (lent_after S L).basins (lent_after S L).labels c ≡ unit_of (basin_digits S c)
  unfolding unit_of basin_digits
  unit_written c i = same_unit_lem (basin_written S L accepted c i) (label_written S L accepted c i)

  -- basin and digits, of the name that they give
  pub digits_told : (c : ℕ) → Inside S c → basin_and_digits (unit_of (basin_digits S c)) ≡ basin_digits S c
  unfolding basin_digits
  digits_told c i =
      digits_back (basin_of S.grid c) (label_digits S c) (one_to_nine S L accepted c i) (short c)

  -- the unit that stands for a cell is told from its basin and digits
  pub unit_told : (c : ℕ) → Inside S c
      → unit_of (unit_digits_at (lent_after S L).basins (lent_after S L).labels c)
      ≡ unit_at (lent_after S L).basins (lent_after S L).labels c
  unit_told c i =
      unit_back (unit_at (lent_after S L).basins (lent_after S L).labels c)
      (ap record_of (digits_written S L accepted c i) ∙ sym (label_written S L accepted c i))
