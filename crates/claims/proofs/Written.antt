-- The areas, labels and basins that labelling writes, read back from the lists: they are those of the definitions,
-- worked out on the whole sheet.
use mathlib.Core.Path.{◌≡◌, refl, ◌∙◌, ap}
use mathlib.Core.Bool.{Bool, true, cond}
use Prim.Native.Nat.{ℕ, ◌^◌, ◌≤◌, ◌<◌}
use native.Mathlib.Omega.{arith}
use lib.ListN.{length, get_or}
use Rattle.sheet.specs.Record.{Digits, record_of, digits_of, no_digits, label_at}
use Rattle.sheet.specs.Label.{outlet_of, label_digits, label_of}
use Rattle.sheet.specs.Basins.{basin_of, basin_area, basin_label, basin_areas, basin_labels, basins_of}
use Rattle.sheet.specs.Area.{area}
use Rattle.sheet.specs.River.{network, river}
use Rattle.sheet.specs.Flow.{is_label}
use Rattle.sheet.specs.Refusal.{outcome, if_accepted, lent_after, Lent}
use Rattle.sheet.specs.Sheet.{cells, inside, Sheet}
use Rattle.sheet.proofs.Lists.{written_at}
use Rattle.sheet.proofs.Slices.{label_written as written-label}
use Rattle.sheet.proofs.Digits.{digits_wider}
use Rattle.sheet.proofs.Records.{digits_record, record_is_label, first_fits, rest_fits}
use Rattle.sheet.proofs.Within.{depth_most, split_bounds}
use Rattle.sheet.proofs.Cells.{inside_lt}
use Rattle.claims.specs.Alone.{AloneMeaning, DirectMeaning, BasinsMeaning}
use Rattle.claims.specs.Demand.{Inside, digits_at, basin_at}
use Rattle.claims.specs.Basin.{Forest, Basin, InBasin}
use Rattle.claims.proofs.Rivers.{river_headed, river_covers}
use Rattle.claims.proofs.Mouths.{label_at_most, label_range}
use Rattle.claims.proofs.Basins.{lawful}
use Rattle.claims.proofs.Units.{digits_in}
use Rattle.claims.proofs.Sheets.{accepted_passed, passed_on, forest, outlet_is, Passed, PassedOn}
use Rattle.claims.proofs.BasinNumbers.{outlet_of_is}
use Rattle.claims.proofs.Alone.{area_alone, label_alone, basins_meaning}
use Rattle.sheet.specs.Answer.{Outcome, Accepted}

-- an inside cell's digits start from its own outlet
pub own_digits : (S : Sheet) (c : ℕ) → label_digits S c ≡ digits_in (network S) (outlet_of S.grid c) S.depth c
unfolding label_digits
own_digits S c = refl

module _ (S : Sheet) (L : Lent) (accepted : outcome S L ≡ Accepted) where
  pub checks : Passed S L
  checks = accepted_passed S L accepted

  pub grid_checks : PassedOn S.grid
  grid_checks = passed_on S.grid checks.rest

  pub the_forest : Forest (network S) (Inside S)
  unfolding network
  the_forest = forest S.grid grid_checks (area S) S.least S.split

  -- the basin of an inside cell, and that the cell is of it
  pub basin_of_lem : (c : ℕ) → Inside S c → Basin (network S) (Inside S) (outlet_of S.grid c)
  unfolding network
  basin_of_lem c i =
      let o = outlet_is S.grid (outlet_of S.grid c) (outlet_of_is S.grid grid_checks c i).0 in
      record { forest = the_forest; outlet_inside = o.0; ends_there = o.1 }

  pub in_own_basin : (c : ℕ) → Inside S c → InBasin (network S) (Inside S) (outlet_of S.grid c) c
  unfolding network
  in_own_basin c i = record { is_inside_lem = i; comes = (outlet_of_is S.grid grid_checks c i).1 }

  pub one_to_nine : (c : ℕ) → Inside S c → Digits 9 (label_digits S c)
  unfolding network
  one_to_nine c i =
      let O = lawful the_forest in
      let few = (split_bounds S.least S.split checks.least_and_split).1 in
      let o = outlet_of S.grid c in
      rw (own_digits S c)
      (digits_wider (omega (arith, few)) (label_range O S.depth (river (network S) o) c (river_headed O o)
      (river_covers O o c (in_own_basin c i).comes)))

  pub at_most_depth : (c : ℕ) → length (label_digits S c) ≤ S.depth
  unfolding label_digits
  at_most_depth c = label_at_most (network S) S.depth (river (network S) (outlet_of S.grid c)) c

  -- there are never more than two numbers hold
  at_most_36 : (c : ℕ) → length (label_digits S c) ≤ 36
  at_most_36 c = omega (arith, at_most_depth c, depth_most S.depth checks.depth)

  label_inside : (c : ℕ) → Inside S c → label_of S c ≡ record_of (label_digits S c)
  unfolding label_of
  label_inside c i = go (inside S.grid c) i
    where
      go : (b : Bool) → b ≡ true → cond b (record_of (label_digits S c)) no_digits ≡ record_of (label_digits S c)
      go b e = rw e

  -- ---- what was written

  pub basin_written : (c : ℕ) → Inside S c → basin_at (lent_after S L).basins c ≡ basin_of S.grid c
  unfolding lent_after basins_of
  basin_written c i = go (outcome S L) accepted
    where
      go : (o : Outcome) → o ≡ Accepted
          → get_or (if_accepted o (basins_of S.grid) L.basins) c 0 ≡ basin_of S.grid c
      go o e = rw e (written_at (basin_of S.grid) (cells S.grid) c L.basins (inside_lt S.grid c i))

  -- the area and the label that stand for an inside cell, on the sheet of its basin
  basin_area_written : (c : ℕ) → Inside S c → get_or (lent_after S L).areas c 0 ≡ basin_area S c
  unfolding lent_after basin_areas
  basin_area_written c i = go (outcome S L) accepted
    where
      go : (o : Outcome) → o ≡ Accepted → get_or (if_accepted o (basin_areas S) L.areas) c 0 ≡ basin_area S c
      go o e = rw e (written_at (basin_area S) (cells S.grid) c L.areas (inside_lt S.grid c i))

  basin_label_written : (c : ℕ) → Inside S c → label_at (lent_after S L).labels c ≡ basin_label S c
  unfolding lent_after basin_labels
  basin_label_written c i = go (outcome S L) accepted
    where
      go : (o : Outcome) → o ≡ Accepted → label_at (if_accepted o (basin_labels S) L.labels) c ≡ basin_label S c
      go o e = rw e (written-label (basin_label S) (cells S.grid) c L.labels (inside_lt S.grid c i))

  -- and on the whole sheet
  pub area_written : (c : ℕ) → Inside S c → get_or (lent_after S L).areas c 0 ≡ area S c
  area_written c i = basin_area_written c i ∙ area_alone S grid_checks c

  label_of_written : (c : ℕ) → Inside S c → label_at (lent_after S L).labels c ≡ label_of S c
  label_of_written c i = basin_label_written c i ∙ label_alone S grid_checks c

  pub label_written : (c : ℕ) → Inside S c → label_at (lent_after S L).labels c ≡ record_of (label_digits S c)
  label_written c i = label_of_written c i ∙ label_inside c i

  pub digits_written : (c : ℕ) → Inside S c → digits_at (lent_after S L).labels c ≡ label_digits S c
  digits_written c i =
      ap digits_of (label_written c i) ∙ digits_record (label_digits S c) (one_to_nine c i) (at_most_36 c)

  pub is_label_lem : (c : ℕ) → Inside S c → is_label S.depth (label_at (lent_after S L).labels c) ≡ true
  is_label_lem c i =
      rw (label_written c i)
      (record_is_label (label_digits S c) (one_to_nine c i) (at_most_36 c) S.depth (at_most_depth c))

  pub first_number_fits : (c : ℕ) → Inside S c → (label_at (lent_after S L).labels c).first < 2 ^ 64
  first_number_fits c i = rw (label_written c i) (first_fits (label_digits S c) (one_to_nine c i) (at_most_36 c))

  pub second_number_fits : (c : ℕ) → Inside S c → (label_at (lent_after S L).labels c).rest < 2 ^ 64
  second_number_fits c i = rw (label_written c i) (rest_fits (label_digits S c) (one_to_nine c i) (at_most_36 c))

  -- the digits as they were written are those from the cell's own outlet
  pub digits_from_outlet : (c : ℕ) → Inside S c
      → digits_at (lent_after S L).labels c ≡ digits_in (network S) (outlet_of S.grid c) S.depth c
  digits_from_outlet c i = digits_written c i ∙ own_digits S c

  pub label_from_outlet : (c : ℕ) → Inside S c
      → label_at (lent_after S L).labels c ≡ record_of (digits_in (network S) (outlet_of S.grid c) S.depth c)
  label_from_outlet c i = label_written c i ∙ ap record_of (own_digits S c)

  -- ---- what document 02 says of basins

  pub basins_mean : BasinsMeaning S (lent_after S L).basins
  unfolding lent_after
  basins_mean = basins_meaning S checks.rest (lent_after S L).basins L.basins (rw accepted refl)

  pub alone_meaning : AloneMeaning S (lent_after S L).areas (lent_after S L).labels (lent_after S L).basins
  unfolding basin_area basin_label
  alone_meaning = record {
    area_alone = λ c i. rw (basin_written c i) (basin_area_written c i);
    label_alone = λ c i. rw (basin_written c i) (basin_label_written c i);
  }

  pub direct_meaning : DirectMeaning S (lent_after S L).areas (lent_after S L).labels
  direct_meaning = record { area_direct = area_written; label_direct = label_of_written }
