-- How many units stand before the leading digits in their basin, and before the end of those that begin so, by padded
-- labels.
use mathlib.Core.Path.{◌≡◌, sym, ◌∙◌}
use mathlib.Core.Bool.{Bool, true}
use mathlib.Core.List.{List}
use Prim.Native.Nat.{ℕ, ◌+◌}
use Rattle.sheet.specs.declared.Label.{Label}
use Rattle.sheet.specs.declared.UnitName.{UnitName}
use Rattle.sheet.specs.Record.{units_in}
use Rattle.sheet.specs.Flow.{every, is_label}
use Rattle.sheet.proofs.Units.{units_pass}
use Rattle.lookup.specs.Lookup.{greatest_depth, start_of, length_of}
use Rattle.lookup.specs.Padded.{padded, padded_end, is_below, count_below}
use Rattle.lookup.proofs.Counted.{counted_agree}
use Rattle.lookup.proofs.Exactly.{ahead, not_past, not_past_counted}
use Rattle.lookup.proofs.PaddedOrder.{unit_before_padded, unit_not_past_padded}

-- the unit has a label
abbrev labelled : UnitName → Bool
labelled m = is_label greatest_depth m.label

module _ (leading : UnitName) (basins : List ℕ) (labels : List Label) (label : labelled leading ≡ true)
    (entries : every (is_label greatest_depth) labels ≡ true) where
  abbrev units : List UnitName
  units = units_in basins labels

  all_labelled : every labelled units ≡ true
  all_labelled = units_pass (is_label greatest_depth) basins labels entries

  pub start_below : count_below leading.basin (padded leading.label) units ≡ start_of leading units
  unfolding count_below start_of
  start_below =
      sym (counted_agree labelled (ahead leading) (is_below leading.basin (padded leading.label)) units
      (λ m e. unit_before_padded m leading e label) all_labelled)

  pub end_below : count_below leading.basin (padded_end leading.label) units
      ≡ start_of leading units + length_of leading units
  unfolding count_below
  end_below =
      sym (counted_agree labelled (not_past leading) (is_below leading.basin (padded_end leading.label)) units
      (λ m e. unit_not_past_padded m leading e label) all_labelled)
      ∙ not_past_counted leading units
