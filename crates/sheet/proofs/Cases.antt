-- The worked cases hold of the definitions, by computation.
use mathlib.Core.Path.{◌≡◌, refl}
use Rattle.sheet.specs.Cases.{cases, listing, refusals, orders, traps, outlet_flows, weighted, words}
use Rattle.sheet.specs.Cases.{ditch, splits, nineteens, least_flows}
use Rattle.sheet.specs.Cases.{nineteenth, records, elevens, slices, long_flows}
use Rattle.sheet.specs.Cases.{basin_numbers, basins, other_basins, unit_names}
use Rattle.sheet.specs.Cases.{all_computed, all_stated}

-- cases that are small enough for a refused edit to show what it computes instead
pub small_ditch : all_computed ditch ≡ all_stated ditch
unfolding ditch
small_ditch = refl

pub small_nineteenth : all_computed nineteenth ≡ all_stated nineteenth
unfolding nineteenth
small_nineteenth = refl

pub small_basins : all_computed basin_numbers ≡ all_stated basin_numbers
unfolding basin_numbers
small_basins = refl

pub all_records : all_computed records ≡ all_stated records
unfolding records
all_records = refl

pub all_elevens : all_computed elevens ≡ all_stated elevens
unfolding elevens
all_elevens = refl

pub all_slices : all_computed slices ≡ all_stated slices
unfolding slices
all_slices = refl

pub all_long_flows : all_computed long_flows ≡ all_stated long_flows
unfolding long_flows
all_long_flows = refl

pub all_basins_lem : all_computed basins ≡ all_stated basins
unfolding basins
all_basins_lem = refl

pub all_other_basins : all_computed other_basins ≡ all_stated other_basins
unfolding other_basins
all_other_basins = refl

pub all_unit_names : all_computed unit_names ≡ all_stated unit_names
unfolding unit_names
all_unit_names = refl

-- all cases marked * in document 01
pub all_cases : all_computed cases ≡ all_stated cases
unfolding cases
all_cases = refl

pub sample_listing : all_computed listing ≡ all_stated listing
unfolding listing
sample_listing = refl

pub all_refusals : all_computed refusals ≡ all_stated refusals
unfolding refusals
all_refusals = refl

pub all_orders : all_computed orders ≡ all_stated orders
unfolding orders
all_orders = refl

pub all_traps : all_computed traps ≡ all_stated traps
unfolding traps
all_traps = refl

pub all_outlet_flows : all_computed outlet_flows ≡ all_stated outlet_flows
unfolding outlet_flows
all_outlet_flows = refl

pub all_weighted : all_computed weighted ≡ all_stated weighted
unfolding weighted
all_weighted = refl

pub all_splits : all_computed splits ≡ all_stated splits
unfolding splits
all_splits = refl

pub all_nineteens : all_computed nineteens ≡ all_stated nineteens
unfolding nineteens
all_nineteens = refl

pub all_least_flows : all_computed least_flows ≡ all_stated least_flows
unfolding least_flows
all_least_flows = refl

pub all_words : all_computed words ≡ all_stated words
unfolding words
all_words = refl
