-- The claims of specs/ but those of Flow.antt and Alone.antt, for every sheet that the outcome of labelling accepts,
-- about the basins and labels that it writes.
use mathlib.Core.Path.{◌≡◌, sym, ◌∙◌, ap}
use mathlib.Core.Bool.{true}
use mathlib.Core.List.{List}
use Prim.Native.Nat.{ℕ, ◌<◌, ◌≤◌}
use native.Mathlib.Omega.{arith}
use lib.Dec.{leb}
use borrow.Author.Tests.{le-leb}
use Rattle.sheet.specs.Water.{DrainsTo}
use Rattle.sheet.specs.Record.{record_of, label_at}
use Rattle.sheet.specs.Area.{sum_over, weight, area}
use Rattle.sheet.specs.River.{network}
use Rattle.sheet.specs.Label.{outlet_of}
use Rattle.sheet.specs.Basins.{basin_of}
use Rattle.sheet.specs.Refusal.{outcome, lent_after, Lent}
use Rattle.sheet.specs.Sheet.{cells, inside, next, Grid, Sheet}
use Rattle.sheet.proofs.Cells.{cells_most, inside_lt, row_lt}
use Rattle.sheet.proofs.Within.{cols_some, rows_cols_most}
use Rattle.sheet.proofs.Weights.{cell_weight}
use Rattle.claims.specs.Basin.{InBasin}
use Rattle.claims.specs.Demand.{Inside, DemandThreeOf, OutletRuleOf, Shares, AllCounted, DemandThree, OutletRule}
use Rattle.claims.specs.Demand.{OfBasin, digits_at}
use Rattle.claims.specs.Bounds.{RiversAreWhole, most_area, AreaBounds, Unweighted, UnweightedAreas, LabelBounds}
use Rattle.claims.proofs.Rivers.{river_whole}
use Rattle.claims.proofs.Units.{drains_map, digits_in}
use Rattle.claims.proofs.Basins.{lawful, outlet_rule_holds, demand_three_holds}
use Rattle.claims.proofs.Sums.{sum_most, sum_each}
use Rattle.claims.proofs.GridLaws.{area_least, area_most, area_count, area_count_most, area_adds}
use Rattle.claims.proofs.BasinNumbers.{outlet_of_is, same_outlet, way_basin}
use Rattle.claims.proofs.Written.{checks, grid_checks, the_forest, basin_of_lem, in_own_basin, basin_written}
use Rattle.claims.proofs.Written.{label_from_outlet, digits_from_outlet, is_label_lem}
use Rattle.claims.proofs.Written.{first_number_fits, second_number_fits}
use Rattle.sheet.specs.Answer.{Next, Accepted}

-- ---- the same claims for the same cells, said in another way, and digits that agree on them

module _ (next : ℕ → Next) {inside named : ℕ → Type 0} (to : (c : ℕ) → inside c → named c)
    (from : (c : ℕ) → named c → inside c) {digits written : ℕ → List ℕ}
    (same : (c : ℕ) → named c → written c ≡ digits c) where
  to_written : (w : List ℕ) (x : ℕ) → Shares inside digits w x → Shares named written w x
  to_written w x k =
      let i = to x k.is_inside_lem in
      record { is_inside_lem = i; begins = rw (same x i) k.begins }

  from_written : (w : List ℕ) (x : ℕ) → Shares named written w x → Shares inside digits w x
  from_written w x k =
      record { is_inside_lem = from x k.is_inside_lem; begins = rw (same x k.is_inside_lem) at k.begins }

  drains_to_written : (w : List ℕ) (c : ℕ) → DrainsTo next (Shares inside digits w) c
      → DrainsTo next (Shares named written w) c
  drains_to_written w c d = record {
    among = to_written w c d.among;
    drains = λ x k. drains_map (to_written w) (d.drains x (from_written w x k));
  }

  drains_from_written : (w : List ℕ) (c : ℕ) → DrainsTo next (Shares named written w) c
      → DrainsTo next (Shares inside digits w) c
  drains_from_written w c d = record {
    among = from_written w c d.among;
    drains = λ x k. drains_map (from_written w) (d.drains x (to_written w x k));
  }

  -- about labels that are equal where their digits are
  same_demand : (depth least : ℕ) {Label : Type 0} (label : ℕ → Label)
      → ((p q : ℕ) → named p → named q → digits p ≡ digits q → label p ≡ label q)
      → DemandThree next inside depth least digits digits → DemandThree next named depth least label written
  same_demand depth least label alike D = record {
    labels_part =
        λ p q i j d. rw (same p i, same q j) (D.labels_part p q (from p i) (from q j) (λ e. d (alike p q i j e)));
    passed_meets =
        λ p q i j k t h. rw (same p i, same q j)
        (D.passed_meets p q (from p i) (from q j) k (rw (same p i, same q j) at t) h);
    cell_rule =
        λ one p q i j l k t. rw (same p i, same q j)
        (D.cell_rule one p q (from p i) (from q j) (rw (same p i) at l) k (rw (same p i, same q j) at t));
    one_outlet = λ w c k.
        let o = D.one_outlet w c (from_written w c k) in
        record {
          cell = o.cell;
          drains = drains_to_written w o.cell o.drains;
          only = λ t h. o.only t (drains_from_written w t h);
        };
  }

  same_outlet_rule : OutletRule next inside digits → OutletRule next named written
  same_outlet_rule D = record {
    rule = λ p q i j o d k t.
        rw (same p i, same q j)
        (D.rule p q (from p i) (from q j) o (drains_from_written (digits p) o (rw (same p i) at d)) k
        (rw (same p i, same q j) at t));
  }

-- ---- demand 3 and the outlet rule
module _ (S : Sheet) (L : Lent) (accepted : outcome S L ≡ Accepted) where
  -- the weight of a cell
  own_weight : (c : ℕ) → c < cells S.grid → (1 ≤ weight S c) × (weight S c ≤ 1000)
  own_weight =
      let p = checks S L accepted in
      cell_weight S (cols_some S.grid.rows S.grid.cols p.sizes) p.weights

  least_area : (c : ℕ) → Inside S c → 1 ≤ area S c
  least_area = area_least S (λ c i. (own_weight c (inside_lt S.grid c i)).0)

  -- where least is 1, every mouth counts
  pub counts : AllCounted S.least → (v : ℕ) → Inside S v → leb S.least (area S v) ≡ true
  counts one v i = le-leb S.least (area S v) (omega (arith, one, least_area v i))

  abbrev G : Grid
  G = S.grid

  abbrev basins : List ℕ
  basins = (lent_after S L).basins

  abbrev labels : List ℕ
  labels = (lent_after S L).labels

  -- the cells that have the basin number of a cell p are those of the basin of p's outlet
  module _ (basin p : ℕ) (of : OfBasin S basins basin p) where
    same_number : (x : ℕ) → OfBasin S basins basin x → basin_of G x ≡ basin_of G p
    same_number x k =
        sym (basin_written S L accepted x k.is_inside_lem)
        ∙ (k.numbered ∙ (sym of.numbered ∙ basin_written S L accepted p of.is_inside_lem))

    its_outlet : (x : ℕ) → OfBasin S basins basin x → outlet_of G x ≡ outlet_of G p
    its_outlet x k =
        same_outlet G (grid_checks S L accepted) x p k.is_inside_lem of.is_inside_lem (same_number x k)

    of_outlet : (x : ℕ) → OfBasin S basins basin x → InBasin (network S) (Inside S) (outlet_of G p) x
    of_outlet x k = rw (its_outlet x k) at (in_own_basin S L accepted x k.is_inside_lem)

    by_number : (x : ℕ) → InBasin (network S) (Inside S) (outlet_of G p) x → OfBasin S basins basin x
    unfolding network
    by_number x k =
        let P = grid_checks S L accepted in
        let own = outlet_of_is G P p of.is_inside_lem in
        let same : basin_of G x ≡ basin_of G p = way_basin G P x (outlet_of G p) k.comes
        ∙ sym (way_basin G P p (outlet_of G p) own.1) in
        record {
          is_inside_lem = k.is_inside_lem;
          numbered =
              basin_written S L accepted x k.is_inside_lem
              ∙ (same ∙ (sym (basin_written S L accepted p of.is_inside_lem) ∙ of.numbered));
        }

    its_digits : (x : ℕ) → OfBasin S basins basin x
        → digits_at labels x ≡ digits_in (network S) (outlet_of G p) S.depth x
    its_digits x k =
        digits_from_outlet S L accepted x k.is_inside_lem
        ∙ ap (λ (o : ℕ). digits_in (network S) o S.depth x) (its_outlet x k)

    its_label : (x : ℕ) → OfBasin S basins basin x
        → label_at labels x ≡ record_of (digits_in (network S) (outlet_of G p) S.depth x)
    its_label x k =
        label_from_outlet S L accepted x k.is_inside_lem
        ∙ ap (λ (o : ℕ). record_of (digits_in (network S) o S.depth x)) (its_outlet x k)

    demand_within : DemandThree (next G) (OfBasin S basins basin) S.depth S.least (label_at labels)
        (digits_at labels)
    unfolding network
    demand_within =
        same_demand (next G) by_number of_outlet its_digits S.depth S.least (label_at labels)
        (λ x y i j e. its_label x i ∙ (ap record_of e ∙ sym (its_label y j)))
        (demand_three_holds (basin_of_lem S L accepted p of.is_inside_lem) S.least counts S.depth)

    rule_within : OutletRule (next G) (OfBasin S basins basin) (digits_at labels)
    unfolding network
    rule_within =
        same_outlet_rule (next G) by_number of_outlet its_digits
        (outlet_rule_holds (basin_of_lem S L accepted p of.is_inside_lem) S.depth)

  -- demand 3, whole
  pub demand_three : DemandThreeOf S (lent_after S L).basins (lent_after S L).labels
  demand_three = record {
    within = λ basin. record {
      labels_part = λ p q i j. (demand_within basin p i).labels_part p q i j;
      passed_meets = λ p q i j. (demand_within basin p i).passed_meets p q i j;
      cell_rule = λ one p q i j. (demand_within basin p i).cell_rule one p q i j;
      one_outlet = λ w c k. (demand_within basin c k.is_inside_lem).one_outlet w c k;
    };
    across = λ p q i j d h.
        d (basin_written S L accepted p i
        ∙ (sym (way_basin G (grid_checks S L accepted) q p h) ∙ sym (basin_written S L accepted q j)));
  }

  pub outlet_rule : OutletRuleOf S (lent_after S L).basins (lent_after S L).labels
  outlet_rule basin = record { rule = λ p q i j. (rule_within basin p i).rule p q i j }

  -- ---- bounds
  pub label_bounds : LabelBounds S (lent_after S L).labels
  label_bounds = record {
    is_label_lem = is_label_lem S L accepted;
    first_fits = first_number_fits S L accepted;
    rest_fits = second_number_fits S L accepted;
  }

  pub rivers_are_whole : RiversAreWhole S
  unfolding network
  rivers_are_whole = record { whole = river_whole (lawful (the_forest S L accepted)) }

  pub area_bounds : AreaBounds S
  area_bounds = record {
    least = least_area;
    most = area_most S;
    most_of_all = all_weights;
    donors_add = area_adds S (the_forest S L accepted);
  }
    where
      all_weights : sum_over (cells S.grid) (inside S.grid) (weight S) ≤ most_area
      all_weights =
          let m = rows_cols_most S.grid.rows S.grid.cols (checks S L accepted).sizes in
          omega (
            arith,
            cells_most m.0 m.1,
            sum_most (cells S.grid) (inside S.grid) (weight S),
            sum_each (cells S.grid) 1000 (weight S) (λ c l. (own_weight c l).1),
          )

-- ---- sheets without weights
pub unweighted_areas : (S : Sheet) → 0 < S.grid.cols → Unweighted S → UnweightedAreas S
unfolding weight
unweighted_areas S some ones = record { counts = area_count S each; most = area_count_most S each }
  where
    each : (c : ℕ) → c < cells S.grid → weight S c ≡ 1
    each c l = ones _ (row_lt some l)
