-- What each step of the levy's call hands to the next.
use mathlib.Core.Path.{◌≡◌, refl, sym, ap, ◌∙◌}
use mathlib.Core.Bool.{Bool, true, false, cond}
use mathlib.Core.List.{List}
use Prim.Native.Nat.{ℕ, ◌+◌, ◌*◌, ◌≤◌, ◌<◌}
use native.Mathlib.Nat.{add-zero}
use native.Mathlib.Omega.{arith}
use lib.Dec.{leb}
use lib.ListN.{length, get_or, drop, replicate, length-take, length-drop}
use Rattle.sheet.specs.Sheet.{Sheet, cells}
use Rattle.sheet.specs.Area.{row_weight, weight, area}
use Rattle.sheet.specs.Record.{label_places}
use Rattle.sheet.specs.Label.{areas_of, labels_of}
use Rattle.sheet.specs.Basins.{basins_of}
use Rattle.sheet.specs.Refusal.{Lent, outcome, written, if_accepted}
use Rattle.sheet.proofs.Cells.{cells_most, row_lt, inside_lt}
use Rattle.sheet.proofs.Lists.{written_at}
use Rattle.claims.specs.Bounds.{sum}
use Rattle.claims.proofs.Sheets.{PassedOn}
use Rattle.claims.proofs.Written.{grid_checks}
use Rattle.drainage.specs.declared.Inspection.{Inspection}
use Rattle.upstream.specs.Work.{ordered_sizes_part}
use Rattle.order.specs.Places.{cells_in, sizes_in, Arranged}
use Rattle.labelling.specs.Labelling.{lent, first_checks, Fitting, LabelledInOrder}
use Rattle.index.specs.Units.{UnitEntry, units}
use Rattle.index.specs.Index.{LentIndex, index_fits, room_for, indexed_on, if_indexed}
use Rattle.index.specs.Steps.{CellsLabelled, groups_of}
use Rattle.index.proofs.Steps.{in_order_lem, accepted, labels_after, basins_after, groups_of_accepted}
use Rattle.index.proofs.UnitsInOrder.{listed_once, falls}
use Rattle.dues.specs.Levy.{greatest_total, units_of_basin, whole_weight, dues_of, with_dues, if_levied}
use Rattle.dues.specs.Steps.{basin_start, basin_size, basin_cells, Weighed, group_weights, dues_by, OutletFirst}
use Rattle.dues.specs.Steps.{LevyInOrder, LeviedInOrder, LeviedFitting}
use Rattle.dues.proofs.BasinParts.{sizes, part_within, part_outlet, part_long, part_at}
use Rattle.dues.proofs.UnitWeights.{dues_are, outlet_inside, outlet_area, whole_some, whole_most, listed_weight}
use Rattle.dues.proofs.UnitWeights.{groups_long, listed_parts}
use Rattle.sheet.specs.Answer.{Outcome, Counted, Accepted, Refused}
use Rattle.std.specs.Prelude.{Err, Ok}

-- the lengths of the slices after labelling
pub record Lengths (S : Sheet) (L' : Lent) : Type 0 where
  pub areas : cells S.grid ≤ length L'.areas
  pub labels : cells S.grid ≤ label_places (length L'.labels)
  pub basins : cells S.grid ≤ length L'.basins
  pub work : length L'.work ≡ 8 * cells S.grid

-- ---- a sheet that passed the first checks, after labelling
module _ (S : Sheet) (L : Lent) (passed : first_checks S L ≡ Accepted) (fit : Fitting S L) {L' : Lent}
    {found : Inspection} (o : LabelledInOrder S L L' found) (long : Lengths S L') (basin total : ℕ) where
  abbrev queued : ℕ
  queued = found.queued

  abbrev cs : List ℕ
  cs = cells_in (cells S.grid) L'.work queued

  abbrev sz : List ℕ
  sz = sizes_in (cells S.grid) L'.work queued

  -- the cells of the basin
  abbrev part : List ℕ
  part = basin_cells cs sz basin

  abbrev row_weight_of : ℕ → ℕ
  row_weight_of = row_weight S.grid.cols S.weights

  small : cells S.grid ≤ 65536
  small = cells_most fit.sized.rows_most fit.sized.cols_most

  -- ---- where labelling accepted it
  module _ (e : found.outcome ≡ Accepted) where
    abbrev whole_accepted : outcome S L ≡ Accepted
    whole_accepted = accepted S L passed o e

    abbrev P : PassedOn S.grid
    P = grid_checks S L whole_accepted

    measured : L'.areas ≡ written (areas_of S) L.areas
    measured = rw e at o.areas

    arranged : Arranged S.grid L'.areas L'.work queued
    arranged = o.order e

    part_weight : sum row_weight_of part ≡ whole_weight S basin
    unfolding weight
    part_weight =
        listed_weight S L whole_accepted basin small long.work arranged
        (listed_once S L L.areas whole_accepted measured arranged)
        (falls S L L.areas whole_accepted measured arranged)

    -- as many groups as the basin has units
    wanted : length (groups_of part L'.labels L'.basins) ≡ length (units_of_basin S basin)
    wanted =
        rw (labels_after S L passed o e, basins_after S L passed o e)
        (groups_long S L whole_accepted basin small long.work arranged
        (listed_once S L L.areas whole_accepted measured arranged)
        (falls S L L.areas whole_accepted measured arranged))

    -- their dues are those of the definition
    dues_by_lem : dues_by total (sum row_weight_of part) 0 (group_weights row_weight_of part L'.labels L'.basins)
        ≡ dues_of S basin total
    unfolding weight
    dues_by_lem =
        rw (
          labels_after S L passed o e,
          basins_after S L passed o e,
          part_weight,
          listed_parts S L whole_accepted basin small long.work arranged
              (listed_once S L L.areas whole_accepted measured arranged)
              (falls S L L.areas whole_accepted measured arranged),
        )
        (dues_are S basin total)

    -- ---- the cells of the basin
    on_sheet_lem : (j : ℕ) → j < length part → get_or part j 0 < cells S.grid
    on_sheet_lem j l =
        let within = part_within S.grid P small long.work arranged basin in
        let many = part_long S.grid P small long.work arranged basin in
        let h : j < basin_size sz basin = omega (arith, l, many) in
        rw (part_at S.grid P small long.work arranged basin j h)
        (inside_lt S.grid _ (arranged.are_inside (basin_start sz basin + j) (omega (arith, h, within))))

    labelled : CellsLabelled part L'.labels L'.basins
    labelled =
        let within = part_within S.grid P small long.work arranged basin in
        let many = part_long S.grid P small long.work arranged basin in
        let order = in_order_lem {labels = L'.labels} {basins = L'.basins} small long.work long.labels
        long.basins arranged in
        record {
          few = omega (arith, within, many, order.labelled.few, arranged.long);
          on = λ j l. omega (arith, on_sheet_lem j l, long.labels);
          numbered = λ j l. omega (arith, on_sheet_lem j l, long.basins);
        }

    weighed : Weighed S.grid.cols S.weights part
    weighed = record {
      some = fit.sized.cols_some;
      rows = λ j l.
          omega (arith, row_lt {rows = S.grid.rows} fit.sized.cols_some (on_sheet_lem j l), fit.weights);
      small = omega (arith, part_weight, whole_most S L whole_accepted basin);
    }

    module _ (most : total ≤ greatest_total) (D : List ℕ) where
      outlet_first : 0 < length part → length (groups_of part L'.labels L'.basins) ≤ length D
          → OutletFirst total S.grid.cols S.weights L'.areas part L'.labels L'.basins D
      unfolding areas_of
      outlet_first l room =
          let many = part_long S.grid P small long.work arranged basin in
          let h : 0 < basin_size sz basin = omega (arith, l, many) in
          let b = part_outlet S.grid P small long.work arranged basin h in
          let c = get_or cs (basin_start sz basin) 0 in
          let first : get_or part 0 0 ≡ c =
          part_at S.grid P small long.work arranged basin 0 h
          ∙ ap (λ (j : ℕ). get_or cs j 0) (add-zero (basin_start sz basin)) in
          let on : c < cells S.grid =
          inside_lt S.grid c (outlet_inside S L whole_accepted basin c b.is_outlet_lem b.numbered) in
          record {
            outlet_on = rw first (omega (arith, on, long.areas));
            outlet_area =
                rw first (ap (λ (a : List ℕ). get_or a c 0) measured
                ∙ written_at (area S) (cells S.grid) c L.areas on
                ∙ outlet_area S L whole_accepted basin c b.is_outlet_lem b.numbered ∙ sym part_weight);
            shared = record {
              weighed = weighed;
              labelled = labelled;
              total_most = most;
              whole_some =
                  omega (arith, part_weight, whole_some S L whole_accepted basin c b.is_outlet_lem b.numbered);
              room = room;
            };
          }

      pub in_order_levy : LevyInOrder (cells S.grid) queued basin total S.grid.cols S.weights L'.areas
          L'.labels L'.basins L'.work D
      in_order_levy =
          let p = ordered_sizes_part * cells S.grid in
          record {
            ordered = record {
              small = small;
              room =
                  omega (
                    arith,
                    arranged.some,
                    arranged.long,
                    arranged.layout.sized,
                    length-take queued (drop p L'.work),
                    length-drop p L'.work,
                  );
              sizes = sizes S.grid P small long.work arranged;
            };
            in_order_lem = in_order_lem small long.work long.labels long.basins arranged;
            labelled = labelled;
            outlet_first = outlet_first;
          }

  -- ---- what is answered and written
  abbrev groups : List UnitEntry
  groups = groups_of cs L'.labels L'.basins

  abbrev places : ℕ
  places = length (groups_of part L'.labels L'.basins)

  answer_is : (I : LentIndex) (D : List ℕ)
      → with_dues (indexed_on found.outcome (length groups) I) places D
      ≡ with_dues (indexed_on found.outcome (length (units S)) I) (length (units_of_basin S basin)) D
  unfolding indexed_on with_dues
  answer_is I D = go found.outcome refl
    where
      go : (x : Outcome) → found.outcome ≡ x
          → with_dues (indexed_on x (length groups) I) places D
          ≡ with_dues (indexed_on x (length (units S)) I) (length (units_of_basin S basin)) D
      go Accepted e = rw (groups_of_accepted S L passed o e, wanted e) refl
      go (Err refusal) e = refl

  -- an answer other than a refusal comes of an accepted labelling
  index_is : (I : LentIndex) (D : List ℕ) {r : Counted}
      → r ≡ with_dues (indexed_on found.outcome (length groups) I) places D
      → if_indexed r groups I ≡ if_indexed r (units S) I
  unfolding indexed_on with_dues
  index_is I D {r} = go found.outcome refl
    where
      go : (x : Outcome) → found.outcome ≡ x → r ≡ with_dues (indexed_on x (length groups) I) places D
          → if_indexed r groups I ≡ if_indexed r (units S) I
      go Accepted e h = rw (groups_of_accepted S L passed o e) refl
      go (Err refusal) e h = rw h refl

  dues_is : (I : LentIndex) (D : List ℕ) {r : Counted}
      → r ≡ with_dues (indexed_on found.outcome (length groups) I) places D
      → if_levied r (dues_by total (sum row_weight_of part) 0 (group_weights row_weight_of part L'.labels L'.basins)) D
      ≡ if_levied r (dues_of S basin total) D
  unfolding indexed_on with_dues
  dues_is I D {r} = go found.outcome refl
    where
      go : (x : Outcome) → found.outcome ≡ x → r ≡ with_dues (indexed_on x (length groups) I) places D
          → if_levied r
          (dues_by total (sum row_weight_of part) 0 (group_weights row_weight_of part L'.labels L'.basins)) D
          ≡ if_levied r (dues_of S basin total) D
      go Accepted e h = ap (λ (new : List ℕ). if_levied r new D) (dues_by_lem e)
      go (Err refusal) e h = rw h refl

  pub levied_fitting : {I I' : LentIndex} {D D' work : List ℕ} {r : Counted}
      → LeviedInOrder found.outcome total S.grid.cols S.weights L'.labels L'.basins cs part I I' D D' r
      → work ≡ replicate (8 * cells S.grid) 0
      → LeviedFitting S L (lent L'.areas L'.labels L'.basins work) I I' basin total D D' r
  levied_fitting {I} {I'} {D} {D'} {work} {r} f w = record {
    answer =
        f.answer ∙ answer_is I D
        ∙ ap (λ (x : Outcome). with_dues (indexed_on x (length (units S)) I) (length (units_of_basin S basin)) D)
        o.outcome;
    areas = o.areas ∙ ap (λ (x : Outcome). if_accepted x (areas_of S) L.areas) o.outcome;
    labels = o.labels ∙ ap (λ (x : Outcome). if_accepted x (labels_of S) L.labels) o.outcome;
    basins = o.basins ∙ ap (λ (x : Outcome). if_accepted x (basins_of S.grid) L.basins) o.outcome;
    work = w;
    index = f.index ∙ index_is I D f.answer;
    dues = f.dues ∙ dues_is I D f.answer;
  }

-- ---- the steps of an accepted sheet: all cells in order, and those of the basin

module _ (total cols : ℕ) (weights labels basins all those D : List ℕ) (I : LentIndex) {o : Outcome}
    (labelled : o ≡ Accepted) where
  abbrev count : ℕ
  count = length (groups_of all labels basins)

  abbrev asked : ℕ
  asked = length (groups_of those labels basins)

  -- 3 for the dues
  pub too_short : leb asked (length D) ≡ false
      → LeviedInOrder o total cols weights labels basins all those I I D D (Refused 3 0)
  unfolding with_dues indexed_on room_for
  too_short h = record { answer = rw labelled (go (index_fits count I)); index = refl; dues = refl }
    where
      go : (b : Bool) → Refused 3 0 ≡ with_dues (cond b (Ok count) (Refused 3 0)) asked D
      go true = rw h refl
      go false = refl

  pub filled : {I' : LentIndex} {D' : List ℕ} {r : Counted} → leb asked (length D) ≡ true → r ≡ indexed_on o count I
      → I' ≡ if_indexed r (groups_of all labels basins) I
      → D' ≡ if_levied r (dues_by total (sum (row_weight cols weights) those) 0
      (group_weights (row_weight cols weights) those labels basins)) D
      → LeviedInOrder o total cols weights labels basins all those I I' D D' r
  unfolding with_dues
  filled h a i d = record { answer = a ∙ kept (indexed_on o count I); index = i; dues = d }
    where
      kept : (x : Counted) → x ≡ with_dues x asked D
      kept (Ok u) = rw h refl
      kept (Err refusal) = refl

-- as labelling was
pub not_labelled : (total cols : ℕ) (weights labels basins all those D : List ℕ) (I : LentIndex) {o : Outcome}
    {number place : ℕ} → o ≡ Refused number place
    → LeviedInOrder o total cols weights labels basins all those I I D D (Refused number place)
unfolding with_dues indexed_on
not_labelled total cols weights labels basins all those D I e = record { answer = rw e refl; index = refl; dues = refl }
