-- `write_labels` meets its contract: each step hands the next what it asks.
use Prim.Native.Nat.{ℕ, ◌*◌, ◌≤◌}
use mathlib.Core.Path.{◌≡◌, refl, sym}
use mathlib.Core.List.{◌++◌}
use lib.ListN.{length, drop, replicate, length-replicate}
use lib.Seq.{length-take-le}
use Rattle.sheet.specs.Refusal.{written}
use native.Mathlib.Omega.{arith}
use Rattle.sheet.proofs.Cells.{cells_most}
use Rattle.sheet.proofs.Slices.{places_enough}
use Rattle.upstream.specs.Work.{cells_part, ordered_sizes_part}
use Rattle.intake.specs.Intake.{lent_sheet}
use Rattle.labelling.specs.FromIntake.{sheet_of}
use Rattle.labelling.proofs.Labels.{written_length}
use Rattle.labelling.proofs.Steps.{queued_most, surveyed, part_is, network_in_lem, basins_of_lem, places, layout_in}
use Rattle.labelling.proofs.Steps.{labels_written, basins_written, weighted, rest_accepted}
use Rattle.labelling.proofs.write_labels.Goals as goal
use Rattle.labelling.proofs.write_labels.Goals.{After-arrange}

pub slice_bounds-fill-end : goal.slice_bounds-fill-end
slice_bounds-fill-end c = omega (arith, places_enough _ _ c.requires.fitting.labels)

pub slice_bounds-fill-end-2 : goal.slice_bounds-fill-end-2
slice_bounds-fill-end-2 c = sym (length-take-le _ _ (omega (arith, places_enough _ _ c.requires.fitting.labels)))

-- the labels are cleared
cleared : (c : After-arrange) → let a = c.args in let n = a.sizes.rows * a.sizes.cols in
    c.fill.new.self ++ drop (2 * n) a.labels.now ≡ written (replicate (2 * n) 0) a.labels.now
cleared c =
    let n = c.args.sizes.rows * c.args.sizes.cols in
    rw (
      c.fill.ensures.after (λ y e. e),
      length-take-le (2 * n) c.args.labels.now (omega (arith, places_enough _ _ c.requires.fitting.labels)),
      length-replicate {A = ℕ} (2 * n) 0,
    )

cleared_length : (c : After-arrange)
    → length (written (replicate (2 * (c.args.sizes.rows * c.args.sizes.cols)) 0) c.args.labels.now) ≡ length c.args.labels.now
cleared_length c =
    let n = c.args.sizes.rows * c.args.sizes.cols in
    written_length (replicate (2 * n) 0) c.args.labels.now
    (rw (length-replicate {A = ℕ} (2 * n) 0) (omega (arith, places_enough _ _ c.requires.fitting.labels)))

pub measure-requires : goal.measure-requires
measure-requires c =
    let a = c.args in
    let p = c.requires in
    let S = sheet_of a.sizes (lent_sheet a.dirs.now a.weights.now) in (
      p.fitting.sized,
      p.inspected.drained,
      weighted S p.fitting p.inspected,
      p.fitting.areas,
      omega (arith, p.fitting.work),
    )

pub arrange-requires : goal.arrange-requires
arrange-requires c =
    surveyed c.requires.fitting c.requires.inspected c.measure.ensures.0 (c.measure.ensures.1 _ refl refl)
    c.measure.auto.work

-- at most 65,536 cells are queued
most : (c : After-arrange) → c.args.queued ≤ 65536
most c =
    let sized = c.requires.fitting.sized in
    omega (arith, queued_most c.requires.inspected.drained, cells_most sized.rows_most sized.cols_most)

pub label_basins-requires : goal.label_basins-requires
label_basins-requires c =
    let a = c.args in
    let n = a.sizes.rows * a.sizes.cols in
    let p = c.requires.fitting in
    let S = sheet_of a.sizes (lent_sheet a.dirs.now a.weights.now) in
    let accepted = rest_accepted S c.requires.inspected in
    let e = network_in_lem S a.areas.now (c.measure.ensures.1 S refl refl) in
    let r = c.arrange.ensures.order in
    let at = (goal.at.label_basins-requires c).After-arrange in
    record {
      basins_of = rw (part_is (cells_part * n) a.queued, part_is (ordered_sizes_part * n) a.queued) (basins_of_lem S accepted e r p.depth_most (most at));
      places = rw (part_is (cells_part * n) a.queued, part_is (ordered_sizes_part * n) a.queued) (places S accepted e r _ _ (omega (arith, p.areas, c.measure.auto.lent_areas))
          (rw (cleared at, cleared_length at) p.labels) p.split_some p.split_most);
      layout = rw (part_is (cells_part * n) a.queued, part_is (ordered_sizes_part * n) a.queued) (layout_in S accepted e r _ (omega (arith, p.basins, c.clear_first.auto.places)));
    }

pub returns : goal.returns
returns c =
    let a = c.args in
    let n = a.sizes.rows * a.sizes.cols in
    let p = c.requires.fitting in
    let r = c.arrange.ensures.order in
    let S = sheet_of a.sizes (lent_sheet a.dirs.now a.weights.now) in
    let accepted = rest_accepted S c.requires.inspected in
    let areas = c.measure.ensures.1 S refl refl in
    let same = network_in_lem S a.areas.now areas in
    let at = (goal.at.returns c).After-arrange in
    let by_labels = rw (part_is (cells_part * n) a.queued, part_is (ordered_sizes_part * n) a.queued)
    at c.label_basins.ensures.labels in
    let by_basins = rw (part_is (cells_part * n) a.queued, part_is (ordered_sizes_part * n) a.queued)
    at c.label_basins.ensures.basins in record {
      areas = areas;
      labels = labels_written S accepted same r p.depth_most (most at) a.labels.now p.labels (cleared at) by_labels;
      basins = basins_written S accepted same r p.depth_most (most at) a.basins.now p.basins c.clear_first.ensures
          by_basins;
      order = r;
    }
