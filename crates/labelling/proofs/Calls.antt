-- The outcome and the lent slices of a direct call, by which of checks 1, 2, 19 and 3 is passed.
use mathlib.Core.Path.{◌≡◌, refl, sym, ap, ◌∙◌}
use mathlib.Core.Bool.{Bool, true, false, cond}
use mathlib.Core.List.{List, ◌++◌}
use Prim.Native.Nat.{ℕ, ◌*◌, ◌≤◌}
use native.Mathlib.Omega.{arith}
use lib.Dec.{leb, eqb}
use lib.ListN.{length, take, drop, replicate, length-replicate}
use lib.Seq.{length-take-le}
use borrow.Author.Tests.{leb-true, le-leb, eqb-true}
use Rattle.sheet.specs.Sheet.{Sheet, cells}
use Rattle.sheet.specs.Label.{areas_of, labels_of}
use Rattle.sheet.specs.Basins.{basin_areas, basin_labels, basins_of}
use Rattle.claims.proofs.Alone.{alone_is_direct}
use Rattle.claims.proofs.Sheets.{accepted_from_17}
use Rattle.sheet.specs.Record.{label_places}
use Rattle.sheet.specs.Refusal.{Lent, both, written, sizes_fit, depth_fits, least_and_split_fit, slices_fit, fault_of}
use Rattle.sheet.specs.Refusal.{outcome_from17, outcome_from3, outcome, outcome_values, if_accepted, lent_after}
use Rattle.sheet.proofs.Cells.{cells_most}
use Rattle.sheet.proofs.Within.{both_true, no_fault, rows_cols_most, cols_some, depth_most, least_bounds}
use Rattle.sheet.proofs.Within.{split_bounds}
use Rattle.labelling.specs.Labelling.{checked_first, first_checks, Fitting}
use Rattle.sheet.specs.Answer.{Outcome, Accepted, Refused}
use Rattle.std.specs.Prelude.{Err}

-- rows and columns, within their bounds
pub record Bounded (rows cols : ℕ) : Type 0 where
  pub rows_most : rows ≤ 256
  pub cols_most : cols ≤ 256
  pub cols_some : 1 ≤ cols
  pub cells_fit : rows * cols ≤ 65536

pub bounded : (rows cols : ℕ) → sizes_fit rows cols ≡ true → Bounded rows cols
bounded rows cols e =
    let m = rows_cols_most rows cols e in
    record {
      rows_most = m.0;
      cols_most = m.1;
      cols_some = cols_some rows cols e;
      cells_fit = cells_most m.0
          m.1;
    }

module _ (S : Sheet) (L : Lent) where
  -- what a direct call promises
  abbrev Answered : Outcome → Lent → Type 0
  Answered r L' = (r ≡ outcome S L) × ((outcome_values r ≡ outcome_values (outcome S L)) × (L' ≡ lent_after S L))

  answered : {r : Outcome} {L' : Lent} → r ≡ outcome S L → L' ≡ lent_after S L → Answered r L'
  answered e l = (e, (ap outcome_values e, l))

  abbrev fits : Bool
  fits = both (eqb (fault_of S) 0) (slices_fit S L)

  record Long : Type 0 where
    dirs : cells S.grid ≤ length S.grid.dirs
    weights : S.grid.rows ≤ length S.weights
    areas : cells S.grid ≤ length L.areas
    labels : cells S.grid ≤ label_places (length L.labels)
    basins : cells S.grid ≤ length L.basins
    work : 8 * cells S.grid ≤ length L.work

  -- refused before the work places are touched
  lent_kept : (number place : ℕ) → outcome S L ≡ Refused number place → fits ≡ false → L ≡ lent_after S L
  unfolding lent_after
  lent_kept number place e f = go (outcome S L) e fits f
    where
      go : (o : Outcome) → o ≡ Refused number place → (b : Bool) → b ≡ false
          → L ≡ record {
            areas = if_accepted o (basin_areas S) L.areas;
            labels = if_accepted o (basin_labels S) L.labels;
            basins = if_accepted o (basins_of S.grid) L.basins;
            work = cond b (written (replicate (8 * cells S.grid) 0) L.work) L.work;
          }
      go o e b f = rw (e, f)

  -- checks 1, 2 and 19, then 3, by whether they are passed, and what follows them
  abbrev in_order : (a c : Bool) → Outcome → Outcome
  in_order a c rest = cond a (cond c rest (Refused 3 0)) (Refused (fault_of S) 0)

  record By (a c : Bool) : Type 0 where
    no_fault : eqb (fault_of S) 0 ≡ a
    slices : slices_fit S L ≡ c
    first : first_checks S L ≡ in_order a c Accepted
    whole : outcome S L ≡ in_order a c (outcome_from17 S)
    fit : fits ≡ both a c

  by : {a c : Bool} → eqb (fault_of S) 0 ≡ a → slices_fit S L ≡ c → By a c
  unfolding outcome outcome_from3 checked_first slices_fit
  by e g = record {
    no_fault = e;
    slices = g;
    first = rw (e, g);
    whole = rw (e, g);
    fit = rw (e, g);
  }

  -- refused by one of them
  pub refused : {number place : ℕ} → first_checks S L ≡ Refused number place → Answered (Refused number place) L
  refused {number} {place} r = go (eqb (fault_of S) 0) (slices_fit S L) (by refl refl)
    where
      same : {o : Outcome} → first_checks S L ≡ o → outcome S L ≡ o → fits ≡ false → Answered (Refused number place) L
      same e w f = let o = w ∙ sym e ∙ r in answered (sym o) (lent_kept number place o f)

      go : (a c : Bool) → By a c → Answered (Refused number place) L
      go false c t = same t.first t.whole t.fit
      go true false t = same t.first t.whole t.fit
      go true true t =
          let a = t.first in
          let z : ◌≡◌ {A = ℕ} 0 1 = cc in absurd (omega arith)

  -- all are passed
  passed : first_checks S L ≡ Accepted → By true true
  passed r = go (eqb (fault_of S) 0) (slices_fit S L) (by refl refl)
    where
      clash : {number place : ℕ} → first_checks S L ≡ Refused number place → By true true
      clash e = let z : ◌≡◌ {A = ℕ} 0 1 = cc in absurd (omega arith)

      go : (a c : Bool) → By a c → By true true
      go false c t = clash t.first
      go true false t = clash t.first
      go true true t = t

  module _ (accepted : first_checks S L ≡ Accepted) where
    -- enough places are lent
    long : Long
    unfolding slices_fit
    long =
        let a = leb (cells S.grid) (length S.grid.dirs) in
        let w = leb S.grid.rows (length S.weights) in
        let b = leb (cells S.grid) (length L.areas) in
        let c = leb (cells S.grid) (label_places (length L.labels)) in
        let d = leb (cells S.grid) (length L.basins) in
        let e = leb (8 * cells S.grid) (length L.work) in
        let o = both_true a (both w (both b (both c (both d e)))) (passed accepted).slices in
        let p = both_true w (both b (both c (both d e))) o.1 in
        let q = both_true b (both c (both d e)) p.1 in
        let r = both_true c (both d e) q.1 in
        let s = both_true d e r.1 in
        record {
          dirs = leb-true (cells S.grid) (length S.grid.dirs) o.0;
          weights = leb-true S.grid.rows (length S.weights) p.0;
          areas = leb-true (cells S.grid) (length L.areas) q.0;
          labels = leb-true (cells S.grid) (label_places (length L.labels)) r.0;
          basins = leb-true (cells S.grid) (length L.basins) s.0;
          work = leb-true (8 * cells S.grid) (length L.work) s.1;
        }

    -- checks 1, 2 and 19
    sheet_fits : (sizes_fit S.grid.rows S.grid.cols ≡ true) × (depth_fits S.depth ≡ true)
        × (least_and_split_fit S.least S.split ≡ true)
    sheet_fits =
        no_fault S.grid.rows S.grid.cols S.depth S.least S.split
        (eqb-true (fault_of S) 0 (passed accepted).no_fault)

    pub room : 8 * cells S.grid ≤ length L.work
    room = long.work

    pub sizes_bounded : Bounded S.grid.rows S.grid.cols
    sizes_bounded = bounded S.grid.rows S.grid.cols sheet_fits.0

    -- checks 17 and 4 to 6 can begin
    pub fitting : Fitting S
        (record {
          areas = L.areas;
          labels = L.labels;
          basins = L.basins;
          work = take (8 * cells S.grid) L.work;
        })
    fitting = record {
      sized = record {
        rows_most = sizes_bounded.rows_most;
        cols_most = sizes_bounded.cols_most;
        cols_some = sizes_bounded.cols_some;
        long = long.dirs;
      };
      depth_most = depth_most S.depth sheet_fits.1;
      least_most = (least_bounds S.least S.split sheet_fits.2).1;
      split_some = (split_bounds S.least S.split sheet_fits.2).0;
      split_most = (split_bounds S.least S.split sheet_fits.2).1;
      weights = long.weights;
      areas = long.areas;
      labels = long.labels;
      basins = long.basins;
      work = length-take-le (8 * cells S.grid) L.work room;
    }

    -- these checks are passed with exactly the work places that are needed, too
    pub still_passed : first_checks S
        (record {
          areas = L.areas;
          labels = L.labels;
          basins = L.basins;
          work = take (8 * cells S.grid) L.work;
        }) ≡ Accepted
    unfolding checked_first
    still_passed =
        let n = cells S.grid in
        rw (
          (passed accepted).no_fault,
          length-take-le (8 * n) L.work room,
          le-leb n (length S.grid.dirs) long.dirs,
          le-leb S.grid.rows (length S.weights) long.weights,
          le-leb n (length L.areas) long.areas,
          le-leb n (label_places (length L.labels)) long.labels,
          le-leb n (length L.basins) long.basins,
          le-leb (8 * n) (8 * n) (omega arith),
        )

    -- checks 17 and 4 to 6 decide
    pub the_rest : outcome S L ≡ outcome_from17 S
    the_rest = (passed accepted).whole

    -- areas and labels as they are worked out on the whole sheet are those of each basin by itself
    direct_areas : (r : Outcome) → r ≡ outcome_from17 S
        → if_accepted r (areas_of S) L.areas ≡ if_accepted r (basin_areas S) L.areas
    direct_areas Accepted e =
        ap (λ (new : List ℕ). written new L.areas)
        (sym (alone_is_direct S (accepted_from_17 S (sym e)).1).areas)
    direct_areas (Err refusal) e = refl

    direct_labels : (r : Outcome) → r ≡ outcome_from17 S
        → if_accepted r (labels_of S) L.labels ≡ if_accepted r (basin_labels S) L.labels
    direct_labels Accepted e =
        ap (λ (new : List ℕ). written new L.labels)
        (sym (alone_is_direct S (accepted_from_17 S (sym e)).1).labels)
    direct_labels (Err refusal) e = refl

    -- after checks 17 and 4 to 6
    pub labelled : {r : Outcome} {areas labels basins work : List ℕ} → r ≡ outcome_from17 S
        → areas ≡ if_accepted r (areas_of S) L.areas
        → labels ≡ if_accepted r (labels_of S) L.labels
        → basins ≡ if_accepted r (basins_of S.grid) L.basins
        → work ≡ replicate (8 * cells S.grid) 0 ++ drop (8 * cells S.grid) L.work
        → Answered r (record { areas = areas; labels = labels; basins = basins; work = work })
    unfolding lent_after
    labelled {r} {areas} {labels} {basins} {work} o a l b w =
        let same : r ≡ outcome S L = o ∙ sym the_rest in
        answered same
        (go (outcome S L) same fits (passed accepted).fit (a ∙ direct_areas r o) (l ∙ direct_labels r o))
      where
        go : (x : Outcome) → r ≡ x → (t : Bool) → t ≡ true
            → areas ≡ if_accepted r (basin_areas S) L.areas → labels ≡ if_accepted r (basin_labels S) L.labels
            → ◌≡◌ {A = Lent} (record { areas = areas; labels = labels; basins = basins; work = work }) (record {
              areas = if_accepted x (basin_areas S) L.areas;
              labels = if_accepted x (basin_labels S) L.labels;
              basins = if_accepted x (basins_of S.grid) L.basins;
              work = cond t (written (replicate (8 * cells S.grid) 0) L.work) L.work;
            })
        go x p t q a l = rw (q, a, l, b, w, p, length-replicate {A = ℕ} (8 * cells S.grid) 0)
