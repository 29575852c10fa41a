-- What each step of labelling hands to the next.
use mathlib.Core.Path.{◌≡◌, refl, sym, ap, ◌∙◌, fun_ext}
use mathlib.Core.Bool.{true, false}
use mathlib.Core.List.{List, ◌++◌}
use Prim.Native.Nat.{ℕ, ◌+◌, ◌*◌, ◌-◌, ◌<◌, ◌≤◌}
use native.Mathlib.Decide.{dec_lt}
use native.Mathlib.Omega.{arith}
use lib.ListN.{length, get_or, get_or-append, take, drop, replicate, length-take, length-replicate, get_or-replicate}
use lib.ListN.{get_or-eq_default}
use lib.Seq.{get_or-take, get_or-append-add, length-take-le}
use borrow.Rule.Slice.PartMut.{put_mid, mid_of, post_of, mid_len, same_len_mid}
use Rattle.sheet.specs.Sheet.{Grid, Sheet, cells, inside}
use Rattle.sheet.specs.Area.{area}
use Rattle.sheet.specs.River.{network, network_by}
use Rattle.sheet.specs.Record.{label_places}
use Rattle.sheet.specs.Label.{label_of, areas_of, labels_of}
use Rattle.sheet.specs.Basins.{basin_of, basins_of}
use Rattle.sheet.specs.Refusal.{Lent, written, weights_fit, outcome_on, outcome_from17}
use Rattle.claims.proofs.Lawful.{decided}
use Rattle.claims.proofs.Sheets.{passed_on, accepted_from_17}
use Rattle.sheet.proofs.Lists.{length_list, written_at}
use Rattle.upstream.specs.Work.{sizes_part, with_sizes}
use Rattle.upstream.proofs.Queues.{queued_most as queue_most}
use Rattle.drainage.specs.declared.Inspection.{Inspection}
use Rattle.upstream.specs.Search.{Drained}
use Rattle.drainage.specs.Inspect.{InspectionResult}
use Rattle.upstream.specs.Work.{ranks_part, Unranked}
use Rattle.drainage.specs.Total.{sizes_of, Weighted}
use Rattle.drainage.proofs.Kept.{with_sizes_same, drained_same, size_written}
use Rattle.rivers.specs.Layout.{Layout}
use Rattle.rivers.specs.Labelled.{relabelled, cells_labelled, stands}
use Rattle.rivers.specs.UnitAt.{Places}
use Rattle.rivers.proofs.Positions.{stands_test, same_test}
use Rattle.rivers.proofs.Relabelled.{relabelled_same, labelled_same}
use Rattle.order.specs.Network.{area_in, network_in}
use Rattle.order.specs.Places.{cells_in, sizes_in, Surveyed, Arranged}
use Rattle.labelling.specs.Labelling.{Fitting, Inspected, BasinsOf, InspectedAs}
use Rattle.labelling.proofs.Labels.{written_length, outside_past, labels_over, basins_over}
use Rattle.sheet.specs.Answer.{Accepted, Refused}

module _ (S : Sheet) where
  areas_length : (areas : List ℕ) → cells S.grid ≤ length areas → length (written (areas_of S) areas) ≡ length areas
  unfolding areas_of
  areas_length areas l = written_length (areas_of S) areas (rw (length_list (area S) 0 (cells S.grid)) l)

  area_past : (c : ℕ) → cells S.grid ≤ c → area S c ≡ 0
  unfolding area
  area_past c l = rw (outside_past S.grid c l)

  -- the areas that are written are those of the sheet
  areas_in : (old : List ℕ) → area_in (cells S.grid) (written (areas_of S) old) ≡ area S
  unfolding areas_of
  areas_in old =
      let n = cells S.grid in
      let areas = written (areas_of S) old in
      fun_ext (λ c. elim (dec_lt c n) [
        | yes l ↦ get_or-take n areas c 0 l ∙ written_at (area S) n c old l
        | no h ↦ get_or-eq_default (take n areas) 0 {n = c} (omega (arith, length-take n areas)) ∙ sym
            (area_past c (omega arith))
      ])

  -- so the network by them is the sheet's
  pub network_in_lem : {areas : List ℕ} (old : List ℕ) → areas ≡ written (areas_of S) old
      → network_in S.grid areas S.least S.split ≡ network S
  unfolding network
  network_in_lem old e =
      ap (λ (f : ℕ → ℕ). network_by S.grid f S.least S.split) (ap (area_in (cells S.grid)) e ∙ areas_in old)

pub queued_most : {G : Grid} {work : List ℕ} {queued : ℕ} → Drained G work queued → queued ≤ cells G
queued_most d = queue_most d.searched.upstream.queue

-- an accepted sheet has an inside cell, which is queued
some_queued : {S : Sheet} {work : List ℕ} {queued : ℕ} → Inspected S work queued → 0 < queued
some_queued {S} {work} i =
    let cell = (passed_on S.grid (accepted_from_17 S i.accepted).1).some_inside in
    let reached = i.drained.all cell.0 cell.2 in
    let stands = i.drained.searched.upstream.queue.stands cell.0 cell.1 reached in
    omega (arith, reached, stands.most)

-- after the areas and sizes, the order along rivers can be worked out
pub surveyed : {S : Sheet} {L : Lent} {queued : ℕ} {areas work : List ℕ} → Fitting S L
    → Inspected S L.work queued
    → work ≡ with_sizes (cells S.grid) (sizes_of S.grid) L.work → areas ≡ written (areas_of S)
    L.areas → length work ≡ length L.work
    → Surveyed S.grid areas work queued
surveyed {S} {L} {queued} {areas} {work} f i e a l = rw (e, a) (record {
  measured = record {
    sized = f.sized;
    coded = i.drained.coded;
    room = rw (areas_length S L.areas f.areas) f.areas;
  };
  room = rw e at (let w = f.work in let r : 8 * cells S.grid ≤ length work = omega arith in r);
  drained = drained_same (with_sizes_same _ _ _ room) i.drained;
  some = some_queued i;
  size_is = size_written S.grid L.work room;
})
  where
    room : sizes_part * cells S.grid ≤ length L.work
    room = omega (arith, f.work)

-- more places are no harm
layout_more : {cell size : List ℕ} {n m : ℕ} → n ≤ m → Layout cell size n → Layout cell size m
layout_more {n = n} {m = m} h l = record {
  sized = l.sized;
  some = l.some;
  within = l.within;
  on = λ j k. let o = l.on j k in omega arith;
  small = l.small;
  apart = l.apart;
}

-- a part of a slice by its start and its end
pub part_is : (a q : ℕ) (work : List ℕ) → take (a + q - a) (drop a work) ≡ take q (drop a work)
part_is a q work = let e : a + q - a ≡ q = omega arith in ap (λ (k : ℕ). take k (drop a work)) e

-- what labelling the basins asks
module _ (S : Sheet) {areas work : List ℕ} {queued : ℕ} (accepted : outcome_on S.grid ≡ Accepted)
    (same : network_in S.grid areas S.least S.split ≡ network S)
    (r : Arranged S.grid areas work queued) where
  abbrev cell : List ℕ
  cell = cells_in (cells S.grid) work queued

  abbrev size : List ℕ
  size = sizes_in (cells S.grid) work queued

  pub basins_of_lem : S.depth ≤ 36 → queued ≤ 65536 → BasinsOf cell size areas S.depth S.split S.least
  basins_of_lem few most = record {
    sheet = S;
    accepted = accepted;
    depth_is = refl;
    depth_most = few;
    laid_out = rw same at (r.layout_of S.least S.split);
    few = omega (arith, r.long);
    are_inside = λ j l. r.are_inside j (omega (arith, r.long));
    first = λ l. r.first;
    onward = λ j k b l. r.onward j k b (omega (arith, r.long));
  }

  pub places : (n m : ℕ) → cells S.grid ≤ n → cells S.grid ≤ m → 1 ≤ S.split → S.split ≤ 4
      → Places cell size n m S.split
  places n m a l some most = record {
    for_areas = layout_more a r.layout;
    for_labels = layout_more l r.layout;
    split_some = some;
    split_most = most;
  }

  pub layout_in : (n : ℕ) → cells S.grid ≤ n → Layout cell size n
  layout_in n l = layout_more l r.layout

  -- the cells that stand in the order are the inside cells
  all_inside : (c : ℕ) → stands cell 0 (length cell) c ≡ inside S.grid c
  all_inside c =
      same_test (stands_test cell (length cell) 0 c)
      (decided {A = inside S.grid c ≡ true} (inside S.grid c) (λ e. e) (λ e. e))
      (λ s. let t = s.to in rw s.is at (r.are_inside s.at (omega (arith, r.long))))
      (λ i.
      let s = r.all_stand c i in
      record { at = s.0; from = omega arith; to = omega (arith, s.1, r.long); is = s.2 })

  -- the labels that all basins get are those of the sheet
  pub labels_written : (few : S.depth ≤ 36) (most : queued ≤ 65536) (labels : List ℕ) {labels' labels'' : List ℕ}
      → cells S.grid ≤ label_places (length labels)
      → labels' ≡ written (replicate (2 * cells S.grid) 0) labels
      → ((b : BasinsOf cell size areas S.depth S.split S.least)
      → labels'' ≡ cells_labelled (stands cell 0 (length cell)) (label_of b.sheet) labels')
      → labels'' ≡ written (labels_of S) labels
  unfolding basins_of_lem
  labels_written few most labels {labels'} room e f =
      f (basins_of_lem few most)
      ∙ labelled_same _ _ _ _ labels' all_inside (λ c h. refl)
      ∙ ap (cells_labelled (inside S.grid) (label_of S)) e
      ∙ labels_over S labels room

  pub basins_written : (few : S.depth ≤ 36) (most : queued ≤ 65536) (basins : List ℕ) {basins' basins'' : List ℕ}
      → cells S.grid ≤ length basins
      → basins' ≡ written (replicate (cells S.grid) 0) basins
      → ((b : BasinsOf cell size areas S.depth S.split S.least)
      → basins'' ≡ relabelled (stands cell 0 (length cell)) (basin_of b.sheet.grid) basins')
      → basins'' ≡ written (basins_of S.grid) basins
  unfolding basins_of_lem
  basins_written few most basins {basins'} room e f =
      f (basins_of_lem few most)
      ∙ relabelled_same _ _ _ _ basins' all_inside (λ c h. refl)
      ∙ ap (relabelled (inside S.grid) (basin_of S.grid)) e
      ∙ basins_over S basins room

-- ---- the work places
-- 8n work places of which the part with the ranks is cleared
module _ (n : ℕ) (old : List ℕ) (long : length old ≡ 8 * n) where
  abbrev part : ℕ
  part = ranks_part * n + n - ranks_part * n

  module _ {ranks : List ℕ} (e : ranks ≡ replicate (length (mid_of (ranks_part * n) part old)) 0) where
    middle : length (mid_of (ranks_part * n) part old) ≡ part
    middle = mid_len (ranks_part * n) (ranks_part * n + n) old (omega (arith, long))

    many : length ranks ≡ part
    many = ap length e ∙ length-replicate _ 0 ∙ middle

    pub cleared_long : length (put_mid (ranks_part * n) part old ranks) ≡ length old
    cleared_long = same_len_mid (ranks_part * n) part old ranks (many ∙ sym middle)

    pub unranked : Unranked n (put_mid (ranks_part * n) part old ranks)
    unranked =
        let front = length-take-le (ranks_part * n) old (omega (arith, long)) in
        record {
          room = rw cleared_long (omega (arith, long));
          zero = λ c l.
              ap (λ (k : ℕ). get_or (put_mid (ranks_part * n) part old ranks) (k + c) 0) (sym front)
              ∙ get_or-append-add (take (ranks_part * n) old) (ranks ++ post_of (ranks_part * n) part old) c 0
              ∙ get_or-append ranks (post_of (ranks_part * n) part old) 0 c (omega (arith, many))
              ∙ ap (λ (r : List ℕ). get_or r c 0) e
              ∙ get_or-replicate (length (mid_of (ranks_part * n) part old)) c 0 0 (omega (arith, middle));
        }

pub other_work : {S : Sheet} {areas labels basins work work' : List ℕ}
    → Fitting S (record { areas = areas; labels = labels; basins = basins; work = work }) → length work' ≡ length work
    → Fitting S (record { areas = areas; labels = labels; basins = basins; work = work' })
other_work f e =
    record {
      sized = f.sized;
      depth_most = f.depth_most;
      least_most = f.least_most;
      split_some = f.split_some;
      split_most = f.split_most;
      weights = f.weights;
      areas = f.areas;
      labels = f.labels;
      basins = f.basins;
      work = e ∙ f.work;
    }

-- ---- checks 17 and 4 to 6
module _ (S : Sheet) where
  -- weights that fit: 4 to 6 decide
  pub inspected : {work work' : List ℕ} {r : Inspection} → weights_fit S.grid.rows S.weights ≡ true
      → InspectionResult S.grid work work' r → InspectedAs S work' r
  unfolding outcome_from17
  inspected {r = r} fit i =
      let same : r.outcome ≡ outcome_from17 S = i.outcome ∙ sym (on_fit fit) in
      record {
        outcome = same;
        passed = λ h. record { accepted = sym same ∙ h; drained = i.drained h };
      }
    where
      on_fit : weights_fit S.grid.rows S.weights ≡ true → outcome_from17 S ≡ outcome_on S.grid
      on_fit e = rw e

  -- weights that do not: 17
  pub refused_17 : {work : List ℕ} → weights_fit S.grid.rows S.weights ≡ false
      → InspectedAs S work (record { outcome = Refused 17 0; queued = 0 })
  unfolding outcome_from17
  refused_17 e = record { outcome = rw e; passed = λ h. let z : ◌≡◌ {A = ℕ} 0 1 = cc in absurd (omega arith) }

  -- the weights of an inspected sheet fit
  pub weighted : {work : List ℕ} {queued : ℕ} {L : Lent} → Fitting S L → Inspected S work queued
      → Weighted S.grid.rows S.weights
  weighted f i = record { room = f.weights; fit = (accepted_from_17 S i.accepted).0 }

  pub rest_accepted : {work : List ℕ} {queued : ℕ} → Inspected S work queued → outcome_on S.grid ≡ Accepted
  rest_accepted i = (accepted_from_17 S i.accepted).1
