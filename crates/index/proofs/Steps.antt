-- What each step of the index call hands to the next.
use mathlib.Core.Path.{◌≡◌, refl, sym, ap, ◌∙◌}
use mathlib.Core.List.{List, ◌++◌}
use Prim.Native.Nat.{ℕ, ◌+◌, ◌*◌, ◌≤◌}
use native.Mathlib.Omega.{arith}
use lib.ListN.{length, take, drop, replicate, length-take, length-drop}
use Rattle.sheet.specs.Sheet.{Sheet, Grid, cells}
use Rattle.sheet.specs.Record.{label_places}
use Rattle.sheet.specs.Label.{areas_of, labels_of}
use Rattle.sheet.specs.Basins.{basins_of}
use Rattle.sheet.specs.Refusal.{Lent, outcome, if_accepted, lent_after}
use Rattle.directions.specs.Sizes.{most_cells}
use Rattle.claims.proofs.Alone.{alone_is_direct}
use Rattle.claims.proofs.Written.{checks}
use Rattle.drainage.specs.declared.Inspection.{Inspection}
use Rattle.upstream.specs.Work.{cells_part}
use Rattle.order.specs.Places.{cells_in, Arranged}
use Rattle.labelling.specs.Labelling.{lent, first_checks, LabelledInOrder}
use Rattle.labelling.proofs.Calls.{refused, the_rest, labelled}
use Rattle.index.specs.Units.{UnitEntry, units}
use Rattle.index.specs.Index.{LentIndex, indexed_on, indexed, indexed_values, if_indexed, index_after}
use Rattle.index.specs.Steps.{groups_of, InOrder, IndexedFitting}
use Rattle.index.proofs.UnitsInOrder.{groups_are_units}
use Rattle.sheet.specs.Answer.{Outcome, Counted, Accepted, Refused}
use Rattle.std.specs.Prelude.{Err}

-- from the order along rivers to the cells that the units are written from
pub in_order_lem : {G : Grid} {areas work labels basins : List ℕ} {queued : ℕ} → cells G ≤ most_cells
    → length work ≡ 8 * cells G → cells G ≤ label_places (length labels) → cells G ≤ length basins
    → Arranged G areas work queued → InOrder (cells G) work labels basins queued
in_order_lem {G} {areas} {work} {labels} {basins} {queued} small long enough numbered r =
    let part = drop (cells_part * cells G) work in
    let few : cells_part * cells G + queued ≤ length work =
    omega (arith, r.some, r.long, length-take queued part, length-drop (cells_part * cells G) work) in
    record {
      small = small;
      room = few;
      labelled = record {
        few = rw r.long (omega arith);
        on = λ j l. let o = r.layout.on j l in omega arith;
        numbered = λ j l. let o = r.layout.on j l in omega arith;
      };
    }

-- ---- after labelling
module _ (S : Sheet) (L : Lent) (passed : first_checks S L ≡ Accepted) {L' : Lent} {found : Inspection}
    (o : LabelledInOrder S L L' found) where
  abbrev groups : List UnitEntry
  groups = groups_of (cells_in (cells S.grid) L'.work found.queued) L'.labels L'.basins

  module _ (e : found.outcome ≡ Accepted) where
    pub accepted : outcome S L ≡ Accepted
    accepted = the_rest S L passed ∙ sym o.outcome ∙ e

    pub labels_after : L'.labels ≡ (lent_after S L).labels
    unfolding lent_after
    labels_after = rw (accepted, (alone_is_direct S (checks S L accepted).rest).labels) (rw e at o.labels)

    pub basins_after : L'.basins ≡ (lent_after S L).basins
    unfolding lent_after
    basins_after = rw accepted (rw e at o.basins)

    pub groups_of_accepted : groups ≡ units S
    groups_of_accepted =
        rw (labels_after, basins_after)
        (groups_are_units S L L.areas accepted (rw e at o.areas) (o.order e))

  module _ (I : LentIndex) where
    answer_is : indexed_on found.outcome (length groups) I ≡ indexed_on found.outcome (length (units S)) I
    unfolding indexed_on
    answer_is = go found.outcome refl
      where
        go : (x : Outcome) → found.outcome ≡ x → indexed_on x (length groups) I ≡ indexed_on x (length (units S)) I
        go Accepted e = ap (λ (g : List UnitEntry). indexed_on Accepted (length g) I) (groups_of_accepted e)
        go (Err refusal) e = refl

    index_is : {r : Counted} → r ≡ indexed_on found.outcome (length groups) I
        → if_indexed r groups I ≡ if_indexed r (units S) I
    unfolding indexed_on
    index_is {r} = go found.outcome refl
      where
        go : (x : Outcome) → found.outcome ≡ x → r ≡ indexed_on x (length groups) I
            → if_indexed r groups I ≡ if_indexed r (units S) I
        go Accepted e h = rw (groups_of_accepted e)
        go (Err refusal) e h = rw h

    pub indexed_fitting : {I' : LentIndex} {r : Counted} {work : List ℕ}
        → r ≡ indexed_on found.outcome (length groups) I → I' ≡ if_indexed r groups I
        → work ≡ replicate (8 * cells S.grid) 0
        → IndexedFitting S L (lent L'.areas L'.labels L'.basins work) I I' r
    indexed_fitting {I'} {r} {work} a i w = record {
      answer = a ∙ answer_is ∙ ap (λ (x : Outcome). indexed_on x (length (units S)) I) o.outcome;
      areas = o.areas ∙ ap (λ (x : Outcome). if_accepted x (areas_of S) L.areas) o.outcome;
      labels = o.labels ∙ ap (λ (x : Outcome). if_accepted x (labels_of S) L.labels) o.outcome;
      basins = o.basins ∙ ap (λ (x : Outcome). if_accepted x (basins_of S.grid) L.basins) o.outcome;
      work = w;
      index = i ∙ index_is a;
    }

-- ---- a call
module _ (S : Sheet) (L : Lent) (I : LentIndex) where
  -- what a call promises
  abbrev Answered : Counted → Lent → LentIndex → Type 0
  Answered r L' I' =
      (r ≡ indexed S L I) ×
      ((indexed_values r ≡ indexed_values (indexed S L I)) × ((L' ≡ lent_after S L) × (I' ≡ index_after S L I)))

  answered : {r : Counted} {L' : Lent} {I' : LentIndex} → r ≡ indexed S L I → L' ≡ lent_after S L
      → I' ≡ if_indexed r (units S) I → Answered r L' I'
  unfolding index_after
  answered e l i = (e, (ap indexed_values e, (l, i ∙ ap (λ (x : Counted). if_indexed x (units S) I) e)))

  -- by the first checks
  pub refused_first : {number place : ℕ} → first_checks S L ≡ Refused number place
      → Answered (Refused number place) L I
  unfolding indexed
  refused_first e =
      let a = refused S L e in
      answered (ap (λ (x : Outcome). indexed_on x (length (units S)) I) a.0) a.1.1 refl

  -- after the first checks
  pub indexed_after : first_checks S L ≡ Accepted → {areas labels basins work : List ℕ} {I' : LentIndex} {r : Counted}
      → IndexedFitting S (lent L.areas L.labels L.basins (take (8 * cells S.grid) L.work))
      (lent areas labels basins work) I I' r
      → Answered r (lent areas labels basins (work ++ drop (8 * cells S.grid) L.work)) I'
  unfolding indexed
  indexed_after passed f =
      let a = labelled S L passed refl f.areas f.labels f.basins
      (ap (λ (w : List ℕ). w ++ drop (8 * cells S.grid) L.work) f.work) in
      answered (f.answer ∙ ap (λ (x : Outcome). indexed_on x (length (units S)) I) (sym (the_rest S L passed)))
      a.1.1 f.index
