-- The answer of the levy's call and the lent slices afterwards, by its first checks.
use mathlib.Core.Path.{◌≡◌, refl, sym, ap, ◌∙◌}
use mathlib.Core.List.{List, ◌++◌}
use Prim.Native.Nat.{ℕ, ◌*◌, ◌≤◌, ◌<◌}
use lib.ListN.{length, take, drop}
use borrow.Author.Tests.{le-leb, lt-leb}
use Rattle.sheet.specs.Sheet.{Sheet, cells}
use Rattle.sheet.specs.Refusal.{Lent, lent_after}
use Rattle.labelling.specs.Labelling.{lent, first_checks}
use Rattle.labelling.proofs.Calls.{the_rest, labelled}
use Rattle.index.specs.Units.{units}
use Rattle.index.specs.Index.{LentIndex, indexed_on, indexed, indexed_values, if_indexed}
use Rattle.index.proofs.Steps.{refused_first as index-refused}
use Rattle.dues.specs.Levy.{greatest_total, units_of_basin, dues_of, total_fits, with_dues, levied_on, levied, lent_after_levy}
use Rattle.dues.specs.Levy.{index_after_levy, if_levied, dues_after}
use Rattle.dues.specs.Steps.{LeviedFitting}
use Rattle.sheet.specs.Answer.{Outcome, Counted, Accepted, Refused}

module _ (S : Sheet) (L : Lent) (I : LentIndex) (basin total : ℕ) (D : List ℕ) where
  -- how many places of the dues are wanted
  abbrev wanted : ℕ
  wanted = length (units_of_basin S basin)

  -- what a call promises
  abbrev pub Answered : Counted → Lent → LentIndex → List ℕ → Type 0
  Answered r L' I' D' =
      (r ≡ levied S L I basin total D) ×
      ((indexed_values r ≡ indexed_values (levied S L I basin total D)) ×
      ((L' ≡ lent_after_levy S L total) ×
      ((I' ≡ index_after_levy S L I basin total D) × (D' ≡ dues_after S L I basin total D))))

  answered : {r : Counted} {L' : Lent} {I' : LentIndex} {D' : List ℕ} → r ≡ levied S L I basin total D
      → L' ≡ lent_after_levy S L total → I' ≡ if_indexed r (units S) I → D' ≡ if_levied r (dues_of S basin total) D
      → Answered r L' I' D'
  unfolding index_after_levy dues_after
  answered e l i d = (
    e,
    (
      ap indexed_values e,
      (
        l,
        (
          i ∙ ap (λ (x : Counted). if_indexed x (units S) I) e,
          d ∙ ap (λ (x : Counted). if_levied x (dues_of S basin total) D) e,
        ),
      ),
    ),
  )

  -- 18
  pub too_large : greatest_total < total → Answered (Refused 18 0) L I D
  unfolding levied levied_on total_fits lent_after_levy
  too_large l =
      let e = lt-leb _ _ l in
      answered (rw e refl) (rw e refl) refl refl

  -- a total within its bound
  module _ (fits : total ≤ greatest_total) where
    answer_then : levied S L I basin total D ≡ with_dues (indexed S L I) wanted D
    unfolding levied levied_on total_fits
    answer_then = rw (le-leb _ _ fits) refl

    lent_then : lent_after_levy S L total ≡ lent_after S L
    unfolding lent_after_levy total_fits
    lent_then = rw (le-leb _ _ fits) refl

    -- by the first checks
    pub refused_first : {number place : ℕ} → first_checks S L ≡ Refused number place
        → Answered (Refused number place) L I D
    unfolding with_dues
    refused_first e =
        let a = index-refused S L I e in
        answered (ap (λ (x : Counted). with_dues x wanted D) a.0 ∙ sym answer_then) (a.1.1.0 ∙ sym lent_then) refl
        refl

    -- after the first checks
    pub levied_after : first_checks S L ≡ Accepted
        → {areas labels basins work D' : List ℕ} {I' : LentIndex} {r : Counted}
        → LeviedFitting S (lent L.areas L.labels L.basins (take (8 * cells S.grid) L.work))
        (lent areas labels basins work) I I' basin total D D' r
        → Answered r (lent areas labels basins (work ++ drop (8 * cells S.grid) L.work)) I' D'
    unfolding indexed
    levied_after passed f =
        let a = labelled S L passed refl f.areas f.labels f.basins
        (ap (λ (w : List ℕ). w ++ drop (8 * cells S.grid) L.work) f.work) in
        let same = ap (λ (x : Outcome). with_dues (indexed_on x (length (units S)) I) wanted D)
        (sym (the_rest S L passed)) in
        answered (f.answer ∙ same ∙ sym answer_then) (a.1.1 ∙ sym lent_then) f.index f.dues
