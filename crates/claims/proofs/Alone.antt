-- On an accepted sheet, areas and labels worked out on the whole sheet are those that each basin has where all others
-- are set to 0; and what the basins that were written say.
use mathlib.Core.Path.{◌≡◌, refl, sym, ◌∙◌, ap}
use mathlib.Core.Bool.{cond}
use mathlib.Core.List.{List}
use Prim.Native.Nat.{ℕ, zero, suc, ◌<◌}
use native.Mathlib.Nat.{zero-add}
use lib.Dec.{eqb}
use lib.ListN.{get_or}
use borrow.Author.Tests.{eq-eqb}
use Rattle.sheet.specs.declared.Label.{Label}
use Rattle.sheet.specs.Sheet.{Grid, Sheet, cells, dir_at, next}
use Rattle.sheet.specs.Area.{area}
use Rattle.sheet.specs.Record.{numbers_of}
use Rattle.sheet.specs.Label.{label_of, list_from, areas_of, labels_of}
use Rattle.sheet.specs.Basins.{basin_of, basin_grid, basin_area, basin_label, basin_areas, basin_labels, basins_of}
use Rattle.sheet.specs.Refusal.{outcome_on, written}
use Rattle.sheet.proofs.Cells.{inside_lt, next_from_lt, next_to_lt}
use Rattle.sheet.proofs.Lists.{list_at, written_at}
use Rattle.claims.specs.Demand.{basin_at}
use Rattle.claims.specs.Alone.{AloneIsDirect, BasinsMeaning}
use Rattle.claims.proofs.Sheets.{PassedOn, passed_on, outlet_is}
use Rattle.claims.proofs.BasinNumbers.{basin_stays, outlets_rise, basin_some, basin_most, basin_outside, outlet_number}
use Rattle.claims.proofs.BasinGrids.{area_same, label_same}
use Rattle.sheet.specs.Answer.{Accepted}
use Rattle.std.specs.Prelude.{Some}

list_same : {A : Type 0} (f g : ℕ → A) (i m : ℕ) → ((c : ℕ) → f c ≡ g c) → list_from f i m ≡ list_from g i m
unfolding list_from
list_same f g i zero h = refl
list_same f g i (suc m) h = rw (h i, list_same f g (suc i) m h)

-- ---- each basin by itself

module _ (S : Sheet) (P : PassedOn S.grid) where
  abbrev G : Grid
  G = S.grid

  -- the directions with all other basins set to 0
  abbrev dir_in : ℕ → ℕ → ℕ
  dir_in basin c = cond (eqb (basin_of G c) basin) (dir_at G c) 0

  abbrev dirs_in : ℕ → List ℕ
  dirs_in basin = list_from (dir_in basin) 0 (cells G)

  dir_in_lem : (basin c : ℕ) → c < cells G → get_or (dirs_in basin) c 0 ≡ dir_in basin c
  dir_in_lem basin c l = list_at (dir_in basin) 0 (cells G) c l ∙ ap (dir_in basin) (zero-add c)

  stays : (basin q r : ℕ) → next G q ≡ Some r → eqb (basin_of G q) basin ≡ eqb (basin_of G r) basin
  stays basin q r e = ap (λ (b : ℕ). eqb b basin) (basin_stays G P q r e)

  pub area_alone : (c : ℕ) → basin_area S c ≡ area S c
  unfolding basin_area basin_grid
  area_alone c =
      let b = basin_of G c in
      area_same G (λ q. eqb (basin_of G q) b) (stays b) (dirs_in b) (dir_in_lem b) S.depth S.least S.split
      S.weights c (eq-eqb b b refl)

  pub label_alone : (c : ℕ) → basin_label S c ≡ label_of S c
  unfolding basin_label basin_grid
  label_alone c =
      let b = basin_of G c in
      label_same G (λ q. eqb (basin_of G q) b) (stays b) (dirs_in b) (dir_in_lem b) S.depth S.least S.split
      S.weights c (eq-eqb b b refl)

pub alone_is_direct : (S : Sheet) → outcome_on S.grid ≡ Accepted → AloneIsDirect S
unfolding basin_areas areas_of basin_labels labels_of
alone_is_direct S accepted =
    let P = passed_on S.grid accepted in
    record {
      areas = list_same (basin_area S) (area S) 0 (cells S.grid) (area_alone S P);
      labels =
          ap (λ (labels : List Label). numbers_of labels)
          (list_same (basin_label S) (label_of S) 0 (cells S.grid) (label_alone S P));
    }

-- ---- the basins that were written

-- the basin that stands for a cell, whatever the slice held before
pub basin_at_lem : (G : Grid) (basins old : List ℕ) → basins ≡ written (basins_of G) old → (c : ℕ) → c < cells G
    → basin_at basins c ≡ basin_of G c
unfolding basins_of
basin_at_lem G basins old e c l = rw e (written_at (basin_of G) (cells G) c old l)

pub basins_meaning : (S : Sheet) → outcome_on S.grid ≡ Accepted → (basins old : List ℕ)
    → basins ≡ written (basins_of S.grid) old → BasinsMeaning S basins
basins_meaning S accepted basins old e = record {
  some = λ c i. rw (basin c (inside_lt G c i)) (basin_some G P c i);
  most = λ c i. rw (basin c (inside_lt G c i)) (basin_most G P c i);
  outside = λ c l o. basin c l ∙ basin_outside G c o;
  numbered = λ o f. basin o (inside_lt G o (outlet_is G o f).0) ∙ outlet_number G P o f;
  stays = λ c r n. basin c (next_from_lt G c n) ∙ basin_stays G P c r n ∙ sym (basin r (next_to_lt G c n));
  rising = λ o p f g l.
      rw (basin o (inside_lt G o (outlet_is G o f).0), basin p (inside_lt G p (outlet_is G p g).0))
      (outlets_rise G P o p f g l);
}
  where
    G : Grid
    G = S.grid

    P : PassedOn S.grid
    P = passed_on S.grid accepted

    basin : (c : ℕ) → c < cells S.grid → basin_at basins c ≡ basin_of S.grid c
    basin = basin_at_lem S.grid basins old e
