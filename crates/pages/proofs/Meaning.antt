-- What pages are: all cells in their order, 59 a page; the atlas cut at every 59 cell lines; inside cells in reading
-- order.
use mathlib.Core.Path.{◌≡◌, refl, sym, ap, ◌∙◌}
use mathlib.Core.Bool.{Bool, true, false, true≢false}
use mathlib.Core.Logic.{⊎_elim}
use mathlib.Core.List.{List, [], ◌∷◌, ◌++◌, append_assoc, append-nil}
use Prim.Native.Nat.{ℕ, zero, suc, ◌+◌, ◌*◌, ◌%◌, ◌<◌, ◌≤◌}
use native.Mathlib.Nat.{eq-or-lt_of_le, le_of_suc-le-suc}
use native.Mathlib.Omega.{arith}
use borrow.Author.Tests.{eq-eqb, ne_eqb}
use lib.ListN.{length, get_or, take, drop, length-append, drop_of_length-le, get_or-append}
use lib.Seq.{take-add, take_all, drop-drop, get_or_at}
use Rattle.sheet.specs.Sheet.{Grid, cells, inside}
use Rattle.sheet.proofs.Cells.{inside_lt}
use Rattle.pages.specs.Line.{page_line, names}
use Rattle.pages.specs.Page.{inside_below, inside_cells, page_size, page_cells, page_count}
use Rattle.pages.specs.Page.{cell_lines, page_of, pages_up_to, atlas_from}
use Rattle.pages.specs.Meaning.{cells_up_to, StandsIn, InReadingOrder, PagesMeaning}
use Rattle.pages.proofs.Fields.{fit_of, line_length}
use Rattle.pages.proofs.PageLaws.{page_cells_length}
use Rattle.pages.proofs.Answers.{names_fit, page_most}

-- ---- the cells of pages

cells_up_to_lem : (k : ℕ) (cs : List ℕ) → cells_up_to k cs ≡ take (k * page_size) cs
unfolding cells_up_to
cells_up_to_lem zero cs = refl
cells_up_to_lem (suc k) cs =
    let next : k * page_size + page_size ≡ suc k * page_size = omega arith in
    ap (λ (s : List ℕ). s ++ take page_size (drop (k * page_size) cs)) (cells_up_to_lem k cs)
    ∙ sym (take-add (k * page_size) page_size cs)
    ∙ ap (λ (n : ℕ). take n cs) next

module _ (cs : List ℕ) where
  all_cells : cells_up_to (page_count cs) cs ≡ cs
  unfolding page_count
  all_cells = cells_up_to_lem (page_count cs) cs ∙ take_all (page_count cs * page_size) cs (omega arith)

  full_page : (k : ℕ) → 0 < k → k < page_count cs → length (page_cells k cs) ≡ page_size
  unfolding page_count
  full_page zero some less = absurd (omega arith)
  full_page (suc k) some less = omega (arith, page_cells_length k cs)

  last_page : (k : ℕ) → k ≡ page_count cs → 0 < length cs
      → (0 < length (page_cells k cs)) × (length (page_cells k cs) ≤ page_size)
  unfolding page_count
  last_page zero e some = absurd (omega arith)
  last_page (suc k) e some = (omega (arith, page_cells_length k cs), omega (arith, page_cells_length k cs))

  no_more_pages : (k : ℕ) → page_count cs < k → page_cells k cs ≡ []
  unfolding page_cells page_count
  no_more_pages zero more = refl
  no_more_pages (suc k) more =
      let past : length cs ≤ k * page_size = omega arith in ap (take page_size) (drop_of_length-le cs past)

-- ---- the atlas, page by page

-- a page without cells is one after the last cell
nothing_left : (cs : List ℕ) → take page_size cs ≡ [] → cs ≡ []
nothing_left [] e = refl
nothing_left (c ∷ cs) e = let z : ◌≡◌ {A = ℕ} 0 1 = cc in absurd (omega arith)

module _ (line : ℕ → List ℕ) where
  -- the cell lines to the end of a page, which has room for n of them
  to_page_end : (k i n : ℕ) (cs : List ℕ) → n < page_size → i + n ≡ k * page_size
      → cell_lines line (take n cs) ++ atlas_from (k * page_size) line (drop n cs) ≡ atlas_from i line cs
  unfolding cell_lines atlas_from
  to_page_end k i zero cs l e = ap (λ (j : ℕ). atlas_from j line cs) (omega arith)
  to_page_end k i (suc n) [] l e = refl
  to_page_end k i (suc n) (c ∷ cs) l e =
      let ne : i % page_size ≡ 0 → ⊥ = λ z. omega arith in
      rw (ne_eqb (i % page_size) 0 ne)
      (append_assoc (line c) (cell_lines line (take n cs)) _
      ∙ ap (λ (s : List ℕ). line c ++ s) (to_page_end k (suc i) n cs (omega arith) (omega arith)))

  -- the page of the first cells, then the atlas of the others
  page_first : (k : ℕ) (cs : List ℕ)
      → page_of line (take page_size cs) ++ atlas_from (suc k * page_size) line (drop page_size cs)
      ≡ atlas_from (k * page_size) line cs
  unfolding page_of atlas_from
  page_first k [] = refl
  page_first k (c ∷ cs) =
      let start : k * page_size % page_size ≡ 0 = omega arith in
      rw (eq-eqb (k * page_size % page_size) 0 start)
      (append_assoc (page_line names) _ _
      ∙ ap (λ (s : List ℕ). page_line names ++ s)
      (append_assoc (line c) _ _
      ∙ ap (λ (s : List ℕ). line c ++ s) (to_page_end (suc k) (suc (k * page_size)) 58 cs (omega arith) (omega arith))))

  pages_first : (cs : List ℕ) (k : ℕ)
      → pages_up_to k line cs ++ atlas_from (k * page_size) line (drop (k * page_size) cs) ≡ atlas_from 0 line cs
  unfolding pages_up_to
  pages_first cs zero = refl
  pages_first cs (suc k) =
      let next : suc k * page_size ≡ k * page_size + page_size = omega arith in
      let left : drop (suc k * page_size) cs ≡ drop page_size (drop (k * page_size) cs) =
      ap (λ (n : ℕ). drop n cs) next ∙ sym (drop-drop page_size (k * page_size) cs) in
      append_assoc (pages_up_to k line cs) _ _
      ∙ ap (λ (s : List ℕ). pages_up_to k line cs ++ s) (rw left (page_first k (drop (k * page_size) cs)))
      ∙ pages_first cs k

  pages_atlas : (cs : List ℕ) (k : ℕ) → page_cells (suc k) cs ≡ [] → pages_up_to k line cs ≡ atlas_from 0 line cs
  unfolding page_cells atlas_from
  pages_atlas cs k e =
      let none : drop (k * page_size) cs ≡ [] = nothing_left (drop (k * page_size) cs) e in
      sym (append-nil (pages_up_to k line cs))
      ∙ ap (λ (s : List ℕ). pages_up_to k line cs ++ atlas_from (k * page_size) line s) (sym none)
      ∙ pages_first cs k

-- ---- reading order

-- what holds at each place of a list, and of a cell added after it, holds at each place of the longer list
each_place : (cs : List ℕ) (n : ℕ) (P : ℕ → ℕ → Type 0)
    → ((i : ℕ) → i < length cs → P i (get_or cs i 0)) → P (length cs) n
    → (i : ℕ) → i < length (cs ++ (n ∷ [])) → P i (get_or (cs ++ (n ∷ [])) i 0)
each_place cs n P each more i l =
    let on : i ≤ length cs = omega (arith, length-append cs (n ∷ [])) in
    ⊎_elim (λ e. rw (get_or_at cs n [] 0 i (sym e), e) more) (λ lt. rw (get_or-append cs (n ∷ []) 0 i lt) (each i lt))
    (eq-or-lt_of_le on)

-- the inside cells among the first n
record InsideBelow (G : Grid) (n : ℕ) (cs : List ℕ) : Type 0 where
  below : (i : ℕ) → i < length cs → get_or cs i 0 < n
  rising : (i j : ℕ) → i < j → j < length cs → get_or cs i 0 < get_or cs j 0
  only : (i : ℕ) → i < length cs → inside G (get_or cs i 0) ≡ true
  each : (c : ℕ) → c < n → inside G c ≡ true → StandsIn c cs

module _ (G : Grid) where
  no_cells : InsideBelow G 0 []
  no_cells = record {
    below = λ i l. absurd (omega arith);
    rising = λ i j l m. absurd (omega arith);
    only = λ i l. absurd (omega arith);
    each = λ c l e. absurd (omega arith);
  }

  module _ (n : ℕ) (cs : List ℕ) (so_far : InsideBelow G n cs) where
    outside_next : inside G n ≡ false → InsideBelow G (suc n) cs
    outside_next out = record {
      below = λ i l. omega (arith, so_far.below i l);
      rising = so_far.rising;
      only = so_far.only;
      each = λ c l e. ⊎_elim (λ q. absurd (true≢false (sym e ∙ ap (inside G) q ∙ out))) (λ lt. so_far.each c lt e)
          (eq-or-lt_of_le (le_of_suc-le-suc l));
    }

    inside_next : inside G n ≡ true → InsideBelow G (suc n) (cs ++ (n ∷ []))
    inside_next e = record {
      below = each_place cs n (λ i c. c < suc n) (λ i l. omega (arith, so_far.below i l)) (omega arith);
      rising = λ i j l m. each_place cs n (λ j c. i < j → get_or (cs ++ (n ∷ [])) i 0 < c)
          (λ j m l. rw (get_or-append cs (n ∷ []) 0 i (omega arith)) (so_far.rising i j l m))
          (λ l. rw (get_or-append cs (n ∷ []) 0 i l) (so_far.below i l)) j m l;
      only = each_place cs n (λ i c. inside G c ≡ true) so_far.only e;
      each = λ c l e. ⊎_elim (λ q. added (sym q)) (λ lt. still (so_far.each c lt e))
          (eq-or-lt_of_le (le_of_suc-le-suc l));
    }
      where
        longer : length cs < length (cs ++ (n ∷ []))
        longer = omega (arith, length-append cs (n ∷ []))

        added : {c : ℕ} → n ≡ c → StandsIn c (cs ++ (n ∷ []))
        added e = record {
          place = length cs;
          place_on = longer;
          is = get_or_at cs n [] 0 (length cs) refl ∙ e;
        }

        still : {c : ℕ} → StandsIn c cs → StandsIn c (cs ++ (n ∷ []))
        still s = record {
          place = s.place;
          place_on = omega (arith, s.place_on, longer);
          is = get_or-append cs (n ∷ []) 0 s.place s.place_on ∙ s.is;
        }

  inside_below_lem : (n : ℕ) → InsideBelow G n (inside_below G n)
  unfolding inside_below
  inside_below_lem zero = no_cells
  inside_below_lem (suc n) = go (inside G n) refl (inside_below_lem n)
    where
      go : (t : Bool) → inside G n ≡ t → InsideBelow G n (inside_below G n)
          → InsideBelow G (suc n) (inside_below G (suc n))
      go true e so_far = rw e (inside_next n (inside_below G n) so_far e)
      go false e so_far = rw (e, append-nil) (outside_next n (inside_below G n) so_far e)

  in_reading_order : InReadingOrder G
  unfolding inside_cells
  in_reading_order =
      let all = inside_below_lem (cells G) in
      record {
        rising = all.rising;
        only = λ c s. ap (inside G) (sym s.is) ∙ all.only s.place s.place_on;
        each = λ c e. all.each c (inside_lt G c e) e;
      }

pub pages_meaning : PagesMeaning
unfolding page_cells
pages_meaning = record {
  columns = λ t e. line_length t (fit_of t e);
  names_fit = names_fit;
  cells = all_cells;
  full = λ k cs. full_page cs k;
  last = λ cs. last_page cs (page_count cs) refl;
  no_more = λ k cs. no_more_pages cs k;
  none_before_1 = λ cs. refl;
  atlas = pages_atlas;
  reading_order = in_reading_order;
  most = page_most;
}
