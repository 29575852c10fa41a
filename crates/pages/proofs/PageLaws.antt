-- The cells of a page and their lines, as cells are added in reading order.
use mathlib.Core.Path.{◌≡◌, refl, sym, ap, ◌∙◌}
use mathlib.Core.Bool.{Bool, true, false}
use mathlib.Core.Logic.{⊎_elim}
use mathlib.Core.List.{List, [], ◌∷◌, ◌++◌, append_assoc, append-nil}
use Prim.Native.Nat.{ℕ, zero, suc, ◌+◌, ◌*◌, ◌-◌, ◌/◌, ◌<◌, ◌≤◌, min}
use native.Mathlib.Numerals.{add-one}
use native.Mathlib.Nat.{eq-or-lt_of_le}
use native.Mathlib.Omega.{arith}
use borrow.Author.Tests.{eqb-true, eqb-false, ltb-true, ltb-false}
use lib.Dec.{eqb, ltb}
use lib.ListN.{length, take, drop, length-append, length-take, length-drop, drop_of_length-le}
use lib.Seq.{drop-nil, take_all, take-append-le, drop-append-le}
use Rattle.decimal.specs.Ascii.{line_feed}
use Rattle.sheet.specs.Refusal.{both}
use Rattle.sheet.specs.Sheet.{Grid, cells, dir_at, inside}
use Rattle.sheet.proofs.Cells.{inside_no, inside_yes}
use Rattle.sheet.proofs.Within.{both_true}
use Rattle.pages.specs.Line.{Texts, texts_fit, line_columns, page_line}
use Rattle.pages.specs.Page.{inside_below, page_size, page_cells, cell_lines}
use Rattle.pages.specs.Writing.{all_fit}
use Rattle.pages.proofs.Fields.{fit_of, line_length}

-- ---- inside cells

module _ (G : Grid) where
  pub below_outside : (c : ℕ) → dir_at G c ≡ 0 → inside_below G (c + 1) ≡ inside_below G c
  unfolding inside_below
  below_outside c e = rw (add-one, inside_no G c e, append-nil)

  pub below_inside : (c : ℕ) → c < cells G → (dir_at G c ≡ 0 → ⊥)
      → inside_below G (c + 1) ≡ inside_below G c ++ (c ∷ [])
  unfolding inside_below
  below_inside c l ne = rw (add-one, inside_yes G c l ne)

  pub below_few : (n : ℕ) → length (inside_below G n) ≤ n
  unfolding inside_below
  below_few zero = omega arith
  below_few (suc n) = go (inside G n) refl (below_few n)
    where
      go : (t : Bool) → inside G n ≡ t → length (inside_below G n) ≤ n → length (inside_below G (suc n)) ≤ suc n
      go true e few = rw e (omega (arith, length-append (inside_below G n) (n ∷ []), few))
      go false e few = rw (e, append-nil) (omega (arith, few))

-- ---- one cell more

-- the page on which the cell after so many stands
abbrev pub page_after : ℕ → ℕ
page_after seen = seen / page_size + 1

module _ (c : ℕ) where
  pub on_page : (k : ℕ) (cs : List ℕ) → page_after (length cs) ≡ k
      → page_cells k (cs ++ (c ∷ [])) ≡ page_cells k cs ++ (c ∷ [])
  unfolding page_cells
  on_page zero cs e = absurd (omega arith)
  on_page (suc j) cs e =
      let rest : List ℕ = drop (j * page_size) cs in
      let long : length rest ≡ length cs - j * page_size = length-drop (j * page_size) cs in
      ap (take page_size) (drop-append-le (j * page_size) cs (c ∷ []) (omega arith))
      ∙ take_all page_size (rest ++ (c ∷ [])) (omega (arith, length-append rest (c ∷ [])))
      ∙ ap (λ (x : List ℕ). x ++ (c ∷ [])) (sym (take_all page_size rest (omega arith)))

  pub off_page : (k : ℕ) (cs : List ℕ) → (page_after (length cs) ≡ k → ⊥)
      → page_cells k (cs ++ (c ∷ [])) ≡ page_cells k cs
  unfolding page_cells
  off_page zero cs ne = refl
  off_page (suc j) cs ne = earlier (ltb (length cs) (j * page_size)) refl
    where
      later : j * page_size ≤ length cs → j * page_size + page_size ≤ length cs
      later l = go (ltb (length cs) (j * page_size + page_size)) refl
        where
          go : (t : Bool) → ltb (length cs) (j * page_size + page_size) ≡ t → j * page_size + page_size ≤ length cs
          go true e = let below = ltb-true (length cs) (j * page_size + page_size) e in absurd (ne (omega arith))
          go false e = ltb-false (length cs) (j * page_size + page_size) e

      earlier : (t : Bool) → ltb (length cs) (j * page_size) ≡ t
          → take page_size (drop (j * page_size) (cs ++ (c ∷ []))) ≡ take page_size (drop (j * page_size) cs)
      earlier true e =
          let below = ltb-true (length cs) (j * page_size) e in
          let all : length (cs ++ (c ∷ [])) ≤ j * page_size = omega (arith, length-append cs (c ∷ [])) in
          let short : length cs ≤ j * page_size = omega arith in
          ap (take page_size) (drop_of_length-le (cs ++ (c ∷ [])) all ∙ sym (drop_of_length-le cs short))
      earlier false e =
          let l = ltb-false (length cs) (j * page_size) e in
          let full = later l in
          ap (take page_size) (drop-append-le (j * page_size) cs (c ∷ []) l)
          ∙ take-append-le page_size (drop (j * page_size) cs) (c ∷ [])
          (omega (arith, length-drop (j * page_size) cs))

-- a page of no cells
pub none_before : (k : ℕ) → page_cells k [] ≡ []
unfolding page_cells
none_before zero = refl
none_before (suc j) = ap (take page_size) (drop-nil (j * page_size))

-- how many cells stand on a page
pub page_cells_length : (j : ℕ) (cs : List ℕ)
    → length (page_cells (suc j) cs) ≡ min page_size (length cs - j * page_size)
unfolding page_cells
page_cells_length j cs =
    length-take page_size (drop (j * page_size) cs) ∙ ap (min page_size) (length-drop (j * page_size) cs)

-- no more cells than there are
pub page_few : (k : ℕ) (cs : List ℕ) → length (page_cells k cs) ≤ length cs
unfolding page_cells
page_few zero cs = omega arith
page_few (suc j) cs = omega (arith, page_cells_length j cs)

-- nor more than 59
pub page_at_most : (k : ℕ) (cs : List ℕ) → length (page_cells k cs) ≤ page_size
unfolding page_cells
page_at_most zero cs = omega arith
page_at_most (suc j) cs = omega (arith, page_cells_length j cs)

-- ---- the page so far begins the page

-- a list that begins another
pub record StartOf (front whole : List ℕ) : Type 0 where
  pub rest : List ℕ
  pub is : whole ≡ front ++ rest

start_same : {x y : List ℕ} → y ≡ x → StartOf x y
start_same {x} e = record { rest = []; is = e ∙ sym (append-nil x) }

start_more : {x y z : List ℕ} → StartOf x y → StartOf y z → StartOf x z
start_more {x} {y} {z} p q = record {
  rest = p.rest ++ q.rest;
  is = q.is ∙ ap (λ (s : List ℕ). s ++ q.rest) p.is ∙ append_assoc x p.rest q.rest;
}

-- cells that are added stand after those of the page
page_one_more : (k c : ℕ) (cs : List ℕ) → StartOf (page_cells k cs) (page_cells k (cs ++ (c ∷ [])))
page_one_more k c cs = go (eqb (page_after (length cs)) k) refl
  where
    go : (t : Bool) → eqb (page_after (length cs)) k ≡ t → StartOf (page_cells k cs) (page_cells k (cs ++ (c ∷ [])))
    go true e = record { rest = c ∷ []; is = on_page c k cs (eqb-true _ _ e) }
    go false e = start_same (off_page c k cs (eqb-false _ _ e))

module _ (G : Grid) (k : ℕ) where
  one_more : (n : ℕ) → StartOf (page_cells k (inside_below G n)) (page_cells k (inside_below G (suc n)))
  unfolding inside_below
  one_more n = go (inside G n) refl
    where
      go : (t : Bool) → inside G n ≡ t → StartOf (page_cells k (inside_below G n)) (page_cells k (inside_below G (suc n)))
      go true e = rw e (page_one_more k n (inside_below G n))
      go false e = rw (e, append-nil) (start_same refl)

  pub page_begins : (m n : ℕ) → m ≤ n → StartOf (page_cells k (inside_below G m)) (page_cells k (inside_below G n))
  page_begins m zero h =
      let e : 0 ≡ m = omega arith in start_same (ap (λ (i : ℕ). page_cells k (inside_below G i)) e)
  page_begins m (suc n) h =
      ⊎_elim (λ e. start_same (ap (λ (i : ℕ). page_cells k (inside_below G i)) (sym e)))
      (λ lt. start_more (page_begins m n (omega arith)) (one_more n)) (eq-or-lt_of_le h)

-- ---- lines

pub lines_join : (line : ℕ → List ℕ) (cs ds : List ℕ)
    → cell_lines line (cs ++ ds) ≡ cell_lines line cs ++ cell_lines line ds
unfolding cell_lines
lines_join line [] ds = refl
lines_join line (c ∷ cs) ds =
    ap (λ (s : List ℕ). line c ++ s) (lines_join line cs ds)
    ∙ sym (append_assoc (line c) (cell_lines line cs) (cell_lines line ds))

pub lines_of_one : (line : ℕ → List ℕ) (c : ℕ) → cell_lines line (c ∷ []) ≡ line c
unfolding cell_lines
lines_of_one line c = append-nil (line c)

-- ---- values that fit

pub page_line_length : (t : Texts) → texts_fit t ≡ true → length (page_line t) ≡ 73
unfolding page_line
page_line_length t e =
    omega (arith, length-append (line_columns t) (line_feed ∷ []), line_length t (fit_of t e))

module _ (texts : ℕ → Texts) where
  pub fit_join : (cs ds : List ℕ) → all_fit texts (cs ++ ds) ≡ both (all_fit texts cs) (all_fit texts ds)
  unfolding all_fit
  fit_join [] ds = refl
  fit_join (c ∷ cs) ds = go (texts_fit (texts c)) (fit_join cs ds)
    where
      go : (t : Bool) → all_fit texts (cs ++ ds) ≡ both (all_fit texts cs) (all_fit texts ds)
          → both t (all_fit texts (cs ++ ds)) ≡ both (both t (all_fit texts cs)) (all_fit texts ds)
      go true e = e
      go false e = refl

  -- lines of 72 texts and a line feed
  pub fit_length : (cs : List ℕ) → all_fit texts cs ≡ true
      → length (cell_lines (λ c. page_line (texts c)) cs) ≡ 73 * length cs
  unfolding all_fit cell_lines
  fit_length [] e = refl
  fit_length (c ∷ cs) e =
      let both_fit = both_true (texts_fit (texts c)) (all_fit texts cs) e in
      omega (
        arith,
        length-append (page_line (texts c)) (cell_lines (λ d. page_line (texts d)) cs),
        page_line_length (texts c) both_fit.0,
        fit_length cs both_fit.1,
      )

-- ---- a turn of a loop over the cells, on the page k after `seen` inside cells

module _ (G : Grid) (k c : ℕ) where
  pub page_outside : dir_at G c ≡ 0 → page_cells k (inside_below G (c + 1)) ≡ page_cells k (inside_below G c)
  page_outside e = ap (page_cells k) (below_outside G c e)

  pub seen_outside : dir_at G c ≡ 0 → length (inside_below G c) ≡ length (inside_below G (c + 1))
  seen_outside e = ap length (sym (below_outside G c e))

  module _ (on : c < cells G) (ne : dir_at G c ≡ 0 → ⊥) {seen : ℕ} (seen-is : seen ≡ length (inside_below G c)) where
    pub seen_inside : seen + 1 ≡ length (inside_below G (c + 1))
    seen_inside =
        omega (arith, ap length (below_inside G c on ne), length-append (inside_below G c) (c ∷ []))

    pub page_off : (page_after seen ≡ k → ⊥) → page_cells k (inside_below G (c + 1)) ≡ page_cells k (inside_below G c)
    page_off off =
        ap (page_cells k) (below_inside G c on ne)
        ∙ off_page c k (inside_below G c) (λ e. off (ap page_after seen-is ∙ e))

    pub page_on : page_after seen ≡ k
        → page_cells k (inside_below G (c + 1)) ≡ page_cells k (inside_below G c) ++ (c ∷ [])
    page_on e =
        ap (page_cells k) (below_inside G c on ne)
        ∙ on_page c k (inside_below G c) (sym (ap page_after seen-is) ∙ e)
