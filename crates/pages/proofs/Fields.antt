-- Texts set into the fields of a line of blanks, one after the other.
use mathlib.Core.Path.{◌≡◌, refl, sym, ap, ◌∙◌}
use mathlib.Core.Bool.{true}
use mathlib.Core.List.{List, [], ◌∷◌, ◌++◌, append_assoc}
use Prim.Native.Nat.{ℕ, suc, ◌+◌, ◌-◌, ◌≤◌}
use native.Mathlib.Omega.{arith}
use borrow.Author.Tests.{leb-true}
use lib.Dec.{leb}
use lib.ListN.{length, drop, length-append, length-replicate, replicate-append-replicate}
use lib.Seq.{take_at, drop_at, drop-append-add}
use Rattle.decimal.specs.Ascii.{blank}
use Rattle.decimal.specs.Text.{overwrite}
use Rattle.sheet.proofs.Within.{both_true}
use Rattle.listing.specs.Listing.{field}
use Rattle.pages.specs.Field.{blanks, to_right, to_left}
use Rattle.pages.specs.Line.{Texts, fields, texts_fit, line_columns}

-- ---- widths

blanks_length : (n : ℕ) → length (blanks n) ≡ n
blanks_length n = length-replicate n blank

blanks_join : (m n : ℕ) → blanks m ++ blanks n ≡ blanks (m + n)
blanks_join m n = replicate-append-replicate m n blank

pub right_length : (w : ℕ) (text : List ℕ) → length text ≤ w → length (to_right w text) ≡ w
unfolding to_right
right_length w text h = omega (arith, length-append (blanks (w - length text)) text, blanks_length (w - length text))

pub left_length : (w : ℕ) (text : List ℕ) → length text ≤ w → length (to_left w text) ≡ w
unfolding to_left
left_length w text h = omega (arith, length-append text (blanks (w - length text)), blanks_length (w - length text))

-- each text of a line is no wider than its field
pub record Fit (t : Texts) : Type 0 where
  pub basin : length t.basin ≤ 5
  pub row : length t.row ≤ 4
  pub col : length t.col ≤ 4
  pub area : length t.area ≤ 9
  pub label : length t.label ≤ 36

pub fit_of : (t : Texts) → texts_fit t ≡ true → Fit t
unfolding texts_fit
fit_of t e =
    let b = both_true (leb (length t.basin) 5) _ e in
    let r = both_true (leb (length t.row) 4) _ b.1 in
    let c = both_true (leb (length t.col) 4) _ r.1 in
    let a = both_true (leb (length t.area) 9) (leb (length t.label) 36) c.1 in
    record {
      basin = leb-true _ _ b.0;
      row = leb-true _ _ r.0;
      col = leb-true _ _ c.0;
      area = leb-true _ _ a.0;
      label = leb-true _ _ a.1;
    }

module _ (t : Texts) (fit : Fit t) where
  fields_length : length (fields t) ≡ 62
  unfolding fields
  fields_length =
      simp (
        length-append,
        right_length 5 t.basin fit.basin,
        right_length 4 t.row fit.row,
        right_length 4 t.col fit.col,
        right_length 9 t.area fit.area,
        left_length 36 t.label fit.label,
      )

  -- "exactly 72 columns"
  pub line_length : length (line_columns t) ≡ 72
  unfolding line_columns
  line_length = left_length 72 (fields t) (omega (arith, fields_length))

-- ---- a text over blanks

-- a text in place of as many bytes after the front
overwrite_after : (front old rest text : List ℕ) (at : ℕ) → length front ≡ at → length old ≡ length text
    → overwrite (front ++ (old ++ rest)) at text ≡ front ++ (text ++ rest)
unfolding overwrite
overwrite_after front old rest text at f o =
    rw (
      take_at front (old ++ rest) at f,
      sym (ap (λ (k : ℕ). drop (k + length text) (front ++ (old ++ rest))) f),
      drop-append-add front (old ++ rest) (length text),
      drop_at old rest (length text) o,
    )

-- a text to the right in the field after the front; k blanks are left
set_right_lem : (front text : List ℕ) (at w k : ℕ) → length front + w ≡ at → length text ≤ w
    → overwrite (front ++ blanks (w + k)) (at - length text) text ≡ (front ++ to_right w text) ++ blanks k
unfolding to_right
set_right_lem front text at w k f fit =
    let n : ℕ = w - length text in
    let all : n + (length text + k) ≡ w + k = omega arith in
    let parts : blanks (w + k) ≡ blanks n ++ (blanks (length text) ++ blanks k) =
    sym
    (ap (λ (s : List ℕ). blanks n ++ s) (blanks_join (length text) k) ∙ blanks_join n (length text + k) ∙ ap blanks all)
    in
    ap (λ (s : List ℕ). overwrite (front ++ s) (at - length text) text) parts
    ∙ ap (λ (s : List ℕ). overwrite s (at - length text) text)
    (sym (append_assoc front (blanks n) (blanks (length text) ++ blanks k)))
    ∙ overwrite_after (front ++ blanks n) (blanks (length text)) (blanks k) text (at - length text)
    (omega (arith, length-append front (blanks n), blanks_length n)) (blanks_length (length text))
    ∙ sym (append_assoc (front ++ blanks n) text (blanks k))
    ∙ ap (λ (s : List ℕ). s ++ blanks k) (append_assoc front (blanks n) text)

-- a text to the left, with the blank after it; suc k blanks are left after its field
set_left : (front text : List ℕ) (at w k : ℕ) → length front ≡ at → length text ≤ w
    → overwrite (front ++ blanks (w + suc k)) at (field text blank) ≡ (front ++ to_left w text) ++ blanks (suc k)
unfolding to_left field
set_left front text at w k f fit =
    let n : ℕ = w - length text in
    let after : List ℕ = blanks (n + k) in
    let all : length text + 1 + (n + k) ≡ w + suc k = omega arith in
    let rest : n + suc k ≡ suc (n + k) = omega arith in
    let parts : blanks (w + suc k) ≡ blanks (length text + 1) ++ after =
    sym (blanks_join (length text + 1) (n + k) ∙ ap blanks all) in
    let later : blank ∷ after ≡ blanks n ++ blanks (suc k) = sym (blanks_join n (suc k) ∙ ap blanks rest) in
    ap (λ (s : List ℕ). overwrite (front ++ s) at (text ++ (blank ∷ []))) parts
    ∙ overwrite_after front (blanks (length text + 1)) after (text ++ (blank ∷ [])) at f
    (blanks_length (length text + 1) ∙ sym (length-append text (blank ∷ [])))
    ∙ ap (λ (s : List ℕ). front ++ s) (append_assoc text (blank ∷ []) after ∙ ap (λ (s : List ℕ). text ++ s) later)
    ∙ sym
    (append_assoc front (text ++ blanks n) (blanks (suc k))
    ∙ ap (λ (s : List ℕ). front ++ s) (append_assoc text (blanks n) (blanks (suc k))))

-- ---- the fields of a line

-- the field after a front and one blank
next_right : (front text : List ℕ) (at w k : ℕ) → length front + suc w ≡ at → length text ≤ w
    → overwrite (front ++ blanks (suc (w + k))) (at - length text) text
    ≡ (front ++ (blank ∷ to_right w text)) ++ blanks k
next_right front text at w k f fit =
    ap (λ (s : List ℕ). overwrite s (at - length text) text) (sym (append_assoc front (blank ∷ []) (blanks (w + k))))
    ∙ set_right_lem (front ++ (blank ∷ [])) text at w k (omega (arith, length-append front (blank ∷ []))) fit
    ∙ ap (λ (s : List ℕ). s ++ blanks k) (append_assoc front (blank ∷ []) (to_right w text))

next_left : (front text : List ℕ) (at w k : ℕ) → suc (length front) ≡ at → length text ≤ w
    → overwrite (front ++ blanks (suc (w + suc k))) at (field text blank)
    ≡ (front ++ (blank ∷ to_left w text)) ++ blanks (suc k)
next_left front text at w k f fit =
    ap (λ (s : List ℕ). overwrite s at (field text blank)) (sym (append_assoc front (blank ∷ []) (blanks (w + suc k))))
    ∙ set_left (front ++ (blank ∷ [])) text at w k (omega (arith, length-append front (blank ∷ []))) fit
    ∙ ap (λ (s : List ℕ). s ++ blanks (suc k)) (append_assoc front (blank ∷ []) (to_left w text))

-- a line of blanks into which the texts of the columns were set is the line
module _ (t : Texts) (fit : Fit t) where
  -- the line up to the end of each field
  abbrev to_basin : List ℕ
  to_basin = to_right 5 t.basin

  abbrev to_row : List ℕ
  to_row = to_basin ++ (blank ∷ to_right 4 t.row)

  abbrev to_col : List ℕ
  to_col = to_row ++ (blank ∷ to_right 4 t.col)

  abbrev to_area : List ℕ
  to_area = to_col ++ (blank ∷ to_right 9 t.area)

  basin_long : length to_basin ≡ 5
  basin_long = right_length 5 t.basin fit.basin

  row_long : length to_row ≡ 10
  row_long =
      omega (
        arith,
        basin_long,
        length-append to_basin (blank ∷ to_right 4 t.row),
        right_length 4 t.row fit.row,
      )

  col_long : length to_col ≡ 15
  col_long =
      omega (arith, row_long, length-append to_row (blank ∷ to_right 4 t.col), right_length 4 t.col fit.col)

  area_long : length to_area ≡ 25
  area_long =
      omega (arith, col_long, length-append to_col (blank ∷ to_right 9 t.area), right_length 9 t.area fit.area)

  joined : to_area ++ (blank ∷ to_left 36 t.label) ≡ fields t
  unfolding fields
  joined =
      let row : List ℕ = blank ∷ to_right 4 t.row in
      let col : List ℕ = blank ∷ to_right 4 t.col in
      let area : List ℕ = blank ∷ to_right 9 t.area in
      let label : List ℕ = blank ∷ to_left 36 t.label in
      append_assoc to_col area label
      ∙ append_assoc to_row col (area ++ label)
      ∙ append_assoc to_basin row (col ++ (area ++ label))

  whole : (to_area ++ (blank ∷ to_left 36 t.label)) ++ blanks 10 ≡ line_columns t
  unfolding line_columns to_left
  whole =
      let ten : 10 ≡ 72 - length (fields t) = omega (arith, fields_length t fit) in
      ap (λ (s : List ℕ). s ++ blanks 10) joined ∙ ap (λ (n : ℕ). fields t ++ blanks n) ten

  pub fields_set : {a b c d e : List ℕ} → a ≡ overwrite (blanks 72) (5 - length t.basin) t.basin
      → b ≡ overwrite a (10 - length t.row) t.row → c ≡ overwrite b (15 - length t.col) t.col
      → d ≡ overwrite c (25 - length t.area) t.area → e ≡ overwrite d 26 (field t.label blank)
      → e ≡ line_columns t
  fields_set {a} {b} {c} {d} {e} ae be ce de ee =
      let a' : a ≡ to_basin ++ blanks 67 = ae ∙ set_right_lem [] t.basin 5 5 67 refl fit.basin in
      let b' : b ≡ to_row ++ blanks 62 =
      be
      ∙ ap (λ (s : List ℕ). overwrite s (10 - length t.row) t.row) a'
      ∙ next_right to_basin t.row 10 4 62 (omega (arith, basin_long)) fit.row in
      let c' : c ≡ to_col ++ blanks 57 =
      ce
      ∙ ap (λ (s : List ℕ). overwrite s (15 - length t.col) t.col) b'
      ∙ next_right to_row t.col 15 4 57 (omega (arith, row_long)) fit.col in
      let d' : d ≡ to_area ++ blanks 47 =
      de
      ∙ ap (λ (s : List ℕ). overwrite s (25 - length t.area) t.area) c'
      ∙ next_right to_col t.area 25 9 47 (omega (arith, col_long)) fit.area in
      ee
      ∙ ap (λ (s : List ℕ). overwrite s 26 (field t.label blank)) d'
      ∙ next_left to_area t.label 26 36 9 (omega (arith, area_long)) fit.label
      ∙ whole
