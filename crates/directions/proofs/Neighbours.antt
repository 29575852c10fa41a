-- The donors of an inside cell are its neighbours against the eight steps, each once.
use mathlib.Core.Path.{◌≡◌, refl, sym, ◌∙◌, ap}
use mathlib.Core.Bool.{Bool, true, false, cond}
use Prim.Native.Nat.{ℕ, ◌+◌, ◌*◌, ◌/◌, ◌%◌, ◌<◌}
use native.Mathlib.Nat.{div-add-mod', mod-lt}
use native.Mathlib.Omega.{arith}
use lib.Dec.{eqb, ltb}
use lib.IntN.{ℤ, pos, negsuc, neg_ℤ, ◌+ℤ◌, +ℤ-neg_ℤ_cancel}
use borrow.Author.Tests.{lt-ltb, eq-eqb, ne_eqb, eqb-true}
use Rattle.sheet.specs.declared.Step.{Step}
use Rattle.sheet.specs.Direction.{step_of, is_code, below, moved_by, step_end}
use Rattle.sheet.specs.Sheet.{Grid, cells, dir_at, inside, end_of, next}
use Rattle.directions.specs.Steps.{step_at, with_code, neighbour_against}
use Rattle.directions.proofs.Steps.{back, Opposite, back_opposite, opposite_back, table_step, code_found}
use Rattle.directions.proofs.Steps.{code_positive, code_once}
use Rattle.sheet.proofs.Cells.{off_not_at, cell_row, cell_col, row_lt, moved_lt, end_at, end_landed, end_lt, inside_yes}
use Rattle.sheet.proofs.Cells.{inside_code, next_to, next_goes, next_from_lt}
use Rattle.sheet.specs.Answer.{End}
use Rattle.std.specs.Prelude.{None, Some}

-- ---- a step back

below_is : (count : ℕ) (z : ℤ) (n : ℕ) → below count z ≡ Some n → z ≡ pos n
unfolding below
below_is count (pos k) n e = go (ltb k count) e
  where
    go : (b : Bool) → cond b (Some k) None ≡ Some n → pos k ≡ pos n
    go true e = let q : k ≡ n = cc in ap pos q
    go false e = absurd (off_not_at e)
below_is count (negsuc k) n e = absurd (off_not_at e)

moved_back : {a : ℕ} (z : ℤ) {count b : ℕ} → a < count → moved_by a z count ≡ Some b → moved_by b (neg_ℤ z) count ≡ Some a
unfolding moved_by
moved_back {a} z {count} {b} l e =
    let s : pos a +ℤ z ≡ pos b = below_is count (pos a +ℤ z) b e in
    let t : pos b +ℤ neg_ℤ z ≡ pos a = ap (λ (y : ℤ). y +ℤ neg_ℤ z) (sym s) ∙ +ℤ-neg_ℤ_cancel (pos a) z in
    ap (below count) t ∙ ap (λ (y : Bool). cond y (Some a) None) (lt-ltb a count l)

-- a step that is undone by another leads back
end_back : (rows cols row col : ℕ) {s o : Step} → Opposite s o → row < rows → col < cols → {t : ℕ}
    → step_end rows cols row col s ≡ Some t → step_end rows cols (t / cols) (t % cols) o ≡ Some (row * cols + col)
end_back rows cols row col {s} {o} opposite h k {t} e =
    let l = end_landed rows cols row col s e in
    let on = moved_lt _ _ l.col_is in
    let r : t / cols ≡ l.row = ap (λ (y : ℕ). y / cols) (sym l.cell_is) ∙ cell_row l.row on in
    let c : t % cols ≡ l.col = ap (λ (y : ℕ). y % cols) (sym l.cell_is) ∙ cell_col l.row on in
    rw (r, c)
    (sym (end_at rows cols l.row l.col o (rw opposite.row (moved_back s.row h l.row_is))
    (rw opposite.col (moved_back s.col k l.col_is))))

-- ---- what is found against a step

-- where the step back from a row and a column ends
abbrev pub step_back : Grid → ℕ → ℕ → ℕ → End
step_back G row col k = step_end G.rows G.cols row col (step_at (back k))

-- against the k-th step, u is found
pub record FoundAgainst (G : Grid) (row col k u : ℕ) : Type 0 where
  pub ends : step_back G row col k ≡ Some u
  pub code : dir_at G u ≡ (step_at k).code

module _ (G : Grid) (row col k : ℕ) where
  pub neighbour_off : step_back G row col k ≡ None → None ≡ neighbour_against G row col k
  unfolding neighbour_against
  neighbour_off e = rw e

  pub neighbour_no : {t : ℕ} → step_back G row col k ≡ Some t → (dir_at G t ≡ (step_at k).code → ⊥)
      → None ≡ neighbour_against G row col k
  unfolding neighbour_against
  neighbour_no e ne = rw (e, ne_eqb _ _ ne)

  pub neighbour_yes : {u : ℕ} → FoundAgainst G row col k u → Some u ≡ neighbour_against G row col k
  unfolding neighbour_against
  neighbour_yes f = rw (f.ends, eq-eqb _ _ f.code)

  pub neighbour_found : {u : ℕ} → neighbour_against G row col k ≡ Some u → FoundAgainst G row col k u
  unfolding neighbour_against
  neighbour_found {u} e = go (step_back G row col k) refl e
    where
      own : (t : ℕ) → step_back G row col k ≡ Some t → (b : Bool) → eqb (dir_at G t) (step_at k).code ≡ b
          → cond b (Some t) None ≡ Some u → FoundAgainst G row col k u
      own t n true z e =
          let q : t ≡ u = cc in
          record { ends = n ∙ ap Some q; code = ap (dir_at G) (sym q) ∙ eqb-true (dir_at G t) (step_at k).code z }
      own t n false z e = absurd (off_not_at e)

      go : (a : End) → step_back G row col k ≡ a → with_code G k a ≡ Some u → FoundAgainst G row col k u
      go None n e = absurd (off_not_at e)
      go (Some t) n e = own t n (eqb (dir_at G t) (step_at k).code) refl e

  pub neighbour_lt : {u : ℕ} → neighbour_against G row col k ≡ Some u → u < cells G
  neighbour_lt e = end_lt G.rows G.cols row col (step_at (back k)) (neighbour_found e).ends

-- no cell is found against two steps
pub neighbour_once : (G : Grid) (row col : ℕ) {j k u : ℕ} → j < 8 → k < 8 → neighbour_against G row col j ≡ Some u
    → neighbour_against G row col k ≡ Some u → j ≡ k
neighbour_once G row col {j} {k} h l e f =
    code_once j k h l (sym (neighbour_found G row col j e).code ∙ (neighbour_found G row col k f).code)

-- ---- the donors of a cell

module _ (G : Grid) (row col : ℕ) (row_on : row < G.rows) (col_on : col < G.cols) where
  -- what is found against a step from an inside cell is a donor of it
  pub neighbour_next : inside G (row * G.cols + col) ≡ true → {k u : ℕ} → k < 8 → neighbour_against G row col k ≡ Some u
      → next G u ≡ Some (row * G.cols + col)
  unfolding end_of
  neighbour_next i {k} {u} h e =
      let f = neighbour_found G row col k e in
      let s : step_of (dir_at G u) ≡ step_at k = ap step_of f.code ∙ table_step k h in
      let n : end_of G u ≡ Some (row * G.cols + col) = rw s
      (end_back G.rows G.cols row col (opposite_back k h) row_on col_on f.ends) in
      let ne : dir_at G u ≡ 0 → ⊥ = λ z. let l = code_positive k h in let c = f.code in omega arith in
      sym (next_to G u
      (record { from_inside = inside_yes G u (neighbour_lt G row col k e) ne; ends = n; to_inside = i }))

  -- each donor whose byte is a code is found against some step
  pub next_neighbour : {u : ℕ} → is_code (dir_at G u) ≡ true → next G u ≡ Some (row * G.cols + col)
      → (k : ℕ) × (k < 8) × (neighbour_against G row col k ≡ Some u)
  unfolding end_of
  next_neighbour {u} code e =
      let g = next_goes G u e in
      let f = code_found (dir_at G u) code (inside_code G u g.from_inside) in
      let k = f.0 in
      let some : 0 < G.cols = omega arith in
      let n : step_end G.rows G.cols (u / G.cols) (u % G.cols) (step_at k) ≡ Some (row * G.cols + col) = rw
      f.2 at g.ends in
      let b = end_back G.rows G.cols (u / G.cols) (u % G.cols) (back_opposite k f.1)
      (row_lt some (next_from_lt G u e)) (mod-lt u some) n in
      let ends : step_back G row col k ≡ Some u = rw (
        cell_row row col_on,
        cell_col row col_on,
        div-add-mod' u G.cols,
      ) at b in
      (k, f.1, sym (neighbour_yes G row col k (record { ends = ends; code = f.3 })))
