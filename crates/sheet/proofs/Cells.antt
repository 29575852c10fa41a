-- Laws of cells: a cell's row and column, the cell that a step ends on, inside cells, and where their water goes.
use mathlib.Core.Path.{◌≡◌, refl, sym, ◌∙◌, ap, subst}
use mathlib.Core.Bool.{Bool, true, false, cond, not, true≢false}
use Prim.Native.Nat.{ℕ, ◌+◌, ◌*◌, ◌/◌, ◌%◌, ◌<◌, ◌≤◌}
use native.Mathlib.Nat.{div-lt_iff_lt-mul, mul-le-mul, add-mul, one-mul}
use native.Mathlib.Omega.{arith}
use lib.Arith.{digits_lt, digits_div, digits_mod}
use lib.Dec.{ltb, eqb}
use lib.IntN.{ℤ, pos, negsuc, ◌+ℤ◌}
use borrow.Author.Tests.{ltb-true, lt-ltb, eq-eqb, ne_eqb}
use Rattle.sheet.specs.declared.Step.{Step}
use Rattle.sheet.specs.Direction.{step_of, below, moved_by, cell_at, step_end}
use Rattle.sheet.specs.Sheet.{Grid, cells, dir_at, inside, end_of, onto, next, goes_nowhere, is_outlet}
use Rattle.sheet.specs.Answer.{End, Next}
use Rattle.std.specs.Prelude.{None, Some, is_some}

pub off_not_at : {n : ℕ} → None ≡ Some n → ⊥
off_not_at {n} e = let z : ◌≡◌ {A = ℕ} 0 1 = cc in omega arith

pub outlet_not_to : {r : ℕ} → None ≡ Some r → ⊥
outlet_not_to {r} e = let z : ◌≡◌ {A = ℕ} 0 1 = cc in omega arith

-- ---- row and column

pub cells_most : {rows cols : ℕ} → rows ≤ 256 → cols ≤ 256 → rows * cols ≤ 65536
cells_most h k = mul-le-mul h k

pub cell_lt : {rows cols row col : ℕ} → row < rows → col < cols → row * cols + col < rows * cols
cell_lt h k = digits_lt h k

module _ (row : ℕ) {cols col : ℕ} (k : col < cols) where
  pub cell_row : (row * cols + col) / cols ≡ row
  cell_row = digits_div row k

  pub cell_col : (row * cols + col) % cols ≡ col
  cell_col = digits_mod row k

pub row_lt : {rows cols cell : ℕ} → 0 < cols → cell < rows * cols → cell / cols < rows
row_lt some on = (div-lt_iff_lt-mul some).1 on

-- the cells of a row end where those of the next begin
pub row_end : (row cols : ℕ) → row * cols + cols ≡ (row + 1) * cols
row_end row cols = sym (add-mul row 1 cols ∙ ap (λ (x : ℕ). row * cols + x) (one-mul cols))

-- ---- the end of a step

below_lt : (count : ℕ) (z : ℤ) (n : ℕ) → below count z ≡ Some n → n < count
unfolding below
below_lt count (pos k) n e = go (ltb k count) refl e
  where
    go : (b : Bool) → ltb k count ≡ b → cond b (Some k) None ≡ Some n → n < count
    go true t e = let q : k ≡ n = cc in let l : k < count = ltb-true k count t in omega arith
    go false t e = absurd (off_not_at e)
below_lt count (negsuc k) n e = absurd (off_not_at e)

pub moved_lt : (a : ℕ) (z : ℤ) {count n : ℕ} → moved_by a z count ≡ Some n → n < count
unfolding moved_by
moved_lt a z {count} {n} e = below_lt count (pos a +ℤ z) n e

-- a step that ends on the cell t ends on a row and a column
pub record Landed (cols : ℕ) (to_row to_col : End) (t : ℕ) : Type 0 where
  pub row : ℕ
  pub col : ℕ
  pub row_is : to_row ≡ Some row
  pub col_is : to_col ≡ Some col
  pub cell_is : row * cols + col ≡ t

module _ (rows cols row col : ℕ) (s : Step) where
  pub end_off_row : moved_by row s.row rows ≡ None → None ≡ step_end rows cols row col s
  unfolding step_end
  end_off_row e = rw e

  pub end_off_col : {r : ℕ} → moved_by row s.row rows ≡ Some r → moved_by col s.col cols ≡ None
      → None ≡ step_end rows cols row col s
  unfolding step_end
  end_off_col e f = rw (e, f)

  pub end_at : {r c : ℕ} → moved_by row s.row rows ≡ Some r → moved_by col s.col cols ≡ Some c
      → Some (r * cols + c) ≡ step_end rows cols row col s
  unfolding step_end
  end_at e f = rw (e, f)

  pub end_landed : {t : ℕ} → step_end rows cols row col s ≡ Some t
      → Landed cols (moved_by row s.row rows) (moved_by col s.col cols) t
  unfolding step_end
  end_landed {t} e = go (moved_by row s.row rows) (moved_by col s.col cols) refl refl e
    where
      go : (a b : End) → moved_by row s.row rows ≡ a → moved_by col s.col cols ≡ b → cell_at cols a b ≡ Some t
          → Landed cols (moved_by row s.row rows) (moved_by col s.col cols) t
      go None b ea eb e = absurd (off_not_at e)
      go (Some r) None ea eb e = absurd (off_not_at e)
      go (Some r) (Some c) ea eb e = record { row = r; col = c; row_is = ea; col_is = eb; cell_is = cc }

  pub end_lt : {t : ℕ} → step_end rows cols row col s ≡ Some t → t < rows * cols
  end_lt {t} e =
      let l = end_landed e in
      subst (λ (x : ℕ). x < rows * cols) l.cell_is (cell_lt (moved_lt _ _ l.row_is) (moved_lt _ _ l.col_is))

-- ---- inside cells

module _ (G : Grid) (c : ℕ) where
  pub inside_no : dir_at G c ≡ 0 → inside G c ≡ false
  unfolding inside
  inside_no e = rw (eq-eqb _ _ e) (go (ltb c (cells G)))
    where
      go : (b : Bool) → cond b false false ≡ false
      go true = refl
      go false = refl

  -- on the sheet, a cell is inside if its byte is not 0
  pub inside_is : c < cells G → inside G c ≡ not (eqb (dir_at G c) 0)
  unfolding inside
  inside_is l = rw (lt-ltb _ _ l)

  pub inside_yes : c < cells G → (dir_at G c ≡ 0 → ⊥) → inside G c ≡ true
  inside_yes l ne = inside_is l ∙ ap not (ne_eqb _ _ ne)

  pub inside_lt : inside G c ≡ true → c < cells G
  unfolding inside
  inside_lt e = go (ltb c (cells G)) refl e
    where
      go : (b : Bool) → ltb c (cells G) ≡ b → cond b (not (eqb (dir_at G c) 0)) false ≡ true → c < cells G
      go true t e = ltb-true _ _ t
      go false t e = absurd (true≢false (sym e))

  pub inside_code : inside G c ≡ true → dir_at G c ≡ 0 → ⊥
  inside_code e z = true≢false (sym e ∙ inside_no z)

-- ---- where water goes

-- the end of the step of the cell in a row and a column
pub end_of_lem : (G : Grid) (row col : ℕ) → col < G.cols
    → end_of G (row * G.cols + col) ≡ step_end G.rows G.cols row col (step_of (dir_at G (row * G.cols + col)))
unfolding end_of
end_of_lem G row col l = rw (cell_row row l, cell_col row l)

-- the water of u goes to r
pub record Goes (G : Grid) (u r : ℕ) : Type 0 where
  pub from_inside : inside G u ≡ true
  pub ends : end_of G u ≡ Some r
  pub to_inside : inside G r ≡ true

module _ (G : Grid) (u : ℕ) where
  pub next_outside : inside G u ≡ false → None ≡ next G u
  unfolding next
  next_outside e = rw e

  pub next_off : inside G u ≡ true → end_of G u ≡ None → None ≡ next G u
  unfolding next
  next_off i e = rw (i, e)

  pub next_out : {r : ℕ} → inside G u ≡ true → end_of G u ≡ Some r → inside G r ≡ false → None ≡ next G u
  unfolding next
  next_out i e o = rw (i, e, o)

  pub next_to : {r : ℕ} → Goes G u r → Some r ≡ next G u
  unfolding next
  next_to g = rw (g.from_inside, g.ends, g.to_inside)

  pub next_goes : {r : ℕ} → next G u ≡ Some r → Goes G u r
  unfolding next
  next_goes {r} e = from (inside G u) refl e
    where
      to : (t : ℕ) → inside G u ≡ true → end_of G u ≡ Some t → (b : Bool) → inside G t ≡ b → cond b (Some t) None ≡ Some r
          → Goes G u r
      to t i n true j e =
          let q : t ≡ r = cc in record { from_inside = i; ends = n ∙ ap Some q; to_inside = ap (inside G) (sym q) ∙ j }
      to t i n false j e = absurd (outlet_not_to e)

      end : inside G u ≡ true → (a : End) → end_of G u ≡ a → onto G a ≡ Some r → Goes G u r
      end i None n e = absurd (outlet_not_to e)
      end i (Some t) n e = to t i n (inside G t) refl e

      from : (b : Bool) → inside G u ≡ b → cond b (onto G (end_of G u)) None ≡ Some r → Goes G u r
      from true i e = end i (end_of G u) refl e
      from false i e = absurd (outlet_not_to e)

  -- both cells lie on the sheet
  pub next_from_lt : {r : ℕ} → next G u ≡ Some r → u < cells G
  next_from_lt e = inside_lt G u (next_goes e).from_inside

  pub next_to_lt : {r : ℕ} → next G u ≡ Some r → r < cells G
  next_to_lt {r} e = inside_lt G r (next_goes e).to_inside

-- ---- outlets

pub is_outlet_lem : (G : Grid) (c : ℕ) → inside G c ≡ true → next G c ≡ None → is_outlet G c ≡ true
unfolding is_outlet
is_outlet_lem G c i e = go (inside G c) (next G c) i e
  where
    go : (b : Bool) (x : Next) → b ≡ true → x ≡ None → cond b (goes_nowhere x) false ≡ true
    go b x i e = rw (i, e)

module _ (G : Grid) (c : ℕ) where
  pub outlet_outside : inside G c ≡ false → false ≡ is_outlet G c
  unfolding is_outlet
  outlet_outside e = go (inside G c) (goes_nowhere (next G c)) e
    where
      go : (b n : Bool) → b ≡ false → false ≡ cond b n false
      go b n e = rw e

  -- an inside cell is an outlet exactly if its water goes to no cell
  pub is_none_outlet : inside G c ≡ true → (answer : Bool) → is_some (next G c) ≡ not answer → answer ≡ is_outlet G c
  unfolding is_outlet
  is_none_outlet i answer e = go (inside G c) (next G c) answer i e
    where
      go : (b : Bool) (x : Next) (a : Bool) → b ≡ true → is_some x ≡ not a → a ≡ cond b (goes_nowhere x) false
      go b (Some r) true i e = absurd (true≢false e)
      go b (Some r) false i e = rw i
      go b None true i e = rw i
      go b None false i e = absurd (true≢false (sym e))

  pub outlet_to : {r : ℕ} → next G c ≡ Some r → false ≡ is_outlet G c
  unfolding is_outlet
  outlet_to {r} e = go (inside G c) (next G c) e
    where
      go : (b : Bool) (x : Next) → x ≡ Some r → false ≡ cond b (goes_nowhere x) false
      go true x e = rw e
      go false x e = refl
