-- The donors of a cell that has its position.
use mathlib.Core.Path.{◌≡◌, refl, sym, ◌∙◌, ap₂}
use mathlib.Core.List.{List, [], ◌∷◌, map, Memᴰ}
use Prim.Native.Nat.{ℕ, suc, ◌+◌, ◌≤◌, ◌<◌}
use native.Mathlib.Omega.{arith}
use Rattle.sheet.specs.Sheet.{Grid, cells}
use Rattle.sheet.proofs.Cells.{cells_most, inside_lt, next_goes, next_from_lt}
use Rattle.claims.specs.Bounds.{sum}
use Rattle.claims.proofs.GridLaws.{sum_same}
use Rattle.upstream.specs.Work.{size_at}
use Rattle.drainage.specs.Total.{size}
use Rattle.rivers.specs.Cut.{key_in}
use Rattle.order.specs.Network.{donors_in}
use Rattle.order.specs.Keys.{cell_of}
use Rattle.order.specs.Positions.{none}
use Rattle.order.specs.Places.{position_at, positioned, Measured, PositionsFit, Standing, DonorsPlaced}
use Rattle.order.proofs.Sizes.{size_some}
use Rattle.order.proofs.Gathering.{key_cell, donor_goes, donors_ascending}
use Rattle.order.proofs.Placing.{ascending_once, once_map, positioned_kept, positioned_follow}

module _ {G : Grid} {areas work : List ℕ} {cell : ℕ} (S : Standing G areas work cell) where
  -- a cell of size 1 has no donors
  no_donors : (us : List ℕ) → donors_in G areas cell ≡ us → size G cell ≡ 1 → donors_in G areas cell ≡ []
  unfolding sum
  no_donors [] e s = e
  no_donors (u ∷ us) e s =
      let a : size G cell ≡ suc (sum (size G) (u ∷ us)) = rw e at S.adds in
      let i = (next_goes G u (donor_goes G areas cell u (rw e (Memᴰ.head refl)))).from_inside in
      absurd (omega (arith, a, size_some G u i))

  pub none_placed : size_at (cells G) work cell ≡ 1 → DonorsPlaced G areas work work cell
  none_placed e =
      let d = no_donors _ refl (sym (S.size_is cell (inside_lt G cell S.is_inside_lem)) ∙ e) in
      record { follow = rw d none; kept = λ j h. refl }

module _ {G : Grid} {areas work : List ℕ} {cell : ℕ} (M : Measured G areas) (S : Standing G areas work cell) where
  abbrev us : List ℕ
  us = donors_in G areas cell

  most : cells G ≤ 65536
  most = cells_most M.sized.rows_most M.sized.cols_most

  on : (u : ℕ) → Memᴰ u us → u < cells G
  on u m = next_from_lt G u (donor_goes G areas cell u m)

  -- the cells of the donors' keys
  pub key_cells : map cell_of (map (key_in areas) us) ≡ us
  key_cells = cells_of us (λ u m. omega (arith, most, on u m))
    where
      cells_of : (vs : List ℕ) → ((u : ℕ) → Memᴰ u vs → u < 65536) → map cell_of (map (key_in areas) vs) ≡ vs
      cells_of [] h = refl
      cells_of (v ∷ vs) h =
          ap₂ ◌∷◌ (key_cell areas (h v (Memᴰ.head refl))) (cells_of vs (λ u m. h u (Memᴰ.tail m)))

  pub fitting : PositionsFit (cells G) (position_at (cells G) work cell + 1) us work
  fitting = record {
    small = most;
    room = S.room;
    on = on;
    fits =
        omega (
          arith,
          sum_same (size_at (cells G) work) (size G) us (λ u m. S.size_is u (on u m)),
          S.adds,
          S.within,
        );
  }

  pub donors_placed : DonorsPlaced G areas work (positioned (cells G) (position_at (cells G) work cell + 1) us work) cell
  donors_placed = record {
    follow =
        positioned_follow (cells G) (size G) (position_at (cells G) work cell + 1) us work on
        (once_map (key_in areas) us (ascending_once (donors_ascending M cell S.is_inside_lem))) S.size_is S.room;
    kept = λ j h. positioned_kept (cells G) _ us work j h;
  }
