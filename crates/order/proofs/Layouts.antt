-- A preorder, with the cell and the size at each position, is a layout of the network.
use mathlib.Core.Path.{◌≡◌, refl, sym, ◌∙◌, ap}
use mathlib.Core.List.{List}
use Prim.Native.Nat.{ℕ, ◌+◌, ◌≤◌, ◌<◌}
use native.Mathlib.Omega.{arith}
use lib.Dec.{leb}
use lib.ListN.{length, get_or}
use Rattle.sheet.specs.Water.{Passes}
use Rattle.sheet.specs.River.{Network, river}
use Rattle.claims.specs.Basin.{Forest}
use Rattle.claims.specs.Bounds.{sum}
use Rattle.rivers.specs.Layout.{Laid, Layout, LayoutOf}
use Rattle.order.specs.Positions.{Preorder}
use Rattle.order.proofs.Intervals.{between, member_at}
use Rattle.order.proofs.Preorder.{Outlets, upstream_inside, some, cell_at, at_own, upstream_between}
use Rattle.order.proofs.Laying.{river_laid}

-- from position 0 on, the lists hold the cell and the size at each position
pub record Filled (inside : ℕ → Type 0) (size pos : ℕ → ℕ) (outlets cell sizes : List ℕ) : Type 0 where
  pub long : length cell ≡ sum size outlets
  pub sized : length sizes ≡ length cell
  pub cell_is : (c : ℕ) → inside c → get_or cell (pos c) 0 ≡ c
  pub size_is : (c : ℕ) → inside c → get_or sizes (pos c) 0 ≡ size c

-- the cell c stands at position j
pub record StandsAt (inside : ℕ → Type 0) (size pos : ℕ → ℕ) (cell sizes : List ℕ) (j c : ℕ) : Type 0 where
  pub is_inside_lem : inside c
  pub place : pos c ≡ j
  pub cell_is : get_or cell j 0 ≡ c
  pub size_is : get_or sizes j 0 ≡ size c

module _ {N : Network} {inside : ℕ → Type 0} (forest : Forest N inside) {size pos : ℕ → ℕ}
    (P : Preorder N inside size pos) {outlets : List ℕ} (O : Outlets N inside size pos outlets)
    {cell sizes : List ℕ} (F : Filled inside size pos outlets cell sizes) where
  standing : (c : ℕ) → inside c → StandsAt inside size pos cell sizes (pos c) c
  standing c i = record { is_inside_lem = i; place = refl; cell_is = F.cell_is c i; size_is = F.size_is c i }

  pub stands : (j : ℕ) → j < length cell → (c : ℕ) × StandsAt inside size pos cell sizes j c
  stands j l =
      let m = member_at O.follow j (omega arith) (omega (arith, F.long)) in
      let i = O.are_inside m.0 m.1 in
      let r = cell_at forest P m.0 j i m.2 in
      (r.0, rw r.2 at (standing r.0 (upstream_inside forest i r.1)))

  -- no position of a cell lies past the end
  within : (c : ℕ) → inside c → pos c + size c ≤ length cell
  within c i =
      let d = O.drain c i in
      omega (arith, upstream_between forest P d.2, between O.follow d.0 d.1, F.long)

  pub layout : N.cells ≤ 65536 → Layout cell sizes N.cells
  layout most = record {
    sized = F.sized;
    some = λ j l. let s = stands j l in omega (arith, s.1.size_is, some forest P s.0 s.1.is_inside_lem);
    within = λ j l. let s = stands j l in omega (arith, s.1.size_is, s.1.place, within s.0 s.1.is_inside_lem);
    on = λ j l. let s = stands j l in omega (arith, s.1.cell_is, forest.small s.0 s.1.is_inside_lem);
    small = λ j l. let s = stands j l in omega (arith, s.1.cell_is, forest.small s.0 s.1.is_inside_lem);
    apart = λ i j h l e.
        let s = stands i h in
        let t = stands j l in
        sym s.1.place ∙ ap pos (sym s.1.cell_is ∙ e ∙ t.1.cell_is) ∙ t.1.place;
  }

  laid : (j c : ℕ) → StandsAt inside size pos cell sizes j c
      → Laid cell sizes (j + get_or sizes j 0) j (j + get_or sizes j 0) (river N (get_or cell j 0))
  laid j c s =
      rw (s.cell_is, s.size_is)
      (rw s.place at (river_laid forest P {cell = cell} {sizes = sizes} F.cell_is F.size_is c s.is_inside_lem))

  passing : (i j c : ℕ) → j ≤ i → i < j + get_or sizes j 0 → StandsAt inside size pos cell sizes j c
      → Passes N.next (get_or cell i 0) (get_or cell j 0)
  passing i j c h k s =
      let r = cell_at forest P c i s.is_inside_lem
      (record { from = omega (arith, s.place); before = omega (arith, s.place, s.size_is) }) in
      let up = upstream_inside forest s.is_inside_lem r.1 in
      let e : get_or cell i 0 ≡ r.0 = rw r.2 at (F.cell_is r.0 up) in
      rw (e, s.cell_is) r.1

  covering : (q j c : ℕ) → Passes N.next q (get_or cell j 0) → StandsAt inside size pos cell sizes j c
      → (i : ℕ) × (j ≤ i) × (i < j + get_or sizes j 0) × (get_or cell i 0 ≡ q)
  covering q j c p s =
      let h : Passes N.next q c = rw s.cell_is at p in
      let up = upstream_inside forest s.is_inside_lem h in
      let a = at_own forest P up h in
      (pos q, omega (arith, a.from, s.place), omega (arith, a.before, s.place, s.size_is), F.cell_is q up)

  pub layout_of : (areas : List ℕ) (least : ℕ) → ((c : ℕ) → inside c → get_or areas c 0 ≡ N.area c)
      → ((c : ℕ) → inside c → N.counted c ≡ leb least (N.area c))
      → LayoutOf N cell sizes areas N.split least
  layout_of areas least area_is counted_is = record {
    rivers = λ j l. let s = stands j l in laid j s.0 s.1;
    passing = λ i j h k l. let s = stands j l in passing i j s.0 h k s.1;
    covering = λ c j l p. let s = stands j l in covering c j s.0 p s.1;
    area_is = λ j l. let s = stands j l in rw s.1.cell_is (area_is s.0 s.1.is_inside_lem);
    counted_is = λ j l. let s = stands j l in rw s.1.cell_is (counted_is s.0 s.1.is_inside_lem);
    split_is = refl;
  }
