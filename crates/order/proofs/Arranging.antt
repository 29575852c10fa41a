-- The cells and sizes that stand in the work places are a layout of the sheet's network.
use mathlib.Core.Path.{◌≡◌, refl, sym, ◌∙◌, ap, subst}
use mathlib.Core.Bool.{Bool, true, false}
use mathlib.Core.List.{List}
use Prim.Native.Nat.{ℕ, suc, ◌+◌, ◌*◌, ◌≤◌, ◌<◌}
use native.Mathlib.Nat.{mul-le-mul_right}
use native.Mathlib.Omega.{arith}
use lib.Dec.{ltb}
use lib.ListN.{length, get_or, take, drop, length-drop}
use lib.Seq.{length-take-le, get_or-take, get_or-drop}
use borrow.Author.Tests.{ltb-true, ltb-false}
use Rattle.sheet.specs.Sheet.{Grid, cells, inside, is_outlet}
use Rattle.sheet.specs.Area.{count}
use Rattle.sheet.specs.River.{network_by}
use Rattle.sheet.proofs.Cells.{cells_most, inside_lt}
use Rattle.claims.proofs.Sheets.{outlet_is}
use Rattle.upstream.specs.Work.{sizes_part, positions_part, cells_part, ordered_sizes_part, queued_at}
use Rattle.upstream.specs.Search.{Searched, outlet_count}
use Rattle.drainage.specs.Total.{size}
use Rattle.order.specs.Places.{position_at, outlets_in, cells_in, sizes_in, Surveyed, Placed, Entered, BasinAt}
use Rattle.order.specs.Places.{Arranged, OtherPlaces}
use Rattle.order.proofs.Intervals.{first_at_lem, next_at_lem, last_at}
use Rattle.order.proofs.Preorder.{some}
use Rattle.order.proofs.Layouts.{Filled, StandsAt, stands, layout, layout_of}
use Rattle.order.proofs.Outlets.{outlets_length, outlet_place, outlet_number, drains_to, listed_outlet}
use Rattle.order.proofs.Outlets.{outlet_sizes}
use Rattle.order.proofs.Queued.{whole, queue_inside, queue_most, place_of, queue_kept, preorder, outlets_stand}

module _ {G : Grid} {areas work now later : List ℕ} {queued : ℕ} (W : Surveyed G areas work queued)
    (same : length now ≡ length work) (P : Placed G areas work now queued queued)
    (same' : length later ≡ length now) (E : Entered (cells G) now later queued) where
  abbrev n : ℕ
  n = cells G

  -- a part of n places of which the first `queued` are taken
  part_length : (k : ℕ) → k ≤ 7 → length (take queued (drop (k * n) later)) ≡ queued
  part_length k l =
      let room : k * n ≤ 7 * n = mul-le-mul_right n l in
      length-take-le queued (drop (k * n) later) (omega (arith, length-drop (k * n) later, W.room, queue_most W))

  part_at : (k j : ℕ) → j < queued → get_or (take queued (drop (k * n) later)) j 0 ≡ get_or later (k * n + j) 0
  part_at k j l = get_or-take queued (drop (k * n) later) j 0 l ∙ get_or-drop (k * n) later j 0

  below : (c : ℕ) → inside G c ≡ true → position_at n now c < queued
  below c i =
      let q = place_of W c i in
      let b = rw q.2 at (P.within q.0 q.1) in
      omega (arith, b, some (whole W 0 0) (preorder W same P 0 0) c i)

  filled : Filled (λ c. inside G c ≡ true) (size G) (position_at n now) (outlets_in G work) (cells_in n later queued)
      (sizes_in n later queued)
  filled = record {
    long = part_length cells_part (omega arith) ∙ sym (outlet_sizes W.drained);
    sized = part_length ordered_sizes_part (omega arith) ∙ sym (part_length cells_part (omega arith));
    cell_is = λ c i.
        let q = place_of W c i in
        let e : queued_at now q.0 ≡ c = queue_kept W same P q.0 q.1 ∙ q.2 in
        part_at cells_part (position_at n now c) (below c i) ∙ (rw e at (E.cell_is q.0 q.1));
    size_is = λ c i.
        let q = place_of W c i in
        let e : queued_at now q.0 ≡ c = queue_kept W same P q.0 q.1 ∙ q.2 in
        part_at ordered_sizes_part (position_at n now c) (below c i) ∙ (rw e at (E.size_is q.0 q.1)) ∙ P.kept
        (sizes_part * n + c) (λ u h e. omega (arith, inside_lt G c i)) ∙ W.size_is c (inside_lt G c i);
  }

  standing : (j : ℕ) → j < queued
      → (c : ℕ) × StandsAt (λ c. inside G c ≡ true) (size G) (position_at n now) (cells_in n later queued)
      (sizes_in n later queued) j c
  standing j l =
      stands (whole W 0 0) (preorder W same P 0 0) (outlets_stand W same P 0 0) filled j
      (rw (part_length cells_part (omega arith)) l)

  -- ---- basins

  searched : Searched G work queued
  searched = W.drained.searched

  -- the position of the outlet at place i of the queue
  abbrev outlet_position : ℕ → ℕ
  outlet_position i = position_at n now (queued_at work i)

  outlet_at_lem : (i : ℕ) → i < outlet_count G → get_or (outlets_in G work) i 0 ≡ queued_at work i
  outlet_at_lem i l = get_or-take (outlet_count G) work i 0 l

  basin_at_lem : (i j : ℕ) → i < outlet_count G → outlet_position i ≡ j → BasinAt G (cells_in n later queued) j (suc i)
  basin_at_lem i j l e =
      let o = searched.outlets.are_outlets i l in
      let c : get_or (cells_in n later queued) j 0 ≡ queued_at work i = rw e at
      (filled.cell_is (queued_at work i) (outlet_is G (queued_at work i) o).0) in
      record { is_outlet_lem = rw c o; numbered = rw c (outlet_number searched i l) }

  some_outlet : 0 < outlet_count G
  some_outlet =
      let d = drains_to W.drained (queued_at work 0) (queue_inside W 0 W.some) in
      let p = outlet_place searched d.0 (listed_outlet searched d.0 d.1) in
      omega (arith, p.1)

  first : BasinAt G (cells_in n later queued) 0 1
  first =
      basin_at_lem 0 0 some_outlet
      (ap (position_at n now) (sym (outlet_at_lem 0 some_outlet))
      ∙ first_at_lem P.first (omega (arith, outlets_length searched, some_outlet)))

  -- the outlet at place i begins a basin at position j; the next begins where that ends
  next_basin : (i j : ℕ) → i < outlet_count G → outlet_position i ≡ j → j + size G (queued_at work i) < queued
      → BasinAt G (cells_in n later queued) (j + size G (queued_at work i)) (suc (suc i))
  next_basin i j l e h = go (ltb (suc i) (outlet_count G)) refl
    where
      go : (b : Bool) → ltb (suc i) (outlet_count G) ≡ b
          → BasinAt G (cells_in n later queued) (j + size G (queued_at work i)) (suc (suc i))
      go true t =
          let k = ltb-true (suc i) (outlet_count G) t in
          basin_at_lem (suc i) _ k
          (rw (outlet_at_lem (suc i) k, outlet_at_lem i l, e) at
          (next_at_lem P.first i (omega (arith, outlets_length searched))))
      go false t =
          let k = ltb-false (suc i) (outlet_count G) t in
          let z = rw (outlet_at_lem i l, e) at (last_at P.first i (omega (arith, outlets_length searched))) in
          absurd (omega (arith, z, outlet_sizes W.drained))

  onward : (j k : ℕ) → BasinAt G (cells_in n later queued) j k → j + get_or (sizes_in n later queued) j 0 < queued
      → BasinAt G (cells_in n later queued) (j + get_or (sizes_in n later queued) j 0) (suc k)
  onward j k B h =
      let s = standing j (omega arith) in
      let o : is_outlet G s.0 ≡ true = rw s.1.cell_is at B.is_outlet_lem in
      let p = outlet_place searched s.0 o in
      let z : get_or (sizes_in n later queued) j 0 ≡ size G (queued_at work p.0) = rw p.2 s.1.size_is in
      let number : suc p.0 ≡ k = sym (outlet_number searched p.0 p.1)
      ∙ ap (λ (c : ℕ). count (suc c) (is_outlet G)) (p.2 ∙ sym s.1.cell_is) ∙ B.numbered in
      let l : j + size G (queued_at work p.0) < queued = omega (arith, z) in
      subst (λ (x : ℕ). BasinAt G (cells_in n later queued) (j + x) (suc k)) (sym z)
      (rw number at (next_basin p.0 j p.1 (rw p.2 s.1.place) l))

  pub arranged : Arranged G areas later queued
  unfolding network_by
  arranged = record {
    some = W.some;
    long = part_length cells_part (omega arith);
    layout =
        layout (whole W 0 0) (preorder W same P 0 0) (outlets_stand W same P 0 0) filled
        (cells_most W.measured.sized.rows_most W.measured.sized.cols_most);
    layout_of =
        λ least split. layout_of (whole W least split) (preorder W same P least split)
        (outlets_stand W same P least split) filled areas least
        (λ c j. sym (get_or-take n areas c 0 (inside_lt G c j))) (λ c j. refl);
    are_inside = λ j l. let s = standing j l in rw s.1.cell_is s.1.is_inside_lem;
    all_stand = λ c i. (position_at n now c, below c i, filled.cell_is c i);
    first = first;
    onward = onward;
  }

  pub other_places : OtherPlaces G work later queued
  other_places =
      record {
        position_is = λ j l.
            let s = standing j l in
            let c = s.0 in
            let on = inside_lt G c s.1.is_inside_lem in
            let kept = E.kept (positions_part * n + c) (λ k h e. omega arith) (λ k h e. omega arith) in
            rw s.1.cell_is (kept ∙ s.1.place);
        size_is = λ j l.
            let s = standing j l in
            rw s.1.cell_is s.1.size_is;
        kept = λ j e.
            E.kept j (λ k h. e.no_cell _ (queue_below k h)) (λ k h. e.no_size _ (queue_below k h))
            ∙ P.kept j e.no_position;
      }
    where
      queue_below : (k : ℕ) → k < queued → position_at n now (queued_at now k) < queued
      queue_below k h = rw (queue_kept W same P k h) (below (queued_at work k) (queue_inside W k h))
