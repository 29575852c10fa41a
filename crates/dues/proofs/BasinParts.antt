-- The cells of one basin in the order along rivers: where they begin, and that they are the cells of that basin.
use mathlib.Core.Path.{◌≡◌, refl, sym, ◌∙◌, ap}
use mathlib.Core.Bool.{true}
use mathlib.Core.List.{List, [], ◌∷◌, Memᴰ}
use mathlib.Core.Logic.{◌≢◌}
use Prim.Native.Nat.{ℕ, zero, suc, ◌+◌, ◌*◌, ◌-◌, ◌≤◌, ◌<◌}
use native.Mathlib.Decide.{dec_lt}
use native.Mathlib.Nat.{add-zero}
use native.Mathlib.Omega.{arith}
use lib.ListN.{length, get_or, take, drop, length-take, length-drop, get_or-eq_default}
use lib.Seq.{length-take-le, get_or-take, get_or-drop, drop-drop}
use Rattle.sheet.specs.Sheet.{Grid, cells, inside, next}
use Rattle.sheet.specs.Water.{Passes}
use Rattle.sheet.specs.River.{network_by}
use Rattle.sheet.specs.Basins.{basin_of}
use Rattle.directions.specs.Sizes.{most_cells}
use Rattle.claims.proofs.Sheets.{PassedOn, outlet_is}
use Rattle.claims.proofs.BasinNumbers.{number_of_way, outlet_number, same_outlet, outlet_own, outlet_of_is}
use Rattle.claims.proofs.BasinNumbers.{basin_some}
use Rattle.upstream.specs.Work.{cells_part, ordered_sizes_part}
use Rattle.order.specs.Places.{cells_in, sizes_in, BasinAt, Arranged}
use Rattle.index.proofs.ListPlaces.{at_place, place_of}
use Rattle.dues.specs.Steps.{end_of_basins, basin_start, basin_size, basin_cells, Sizes, Ordered, HoldsBasin}

-- ---- by sizes alone

module _ (sizes : List ℕ) where
  size_past : (j : ℕ) → length sizes ≤ j → get_or sizes j 0 ≡ 0
  size_past j l = get_or-eq_default sizes 0 l

  -- where all cells are passed, no further basin is
  stays : (k m : ℕ) → length sizes ≤ end_of_basins sizes k → end_of_basins sizes (k + m) ≡ end_of_basins sizes k
  unfolding end_of_basins
  stays k zero l = rw (add-zero k) refl
  stays k (suc m) l =
      let e : k + suc m ≡ suc (k + m) = omega arith in
      let h = stays k m l in rw (e, h, size_past (end_of_basins sizes k) l) (add-zero (end_of_basins sizes k))

  start_is : (basin : ℕ) → 1 ≤ basin → basin_start sizes basin ≡ end_of_basins sizes (basin - 1)
  unfolding basin_start
  start_is zero l = absurd (omega arith)
  start_is (suc k) l = let e : suc k - 1 ≡ k = omega arith in rw e

  -- `number - 1` basins are passed, none of which is the one that is looked for
  pub record Passed (basin start number : ℕ) : Type 0 where
    pub some : 1 ≤ number
    pub few : number ≤ start + 1
    pub most : start ≤ length sizes
    pub is : start ≡ end_of_basins sizes (number - 1)
    pub not_yet : basin ≢ 0 → number ≤ basin

  pub passed_none : (basin : ℕ) → Passed basin 0 1
  unfolding end_of_basins
  passed_none basin = record {
    some = omega arith;
    few = omega arith;
    most = omega arith;
    is = refl;
    not_yet = λ n. omega arith;
  }

  module _ {basin start number : ℕ} (p : Passed basin start number) where
    pub passed_here : number ≡ basin → start ≡ basin_start sizes basin
    passed_here e =
        p.is ∙ ap (λ (k : ℕ). end_of_basins sizes (k - 1)) e ∙ sym (start_is basin (omega (arith, e, p.some)))

    pub passed_all : length sizes ≤ start → start ≡ basin_start sizes basin
    unfolding basin_start
    passed_all l = go basin refl
      where
        go : (b : ℕ) → basin ≡ b → start ≡ basin_start sizes b
        go zero e = omega (arith, l, p.most)
        go (suc k) e =
            let h : number ≤ basin = p.not_yet (λ n. omega arith) in
            let more : number - 1 + (k - (number - 1)) ≡ k = omega (arith, h, e, p.some) in
            let past : length sizes ≤ end_of_basins sizes (number - 1) = omega (arith, l, p.is) in
            p.is ∙ sym (rw more at (stays (number - 1) (k - (number - 1)) past))

  module _ (z : Sizes sizes) where
    pub end_most : (k : ℕ) → end_of_basins sizes k ≤ length sizes
    unfolding end_of_basins
    end_most zero = omega arith
    end_most (suc k) = elim (dec_lt (end_of_basins sizes k) (length sizes)) [
      | yes l ↦ z.within (end_of_basins sizes k) l
      | no l ↦ omega (arith, end_most k, size_past (end_of_basins sizes k) (omega arith))
    ]

    pub basin_within : (basin : ℕ) → basin_start sizes basin + basin_size sizes basin ≤ length sizes
    unfolding basin_size basin_start end_of_basins
    basin_within zero = omega (arith, size_past (length sizes) (omega arith))
    basin_within (suc k) = end_most (suc k)

    pub passed_more : {basin start number : ℕ} → Passed basin start number → start < length sizes → number ≢ basin
        → Passed basin (start + get_or sizes start 0) (number + 1)
    unfolding end_of_basins
    passed_more {basin} {start} {number} p l n = record {
      some = omega arith;
      few = omega (arith, p.few, z.some start l);
      most = z.within start l;
      is =
          let e : number + 1 - 1 ≡ suc (number - 1) = omega (arith, p.some) in
          rw e (ap (λ (s : ℕ). s + get_or sizes s 0) p.is);
      not_yet = λ m. let h = p.not_yet m in omega arith;
    }

-- ---- a part of a part of the work places

take_less : (m q : ℕ) (xs : List ℕ) → m ≤ q → take m (take q xs) ≡ take m xs
take_less zero q xs l = refl
take_less (suc m) zero xs l = absurd (omega arith)
take_less (suc m) (suc q) [] l = refl
take_less (suc m) (suc q) (x ∷ xs) l = ap (λ (t : List ℕ). x ∷ t) (take_less m q xs (omega arith))

part_of_part : (m j q : ℕ) (xs : List ℕ) → j + m ≤ q → take m (drop j (take q xs)) ≡ take m (drop j xs)
part_of_part m zero q xs l = take_less m q xs (omega arith)
part_of_part m (suc j) zero xs l = absurd (omega arith)
part_of_part m (suc j) (suc q) [] l = refl
part_of_part m (suc j) (suc q) (x ∷ xs) l = part_of_part m j q xs (omega arith)

pub holds_basin : {n queued : ℕ} {work : List ℕ} (basin start size : ℕ) → Ordered n work queued
    → start ≡ basin_start (sizes_in n work queued) basin → size ≡ basin_size (sizes_in n work queued) basin
    → (first : ℕ) → first ≡ cells_part * n + start
    → HoldsBasin n work queued basin (record { first = first; end = first + size })
holds_basin {n} {queued} {work} basin start size o e f first p =
    let few : length (sizes_in n work queued) ≤ queued =
    omega (arith, length-take queued (drop (ordered_sizes_part * n) work)) in
    let within : start + size ≤ queued =
    omega (arith, e, f, few, basin_within (sizes_in n work queued) o.sizes basin) in
    let long : first + size - first ≡ size = omega arith in
    record {
      from = omega arith;
      to = omega (arith, p, within, o.room);
      is =
          rw (long, ← e, ← f, p)
          (ap (take size) (sym (drop-drop start (cells_part * n) work))
          ∙ sym (part_of_part size start queued (drop (cells_part * n) work) within));
    }

-- ---- in the order along rivers of a sheet of which every inside cell comes to an outlet

module _ (G : Grid) (P : PassedOn G) {areas work : List ℕ} {queued : ℕ} (small : cells G ≤ most_cells)
    (room : length work ≡ 8 * cells G) (arranged : Arranged G areas work queued) where
  abbrev cs : List ℕ
  cs = cells_in (cells G) work queued

  abbrev sz : List ℕ
  sz = sizes_in (cells G) work queued

  sizes_long : length sz ≡ queued
  sizes_long = arranged.layout.sized ∙ arranged.long

  pub sizes : Sizes sz
  sizes = let p = ordered_sizes_part * cells G in record {
    few = omega (arith, sizes_long, length-take queued (drop p work), length-drop p work, room, small);
    some = λ j l. arranged.layout.some j (omega (arith, arranged.layout.sized));
    within = λ j l.
        let long = arranged.layout.sized in omega (arith, long, arranged.layout.within j (omega (arith, long)));
  }

  -- basin k + 1 begins where k basins end
  begins : (k : ℕ) → end_of_basins sz k < queued → BasinAt G cs (end_of_basins sz k) (suc k)
  unfolding end_of_basins
  begins zero l = arranged.first
  begins (suc k) l = arranged.onward (end_of_basins sz k) (suc k) (begins k (omega arith)) l

  -- its cells stand up to where the next begins
  number_at : (k i : ℕ) → end_of_basins sz k ≤ i → i < end_of_basins sz (suc k) → basin_of G (get_or cs i 0) ≡ suc k
  unfolding end_of_basins network_by
  number_at k i l h =
      let j = end_of_basins sz k in
      let below : i < queued = omega (arith, h, end_most sz sizes (suc k), sizes_long) in
      let b = begins k (omega (arith, l, below)) in
      let way = (arranged.layout_of 1 1).passing i j l h (omega (arith, l, below, arranged.long)) in
      number_of_way G P (get_or cs i 0) (get_or cs j 0) (arranged.are_inside i below) b.is_outlet_lem way ∙ b.numbered

  before : (k i : ℕ) → i < end_of_basins sz k → basin_of G (get_or cs i 0) ≤ k
  unfolding end_of_basins
  before zero i l = absurd (omega arith)
  before (suc k) i l = elim (dec_lt i (end_of_basins sz k)) [
    | yes h ↦ omega (arith, before k i h)
    | no h ↦ omega (arith, number_at k i (omega arith) l)
  ]

  -- ---- the cells of one basin
  module _ (basin : ℕ) where
    abbrev start : ℕ
    start = basin_start sz basin

    abbrev size : ℕ
    size = basin_size sz basin

    abbrev part : List ℕ
    part = basin_cells cs sz basin

    pub part_within : start + size ≤ queued
    part_within = omega (arith, basin_within sz sizes basin, sizes_long)

    -- they are of that basin
    part_number : (i : ℕ) → start ≤ i → i < start + size → basin_of G (get_or cs i 0) ≡ basin
    unfolding basin_size basin_start end_of_basins
    part_number i = go basin
      where
        go : (b : ℕ) → basin_start sz b ≤ i → i < basin_start sz b + get_or sz (basin_start sz b) 0
            → basin_of G (get_or cs i 0) ≡ b
        go zero l h = absurd (omega (arith, l, h, size_past sz (length sz) (omega arith)))
        go (suc k) l h = number_at k i l h

    -- and all of it
    part_all : (c : ℕ) → inside G c ≡ true → basin_of G c ≡ basin
        → (i : ℕ) × (start ≤ i) × (i < start + size) × (get_or cs i 0 ≡ c)
    unfolding basin_size basin_start end_of_basins network_by
    part_all c i = go basin
      where
        by_outlet : (k : ℕ) → end_of_basins sz k < queued → basin_of G c ≡ suc k
            → Passes (next G) c (get_or cs (end_of_basins sz k) 0)
        by_outlet k l e =
            let b = begins k l in
            let o = get_or cs (end_of_basins sz k) 0 in
            let own = outlet_number G P o b.is_outlet_lem ∙ b.numbered in
            let same = same_outlet G P c o i (outlet_is G o b.is_outlet_lem).0 (e ∙ sym own)
            ∙ outlet_own G P o b.is_outlet_lem in
            rw same at (outlet_of_is G P c i).1

        go : (b : ℕ) → basin_of G c ≡ b → (i : ℕ) × (basin_start sz b ≤ i)
            × (i < basin_start sz b + get_or sz (basin_start sz b) 0) × (get_or cs i 0 ≡ c)
        go zero e = absurd (omega (arith, e, basin_some G P c i))
        go (suc k) e = elim (dec_lt (end_of_basins sz k) queued) [
          | yes l ↦ (arranged.layout_of 1 1).covering c (end_of_basins sz k) (omega (arith, l, arranged.long))
              (by_outlet k l e)
          | no l ↦
              let p = arranged.all_stand c i in
              absurd (omega (arith, e, before k p.0 (omega (arith, p.1)), ap (basin_of G) p.2))
        ]

    -- the first is the outlet
    pub part_outlet : 0 < size → BasinAt G cs start basin
    unfolding basin_size basin_start end_of_basins
    part_outlet = go basin
      where
        go : (b : ℕ) → 0 < get_or sz (basin_start sz b) 0 → BasinAt G cs (basin_start sz b) b
        go zero l = absurd (omega (arith, l, size_past sz (length sz) (omega arith)))
        go (suc k) l = begins k (elim (dec_lt (end_of_basins sz k) queued) [
          | yes h ↦ h
          | no h ↦ absurd (omega (arith, l, size_past sz (end_of_basins sz k) (omega (arith, sizes_long))))
        ])

    -- ---- as a list
    pub part_long : length part ≡ size
    part_long =
        length-take-le size (drop start cs) (omega (arith, length-drop start cs, arranged.long, part_within))

    pub part_at : (i : ℕ) → i < size → get_or part i 0 ≡ get_or cs (start + i) 0
    part_at i l = get_or-take size (drop start cs) i 0 l ∙ get_or-drop start cs i 0

    pub part_inside : (c : ℕ) → Memᴰ c part → inside G c ≡ true
    part_inside c m =
        let p = place_of 0 part m in
        let l : p.0 < size = omega (arith, p.1, part_long) in
        rw (sym (part_at p.0 l) ∙ p.2) at (arranged.are_inside (start + p.0) (omega (arith, l, part_within)))

    pub part_basin : (c : ℕ) → Memᴰ c part → basin_of G c ≡ basin
    part_basin c m =
        let p = place_of 0 part m in
        let l : p.0 < size = omega (arith, p.1, part_long) in
        rw (sym (part_at p.0 l) ∙ p.2) at (part_number (start + p.0) (omega arith) (omega (arith, l)))

    pub part_has : (c : ℕ) → inside G c ≡ true → basin_of G c ≡ basin → Memᴰ c part
    part_has c i e =
        let p = part_all c i e in
        let k = p.0 - start in
        let same : start + k ≡ p.0 = omega (arith, p.1) in
        let l : k < size = omega (arith, p.1, p.2) in
        rw (part_at k l ∙ ap (λ (j : ℕ). get_or cs j 0) same ∙ p.3) at (at_place 0 part k (omega (arith, l, part_long)))
