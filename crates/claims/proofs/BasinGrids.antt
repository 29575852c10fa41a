-- A grid on which the cells outside a basin, in which water stays, are set to 0: inside cells, where water goes, areas
-- and labels are the same in the basin.
use mathlib.Core.Path.{◌≡◌, refl, sym, ◌∙◌, ap}
use mathlib.Core.Bool.{Bool, true, false, cond, not}
use mathlib.Core.List.{List}
use Prim.Native.Nat.{ℕ, ◌<◌}
use lib.Dec.{eqb, ltb, leb}
use lib.ListN.{get_or}
use borrow.Author.Tests.{ltb-true}
use Rattle.sheet.specs.Sheet.{Grid, Sheet, grid, cells, dir_at, inside, end_of, onto, next}
use Rattle.sheet.specs.Water.{passes}
use Rattle.sheet.specs.Area.{drains_into, weight, area}
use Rattle.sheet.specs.River.{network_by, network}
use Rattle.sheet.specs.Label.{outlet_of, label_digits, label_of}
use Rattle.sheet.proofs.Cells.{inside_lt, next_outside, next_to}
use Rattle.claims.proofs.Sums.{sum_same}
use Rattle.claims.proofs.BasinWays.{Agree, passes_same, passes_none, way_end_same, way_end_in}
use Rattle.claims.proofs.BasinLabels.{digits_same}
use Rattle.sheet.specs.Answer.{End}
use Rattle.std.specs.Prelude.{None, Some}

module _ (G : Grid) (is_in : ℕ → Bool) (stays : (q r : ℕ) → next G q ≡ Some r → is_in q ≡ is_in r) (dirs : List ℕ)
    (cleared : (c : ℕ) → c < cells G → get_or dirs c 0 ≡ cond (is_in c) (dir_at G c) 0) where
  abbrev G' : Grid
  G' = grid G.rows G.cols dirs

  dir_same : (c : ℕ) → c < cells G → is_in c ≡ true → dir_at G' c ≡ dir_at G c
  dir_same c l i = cleared c l ∙ rw i refl

  inside_same : (c : ℕ) → is_in c ≡ true → inside G' c ≡ inside G c
  unfolding inside
  inside_same c i = go (ltb c (cells G)) refl
    where
      go : (b : Bool) → ltb c (cells G) ≡ b
          → cond b (not (eqb (get_or dirs c 0) 0)) false ≡ cond b (not (eqb (dir_at G c) 0)) false
      go true l = rw (dir_same c (ltb-true c (cells G) l) i)
      go false l = refl

  inside_none : (c : ℕ) → is_in c ≡ false → inside G' c ≡ false
  unfolding inside
  inside_none c i = go (ltb c (cells G)) refl
    where
      go : (b : Bool) → ltb c (cells G) ≡ b → cond b (not (eqb (get_or dirs c 0) 0)) false ≡ false
      go true l = rw (cleared c (ltb-true c (cells G) l), i)
      go false l = refl

  end_same : (c : ℕ) → c < cells G → is_in c ≡ true → end_of G' c ≡ end_of G c
  unfolding end_of
  end_same c l i = rw (dir_same c l i)

  -- the cell that the step of a cell of the basin ends on
  to_same : (c t : ℕ) → inside G c ≡ true → is_in c ≡ true → end_of G c ≡ Some t → inside G' t ≡ inside G t
  to_same c t k i e = go (inside G t) refl (is_in t) refl
    where
      go : (a : Bool) → inside G t ≡ a → (b : Bool) → is_in t ≡ b → inside G' t ≡ inside G t
      go a x true y = inside_same t y
      go true x false y =
          let n = sym (next_to G c (record { from_inside = k; ends = e; to_inside = x })) in
          inside_same t (sym (stays c t n) ∙ i)
      go false x false y = inside_none t y ∙ sym x

  onto_same : (c : ℕ) → inside G c ≡ true → is_in c ≡ true → (x : End) → end_of G c ≡ x → onto G' x ≡ onto G x
  unfolding onto
  onto_same c k i None e = refl
  onto_same c k i (Some t) e = rw (to_same c t k i e)

  next_same : (c : ℕ) → is_in c ≡ true → next G' c ≡ next G c
  unfolding next
  next_same c i = rw (inside_same c i) (go (inside G c) refl)
    where
      go : (b : Bool) → inside G c ≡ b → cond b (onto G' (end_of G' c)) None ≡ cond b (onto G (end_of G c)) None
      go true k =
          ap (onto G') (end_same c (inside_lt G c k) i) ∙ onto_same c k i (end_of G c) refl
      go false k = refl

  agree : Agree is_in (next G) (next G')
  agree = record {
    stays = stays;
    same = next_same;
    nowhere = λ q i. sym (next_outside G' q (inside_none q i));
  }

  -- ---- areas

  drains_same : (c q : ℕ) → is_in c ≡ true → drains_into G' c q ≡ drains_into G c q
  unfolding drains_into
  drains_same c q i = go (is_in q) refl
    where
      none : (a : Bool) {b : Bool} → b ≡ false → false ≡ cond a b false
      none true e = sym e
      none false e = refl

      go : (b : Bool) → is_in q ≡ b
          → cond (inside G' q) (passes (next G') (cells G) q c) false
          ≡ cond (inside G q) (passes (next G) (cells G) q c) false
      go true j = rw (inside_same q j, passes_same agree (cells G) q c j)
      go false j = rw (inside_none q j) (none (inside G q) (passes_none agree (cells G) q c j i))

  module _ (depth least split : ℕ) (weights : List ℕ) where
    abbrev S : Sheet
    S = record { grid = G; depth = depth; least = least; split = split; weights = weights }

    abbrev S' : Sheet
    S' = record { grid = G'; depth = depth; least = least; split = split; weights = weights }

    pub area_same : (c : ℕ) → is_in c ≡ true → area S' c ≡ area S c
    unfolding area weight
    area_same c i =
        rw (
          inside_same c i,
          sum_same (cells G) (drains_into G' c) (drains_into G c) (weight S') (weight S)
              (λ q l. drains_same c q i) (λ q l. refl),
        )

    -- ---- labels

    digits_same_in : (c : ℕ) → is_in c ≡ true → label_digits S' c ≡ label_digits S c
    unfolding label_digits outlet_of network network_by
    digits_same_in c i =
        rw (way_end_same agree (cells G) c i)
        (digits_same agree (cells G) split (area S) (area S') (λ v. leb least (area S v)) (λ v. leb least (area S' v))
        area_same (λ v j. ap (leb least) (area_same v j)) depth _ c (way_end_in agree (cells G) c i) i)

    pub label_same : (c : ℕ) → is_in c ≡ true → label_of S' c ≡ label_of S c
    unfolding label_of
    label_same c i = rw (inside_same c i, digits_same_in c i)
