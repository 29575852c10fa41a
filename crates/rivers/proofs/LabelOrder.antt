-- Along the order along rivers labels never fall, equal ones stand side by side, and the first is the unit's outlet.
use mathlib.Core.Path.{◌≡◌, refl, sym, ap, ◌∙◌}
use mathlib.Core.Bool.{Bool, true, false, cond}
use mathlib.Core.List.{List, [], ◌∷◌, ◌++◌}
use mathlib.Core.Logic.{◌⊎◌, inl, inr, ◌≢◌}
use Prim.Native.Nat.{ℕ, zero, suc, ◌+◌, ◌-◌, ◌≤◌, ◌<◌}
use native.Mathlib.Omega.{arith}
use native.Mathlib.Decide.{ℕ_discrete}
use lib.ListN.{length, get_or}
use Rattle.sheet.specs.Water.{Passes, DrainsTo}
use Rattle.sheet.specs.River.{Network, heavier, Run, stem, mouth, river}
use Rattle.sheet.specs.Unit.{Parts, taken, finished, cut_at}
use Rattle.sheet.specs.Label.{Place, place_of, label}
use Rattle.claims.specs.Demand.{Shares}
use Rattle.claims.specs.Dictionary.{NotAfter}
use Rattle.claims.proofs.Runs.{In, at_head, in_tail, is_under}
use Rattle.claims.specs.Lawful.{Lawful}
use Rattle.claims.specs.Runs.{Headed, mouth_here}
use Rattle.claims.proofs.Rivers.{river_headed, river_covers}
use Rattle.claims.proofs.Parts.{join, join_cut, Spot, spot_last, spot_in, spot_mouth, spot_later, spot_above, spot_held}
use Rattle.claims.proofs.Parts.{place_spot, place_headed, place_holds}
use Rattle.claims.proofs.Parting.{begins_not_parted}
use Rattle.claims.proofs.Dictionary.{not_after_both, not_after_on, not_after_now}
use Rattle.claims.proofs.DigitRule.{unit_outlet, outlet_rule}
use Rattle.claims.proofs.Units.{digits_in, drains_passes, named_outlet, begins_all}
use Rattle.rivers.specs.Layout.{Laid, laid_end, laid_stem, laid_mouth, Layout, LayoutOf}
use Rattle.rivers.specs.LabelOrder.{InLabelOrder}
use Rattle.rivers.proofs.Positions.{Stands, laid_le, mouth_stands, in_stands}

-- a run at positions of a layout, cut in two
record Split (cell size : List ℕ) (end lo hi : ℕ) (A B : Run) : Type 0 where
  mid : ℕ
  left : Laid cell size end lo mid A
  right : Laid cell size end mid hi B

laid_split : {cell size : List ℕ} {end lo hi : ℕ} (A B : Run) → Laid cell size end lo hi (A ++ B)
    → Split cell size end lo hi A B
laid_split {lo = lo} [] B l = record { mid = lo; left = laid_end; right = l }
laid_split {lo = lo} (stem s ∷ A) B (laid_stem e l) =
    let r = laid_split {lo = lo + 1} A B l in
    record { mid = r.mid; left = laid_stem e r.left; right = r.right }
laid_split {size = size} {lo = lo} (mouth v ∷ A) B (laid_mouth n l) =
    let r = laid_split {lo = lo + get_or size lo 0} A B l in
    record { mid = r.mid; left = laid_mouth n r.left; right = r.right }

-- a run lies at positions of the layout
record LaidOut (cell size : List ℕ) (R : Run) : Type 0 where
  end : ℕ
  lo : ℕ
  hi : ℕ
  laid : Laid cell size end lo hi R
  before_end : hi ≤ end
  end_within : end ≤ length cell

-- the label of the cell at position i in the river whose mouth stands at position m
abbrev along : Network → List ℕ → ℕ → ℕ → ℕ → List ℕ
along N cell depth m i = digits_in N (get_or cell m 0) depth (get_or cell i 0)

module _ {cell size area : List ℕ} {count split least : ℕ} {N : Network} (Y : Layout cell size count)
    (O : Lawful N (heavier N)) (L : LayoutOf N cell size area split least) where
  -- a cell that a run holds stands at one of its positions
  held_at : {end lo hi i : ℕ} {R : Run} → hi ≤ end → end ≤ length cell → Laid cell size end lo hi R → i < length cell
      → In N.next R (get_or cell i 0) → (lo ≤ i) × (i < hi)
  held_at {i = i} b w l h m =
      let s = in_stands Y b w L l m in
      let t = s.to in
      let e : s.at ≡ i = Y.apart s.at i (omega arith) h s.is in
      (omega (arith, s.from), omega arith)

  -- what the second of two runs holds does not stand before what the first holds
  not_before : {end lo hi i j : ℕ} (A B : Run) → hi ≤ end → end ≤ length cell → Laid cell size end lo hi (A ++ B)
      → i ≤ j → j < length cell → In N.next B (get_or cell i 0) → In N.next A (get_or cell j 0) → ⊥
  not_before A B b w l o h x y =
      let s = laid_split A B l in
      let m = laid_le s.right in
      let p = held_at b w s.right (omega arith) x in
      let q = held_at (omega arith) w s.left h y in
      omega (arith, p.0, q.1)

  -- of two cells in the order of the layout either both lie in one part, or the second in a part with a larger digit
  cells_later : {k end lo hi i j c d : ℕ} {P : Parts} {h m : Place} → hi ≤ end → end ≤ length cell
      → Laid cell size end lo hi (join P) → i ≤ j → j < length cell → get_or cell i 0 ≡ c → get_or cell j 0 ≡ d
      → Spot N k P c h → Spot N k P d m → (h ≡ m) ⊎ (h.digit < m.digit)
  cells_later b w l o t e f (spot_last x) (spot_last y) = inl refl
  cells_later b w l o t e f (spot_in x) (spot_in y) = inl refl
  cells_later b w l o t e f (spot_in x) (spot_mouth y) = inr (omega arith)
  cells_later b w l o t e f (spot_in x) (spot_later y) = let a = spot_above O y in inr (omega arith)
  cells_later b w l o t e f (spot_mouth {v = v} {R = R} {P = P} x) (spot_in y) =
      absurd (not_before R (mouth v ∷ join P) b w l o t (rw e (at_head (is_under x))) (rw f y))
  cells_later b w l o t e f (spot_mouth x) (spot_mouth y) = inl refl
  cells_later b w l o t e f (spot_mouth x) (spot_later y) = inr (spot_above O y)
  cells_later b w l o t e f (spot_later {v = v} {R = R} {P = P} x) (spot_in y) =
      absurd (not_before R (mouth v ∷ join P) b w l o t (rw e (in_tail (spot_held O x))) (rw f y))
  cells_later b w l o t e f (spot_later {v = v} {R = R} {P = P} x) (spot_mouth y) =
      let r = laid_split R (mouth v ∷ join P) l in
      absurd
      (not_before (mouth v ∷ []) (join P) b w r.right o t (rw e (spot_held O x)) (rw f (at_head (is_under y))))
  cells_later b w l o t e f (spot_later {v = v} {R = R} {P = P} x) (spot_later y) =
      let r = laid_split R (mouth v ∷ join P) l in
      let s = laid_split (mouth v ∷ []) (join P) r.right in
      cells_later b w s.right o t e f x y

  later : {k end lo hi i j : ℕ} {P : Parts} {h m : Place} → hi ≤ end → end ≤ length cell
      → Laid cell size end lo hi (join P) → i ≤ j → j < length cell
      → Spot N k P (get_or cell i 0) h → Spot N k P (get_or cell j 0) m → (h ≡ m) ⊎ (h.digit < m.digit)
  later b w l o t x y = cells_later b w l o t refl refl x y

  river_laid : (j : ℕ) → j < length cell → LaidOut cell size (river N (get_or cell j 0))
  river_laid j h = record {
    end = j + get_or size j 0;
    lo = j;
    hi = j + get_or size j 0;
    laid = L.rivers j h;
    before_end = omega arith;
    end_within = Y.within j h;
  }

  stands_laid : {lo hi v : ℕ} → Stands cell lo hi v → hi ≤ length cell → LaidOut cell size (river N v)
  stands_laid s h = rw (← s.is) (river_laid s.at (omega (arith, s.to)))

  -- the part of a unit in which a cell lies is laid out again
  spot_laid : {k end lo hi c : ℕ} {P : Parts} {h : Place} → hi ≤ end → end ≤ length cell
      → Laid cell size end lo hi (join P) → Spot N k P c h → LaidOut cell size h.unit
  spot_laid {end = end} {lo = lo} {hi = hi} b w l (spot_last i) =
      record { end = end; lo = lo; hi = hi; laid = l; before_end = b; end_within = w }
  spot_laid {end = end} {lo = lo} b w l (spot_in {v = v} {R = R} {P = P} i) =
      let s = laid_split R (mouth v ∷ join P) l in
      let m = laid_le s.right in
      record { end = end; lo = lo; hi = s.mid; laid = s.left; before_end = omega arith; end_within = w }
  spot_laid b w l (spot_mouth {v = v} {R = R} {P = P} i) =
      let r = laid_split R (mouth v ∷ join P) l in
      stands_laid (mouth_stands Y b w r.right mouth_here) (omega arith)
  spot_laid b w l (spot_later {v = v} {R = R} {P = P} i) =
      let r = laid_split R (mouth v ∷ join P) l in
      let s = laid_split (mouth v ∷ []) (join P) r.right in
      spot_laid b w s.right i

  -- the labels of a unit never fall
  unit_never_falls : (d : ℕ) (R : Run) (i j : ℕ) → Headed N.next (heavier N) R → LaidOut cell size R → i ≤ j
      → j < length cell → In N.next R (get_or cell i 0) → In N.next R (get_or cell j 0)
      → NotAfter (label N d R (get_or cell i 0)) (label N d R (get_or cell j 0))
  unfolding label
  unit_never_falls zero R i j w l o h x y = inl refl
  unit_never_falls (suc d) R i j w l o h x y =
      go (finished N R)
      (meet (later l.before_end l.end_within whole o h p q)
      (λ e. unit_never_falls d (place_of N R (get_or cell i 0)).unit i j (place_headed O R (get_or cell i 0) w x)
      (spot_laid l.before_end l.end_within whole p) o h
      (place_holds O R (get_or cell i 0) x) (rw e (place_holds O R (get_or cell j 0) y))))
    where
      whole : Laid cell size l.end l.lo l.hi (join (cut_at (taken N R) R))
      whole = rw (join_cut (taken N R) R) l.laid

      p : Spot N 0 (cut_at (taken N R) R) (get_or cell i 0) (place_of N R (get_or cell i 0))
      p = place_spot O R (get_or cell i 0) x

      q : Spot N 0 (cut_at (taken N R) R) (get_or cell j 0) (place_of N R (get_or cell j 0))
      q = place_spot O R (get_or cell j 0) y

      meet : {h m : Place} → (h ≡ m) ⊎ (h.digit < m.digit)
          → (h ≡ m → NotAfter (label N d h.unit (get_or cell i 0)) (label N d h.unit (get_or cell j 0)))
          → NotAfter (h.digit ∷ label N d h.unit (get_or cell i 0)) (m.digit ∷ label N d m.unit (get_or cell j 0))
      meet (inl e) f = rw (← e) (not_after_on (f e))
      meet (inr a) f = not_after_now a

      go : {u v : List ℕ} (b : Bool) → NotAfter u v → NotAfter (cond b [] u) (cond b [] v)
      go true k = inl refl
      go false k = k

  -- the river whose mouth stands at position m
  module _ (depth m : ℕ) (on : m < length cell) where
    inside_at : (i : ℕ) → m ≤ i → i < m + get_or size m 0 → Passes N.next (get_or cell i 0) (get_or cell m 0)
    inside_at i a b = L.passing i m a b on

    never_fall : (i j : ℕ) → m ≤ i → i ≤ j → j < m + get_or size m 0
        → NotAfter (along N cell depth m i) (along N cell depth m j)
    never_fall i j a o b =
        unit_never_falls depth (river N (get_or cell m 0)) i j (river_headed O (get_or cell m 0)) (river_laid m on) o
        (omega (arith, Y.within m on))
        (river_covers O (get_or cell m 0) (get_or cell i 0) (inside_at i a (omega arith)))
        (river_covers O (get_or cell m 0) (get_or cell j 0) (inside_at j (omega arith) b))

    side_by_side : (i k j : ℕ) → m ≤ i → i ≤ k → k ≤ j → j < m + get_or size m 0
        → along N cell depth m i ≡ along N cell depth m j
        → along N cell depth m k ≡ along N cell depth m i
    side_by_side i k j a o p b e =
        let back = never_fall k j (omega arith) p b in
        not_after_both (rw e back) (never_fall i k a o (omega arith))

    -- the outlet of the unit of the cell at position i
    module _ (i : ℕ) (a : m ≤ i) (b : i < m + get_or size m 0) where
      unit_outlet_lem : ℕ
      unit_outlet_lem = unit_outlet N depth (river N (get_or cell m 0)) (get_or cell i 0)

      drained : DrainsTo N.next
          (Shares (λ c. Passes N.next c (get_or cell m 0)) (digits_in N (get_or cell m 0) depth) (along N cell depth m i))
          unit_outlet_lem
      unfolding unit_outlet_lem
      drained = named_outlet O (λ c. Passes N.next c (get_or cell m 0)) (get_or cell m 0) depth (λ c h. h) (λ c h. h)
          (get_or cell i 0) (inside_at i a b)

      outlet_label : along N cell depth m i ≡ digits_in N (get_or cell m 0) depth unit_outlet_lem
      outlet_label =
          let own = drained.among.is_inside_lem in
          elim (outlet_rule O (get_or cell m 0) depth (get_or cell i 0) unit_outlet_lem (inside_at i a b) own) [
            | inl e ↦ e
            | inr r ↦ absurd (begins_not_parted drained.among.begins r.0)
          ]

      -- it stands at a position up to i
      outlet_stands : (k : ℕ) × (m ≤ k) × (k ≤ i) × (get_or cell k 0 ≡ unit_outlet_lem)
      outlet_stands =
          let k = L.covering unit_outlet_lem m on drained.among.is_inside_lem in
          let within = Y.within m on in
          let on-k : k.0 < length cell = omega (arith, k.2) in
          let flows = drains_passes
          (drained.drains (get_or cell i 0) (record { is_inside_lem = inside_at i a b; begins = begins_all _ })) in
          let j = L.covering (get_or cell i 0) k.0 on-k (rw k.3 flows) in
          let e : j.0 ≡ i = Y.apart j.0 i (omega (arith, j.2, Y.within k.0 on-k)) (omega arith) j.3 in
          (k.0, k.1, omega (arith, j.1), k.3)

      first_is_outlet : ((k : ℕ) → m ≤ k → suc k ≡ i
          → along N cell depth m k ≢ along N cell depth m i)
          → unit_outlet_lem ≡ get_or cell i 0
      first_is_outlet f = go outlet_stands
        where
          go : (k : ℕ) × (m ≤ k) × (k ≤ i) × (get_or cell k 0 ≡ unit_outlet_lem) → unit_outlet_lem ≡ get_or cell i 0
          go k = elim (ℕ_discrete k.0 i) [
            | yes e ↦ sym k.3 ∙ rw e
            | no d ↦
                let low = k.1 in
                let high = k.2 in
                let same = ap (λ (c : ℕ). digits_in N (get_or cell m 0) depth c) k.3 ∙ sym outlet_label in
                let before = side_by_side k.0 (i - 1) i low (omega arith) (omega arith) b same in
                absurd (f (i - 1) (omega arith) (omega arith) (before ∙ same))
          ]

    -- the labels of the cells of a river, from its mouth on
    pub river_in_order : InLabelOrder N.next (λ c. Passes N.next c (get_or cell m 0))
        (digits_in N (get_or cell m 0) depth) cell m (m + get_or size m 0)
    river_in_order = record {
      are_inside = inside_at;
      all_stand = λ c h. L.covering c m on h;
      once = λ i j a b c d e. Y.apart i j (omega (arith, Y.within m on)) (omega (arith, Y.within m on)) e;
      never_fall = never_fall;
      side_by_side = side_by_side;
      first_is_outlet = λ i a b f. rw (first_is_outlet i a b f) at (drained i a b);
    }
