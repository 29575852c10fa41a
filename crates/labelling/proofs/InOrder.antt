-- One basin more, along an order along rivers in which basins stand one after the other.
use mathlib.Core.Path.{◌≡◌, refl, sym, ap, ◌∙◌}
use mathlib.Core.Bool.{Bool, true, false, cond, true≢false}
use mathlib.Core.List.{List}
use Prim.Native.Nat.{ℕ, ◌+◌, ◌<◌, ◌≤◌}
use native.Mathlib.Nat.{zero-add}
use native.Mathlib.Omega.{arith}
use lib.ListN.{length, get_or}
use Rattle.sheet.specs.Sheet.{Sheet, inside}
use Rattle.sheet.specs.River.{network, river}
use Rattle.sheet.specs.Record.{record_of, no_digits}
use Rattle.sheet.specs.Label.{label, label_digits, label_of}
use Rattle.sheet.specs.Basins.{basin_of}
use Rattle.claims.proofs.Basins.{lawful}
use Rattle.claims.proofs.BasinNumbers.{way_outlet, number_of_way}
use Rattle.claims.proofs.Lawful.{Test, yes as met, no as unmet}
use Rattle.claims.proofs.Sheets.{PassedOn, passed_on, forest, outlet_is}
use Rattle.rivers.specs.Labelled.{relabelled, cells_labelled, stands}
use Rattle.rivers.specs.UnitAt.{NetworkOf}
use Rattle.rivers.proofs.Positions.{Stands, stands_test, stands_add}
use Rattle.rivers.proofs.Relabelled.{relabelled_none, relabelled_twice, labelled_twice}
use Rattle.order.specs.Places.{BasinAt}
use Rattle.labelling.specs.Labelling.{BasinsOf}

module _ {cell size area : List ℕ} {depth split least : ℕ} (b : BasinsOf cell size area depth split least) where
  abbrev S : Sheet
  S = b.sheet

  passed : PassedOn S.grid
  passed = passed_on S.grid b.accepted

  pub network_of : NetworkOf cell size area split least
  unfolding network
  network_of = record {
    network = network S;
    lawful = lawful (forest S.grid passed _ S.least S.split);
    laid_out = b.laid_out;
  }

  label_inside : (c : ℕ) → inside S.grid c ≡ true → record_of (label_digits S c) ≡ label_of S c
  unfolding label_of
  label_inside c i = go (inside S.grid c) i
    where
      go : (t : Bool) → t ≡ true → record_of (label_digits S c) ≡ cond t (record_of (label_digits S c)) no_digits
      go t e = rw e

  -- a cell that stands at one of the n positions from j on
  standing : (j n c : ℕ) → stands cell j n c ≡ true → Stands cell j (j + n) c
  standing j n c e = go (stands_test cell n j c)
    where
      go : Test (stands cell j n c) (Stands cell j (j + n) c) → Stands cell j (j + n) c
      go (met x s) = s
      go (unmet x s) = absurd (true≢false (sym e ∙ x))

  module _ (j k : ℕ) (on : j < length cell) (within : j + get_or size j 0 ≤ length cell)
      (B : BasinAt S.grid cell j k) where
    -- the label of a cell of the basin that begins at j
    basin_label_lem : (c : ℕ) → stands cell j (get_or size j 0) c ≡ true
        → record_of (label (network S) depth (river (network S) (get_or cell j 0)) c) ≡ label_of S c
    unfolding network label_digits
    basin_label_lem c e =
        let s = standing j (get_or size j 0) c e in
        let t = s.to in
        let i : inside S.grid c ≡ true = rw s.is at (b.are_inside s.at (omega arith)) in
        let way = rw s.is at (b.laid_out.passing s.at j s.from s.to on) in
        let o = way_outlet S.grid passed c (get_or cell j 0) i way (outlet_is S.grid _ B.is_outlet_lem).1 in
        ap (λ (d : ℕ). record_of (label (network S) d (river (network S) (get_or cell j 0)) c)) (sym b.depth_is)
        ∙ ap (λ (m : ℕ). record_of (label (network S) S.depth (river (network S) m) c)) (sym o)
        ∙ label_inside c i

    basin_number_lem : (c : ℕ) → stands cell j (get_or size j 0) c ≡ true → k ≡ basin_of S.grid c
    unfolding network
    basin_number_lem c e =
        let s = standing j (get_or size j 0) c e in
        let t = s.to in
        let i : inside S.grid c ≡ true = rw s.is at (b.are_inside s.at (omega arith)) in
        let way = rw s.is at (b.laid_out.passing s.at j s.from s.to on) in
        sym (number_of_way S.grid passed c (get_or cell j 0) i B.is_outlet_lem way ∙ B.numbered)

    split_at : (c : ℕ) → stands cell 0 (j + get_or size j 0) c
        ≡ cond (stands cell 0 j c) true (stands cell j (get_or size j 0) c)
    split_at c = rw (zero-add j) at (stands_add cell j (get_or size j 0) 0 c)

    either : {A : Type 0} (t u v : Bool) → v ≡ cond t true u → (x y z : A) → (u ≡ true → y ≡ x)
        → cond u y (cond t x z) ≡ cond v x z
    either true true v e x y z f = rw (e, f refl)
    either false true v e x y z f = rw (e, f refl)
    either true false v e x y z f = rw e
    either false false v e x y z f = rw e

    pub labels_onward : (old : List ℕ) {now later : List ℕ} → now ≡ cells_labelled (stands cell 0 j) (label_of S) old
        → ((n : NetworkOf cell size area split least) → later ≡ cells_labelled (stands cell j (get_or size j 0))
        (λ c. record_of (label n.network depth (river n.network (get_or cell j 0)) c)) now)
        → later ≡ cells_labelled (stands cell 0 (j + get_or size j 0)) (label_of S) old
    unfolding network_of
    labels_onward old e f =
        f network_of
        ∙ ap (cells_labelled (stands cell j (get_or size j 0))
        (λ c. record_of (label (network S) depth (river (network S) (get_or cell j 0)) c))) e
        ∙ labelled_twice _ _ _ _ _ _
        (λ c x. either (stands cell 0 j c) (stands cell j (get_or size j 0) c) _ (split_at c) _ _ x (basin_label_lem c)) old

    pub basins_onward : (old : List ℕ) {now later : List ℕ} → now ≡ relabelled (stands cell 0 j) (basin_of S.grid) old
        → later ≡ relabelled (stands cell j (get_or size j 0)) (λ c. k) now
        → later ≡ relabelled (stands cell 0 (j + get_or size j 0)) (basin_of S.grid) old
    basins_onward old e f =
        f
        ∙ ap (relabelled (stands cell j (get_or size j 0)) (λ c. k)) e
        ∙ relabelled_twice _ _ _ _ _ _
        (λ c x. either (stands cell 0 j c) (stands cell j (get_or size j 0) c) _ (split_at c) _ _ x (basin_number_lem c)) old

  -- before the first basin
  pub labels_none : (old : List ℕ) → old ≡ cells_labelled (stands cell 0 0) (label_of S) old
  unfolding cells_labelled stands
  labels_none old = sym (relabelled_none _ _ old (λ c. refl))

  pub basins_none : (old : List ℕ) → old ≡ relabelled (stands cell 0 0) (basin_of S.grid) old
  unfolding stands
  basins_none old = sym (relabelled_none _ _ old (λ c. refl))
