-- The units that were written for the cells of an accepted sheet, along the order along rivers: by basin and then
-- label.
use mathlib.Core.Path.{◌≡◌, refl, sym, ap, ◌∙◌}
use mathlib.Core.Bool.{true}
use mathlib.Core.List.{List, ◌∷◌}
use mathlib.Core.Logic.{◌≢◌}
use Prim.Native.Nat.{ℕ, zero, suc, ◌+◌, ◌≤◌, ◌<◌}
use native.Mathlib.Decide.{ℕ_discrete, dec_lt}
use native.Mathlib.Omega.{arith}
use lib.ListN.{length, get_or}
use Rattle.sheet.specs.Sheet.{Grid, Sheet, cells, inside, is_outlet, next}
use Rattle.sheet.specs.Water.{Passes, here, there, DrainsTo}
use Rattle.sheet.proofs.Cells.{next_goes}
use Rattle.sheet.specs.Area.{count}
use Rattle.sheet.specs.River.{network}
use Rattle.sheet.specs.Record.{basin_and_digits, unit_digits_at}
use Rattle.sheet.specs.Label.{areas_of, label_digits, outlet_of}
use Rattle.sheet.specs.Basins.{basin_of, basin_digits}
use Rattle.sheet.specs.Refusal.{Lent, outcome, written, lent_after}
use Rattle.claims.specs.Demand.{Shares, Inside}
use Rattle.claims.specs.Dictionary.{NotAfter}
use Rattle.claims.specs.Parting.{Begins, begins_on}
use Rattle.claims.proofs.Basins.{lawful}
use Rattle.claims.proofs.BasinNumbers.{way_outlet, outlet_of_is, number_of_way, same_outlet}
use Rattle.claims.proofs.Dictionary.{not_after_both, not_after_on, not_after_now}
use Rattle.claims.proofs.Sheets.{PassedOn, outlet_is}
use Rattle.claims.proofs.Units.{digits_in, drains_map}
use Rattle.claims.proofs.Written.{grid_checks, the_forest, own_digits, basin_written, digits_written}
use Rattle.rivers.specs.Layout.{LayoutOf}
use Rattle.rivers.specs.LabelOrder.{InLabelOrder}
use Rattle.rivers.proofs.LabelOrder.{river_in_order}
use Rattle.rivers.proofs.WrittenOrder.{same_in_order}
use Rattle.order.specs.Places.{cells_in, sizes_in, BasinAt, Arranged}
use Rattle.labelling.proofs.Steps.{network_in_lem}
use Rattle.sheet.specs.Answer.{Next, Accepted}
use Rattle.std.specs.Prelude.{None}

-- water that goes nowhere passes its own cell alone
nowhere : {next : ℕ → Next} {q p : ℕ} → next q ≡ None → Passes next q p → q ≡ p
nowhere e here = refl
nowhere e (there f h) = let z : ◌≡◌ {A = ℕ} 0 1 = cc in absurd (omega arith)

module _ (S : Sheet) (L : Lent) (accepted : outcome S L ≡ Accepted) {areas work : List ℕ} {queued : ℕ}
    (r : Arranged S.grid areas work queued)
    (laid : LayoutOf (network S) (cells_in (cells S.grid) work queued) (sizes_in (cells S.grid) work queued) areas
    S.split S.least) where
  abbrev G : Grid
  G = S.grid

  abbrev cell : List ℕ
  cell = cells_in (cells G) work queued

  abbrev cell_at : ℕ → ℕ
  cell_at i = get_or cell i 0

  abbrev size_of : ℕ → ℕ
  size_of i = get_or (sizes_in (cells G) work queued) i 0

  P : PassedOn G
  P = grid_checks S L accepted

  on : (i : ℕ) → i < queued → i < length cell
  on i l = omega (arith, r.long)

  apart : (i j : ℕ) → i < queued → j < queued → cell_at i ≡ cell_at j → i ≡ j
  apart i j a b e = r.layout.apart i j (on i a) (on j b) e

  passing : (i m : ℕ) → m ≤ i → i < m + size_of m → m < queued → Passes (next G) (cell_at i) (cell_at m)
  unfolding network
  passing i m a b l = laid.passing i m a b (on m l)

  -- ---- basins at positions of the order

  -- no other outlet stands among the cells of a basin
  past_basin : (m o : ℕ) → m < o → o < queued → is_outlet G (cell_at o) ≡ true → m + size_of m ≤ o
  past_basin m o l b e = elim (dec_lt o (m + size_of m)) [
    | yes h ↦
        let same = nowhere (outlet_is G (cell_at o) e).1 (passing o m (omega arith) h (omega arith)) in
        absurd (omega (arith, apart o m b (omega arith) same))
    | no h ↦ omega arith
  ]

  -- an outlet that stands later has a larger number
  rise : (fuel m k o : ℕ) → o ≤ m + fuel → BasinAt G cell m k → m < o → o < queued → is_outlet G (cell_at o) ≡ true
      → k < count (suc (cell_at o)) (is_outlet G)
  rise zero m k o f B l b e = absurd (omega arith)
  rise (suc fuel) m k o f B l b e =
      let past = past_basin m o l b e in
      let later = r.onward m k B (omega arith) in
      let some = r.layout.some m (on m (omega arith)) in
      elim (dec_lt (m + size_of m) o) [
        | yes h ↦
            let more = rise fuel (m + size_of m) (suc k) o (omega arith) later h b e in
            omega arith
        | no h ↦
            let same : m + size_of m ≡ o = omega arith in
            omega (arith, (rw same at later).numbered)
      ]

  -- the outlet of the basin of the cell at position i
  record Root (i : ℕ) : Type 0 where
    at : ℕ
    on_order : at < queued
    from : at ≤ i
    to : i < at + size_of at
    is : cell_at at ≡ outlet_of G (cell_at i)
    outlet : is_outlet G (cell_at at) ≡ true
    number : basin_of G (cell_at i) ≡ count (suc (cell_at at)) (is_outlet G)

  root : (i : ℕ) → i < queued → Root i
  unfolding network
  root i l =
      let inner = r.are_inside i l in
      let o = outlet_of_is G P (cell_at i) inner in
      let s = r.all_stand (outlet_of G (cell_at i)) (outlet_is G (outlet_of G (cell_at i)) o.0).0 in
      let at = s.0 in
      let way : Passes (next G) (cell_at i) (cell_at at) = rw s.2 o.1 in
      let c = laid.covering (cell_at i) at (on at s.1) way in
      let within = r.layout.within at (on at s.1) in
      let same : c.0 ≡ i = apart c.0 i (omega (arith, c.2, r.long)) l c.3 in
      let is_one : is_outlet G (cell_at at) ≡ true = rw s.2 o.0 in
      record {
        at = at;
        on_order = s.1;
        from = omega (arith, c.1);
        to = omega (arith, c.2);
        is = s.2;
        outlet = is_one;
        number = number_of_way G P (cell_at i) (cell_at at) inner is_one way;
      }

  basin_begins : (i : ℕ) (t : Root i) → BasinAt G cell t.at (basin_of G (cell_at i))
  basin_begins i t = record { is_outlet_lem = t.outlet; numbered = sym t.number }

  -- ---- by basin and then label

  abbrev digits_from : ℕ → ℕ → List ℕ
  digits_from o c = digits_in (network S) o S.depth c

  in_river : (i : ℕ) (t : Root i)
      → InLabelOrder (next G) (λ c. Passes (next G) c (cell_at t.at)) (digits_from (cell_at t.at)) cell t.at
      (t.at + size_of t.at)
  unfolding network
  in_river i t =
      river_in_order r.layout (lawful (the_forest S L accepted)) laid S.depth t.at (on t.at t.on_order)

  -- the digits of a cell whose water comes to an outlet are those from that outlet
  digits_from_lem : (o c : ℕ) → outlet_of G c ≡ o → label_digits S c ≡ digits_from o c
  digits_from_lem o c e = own_digits S c ∙ ap (λ (m : ℕ). digits_from m c) e

  key_of : (c : ℕ) → basin_digits S c ≡ basin_of G c ∷ label_digits S c
  unfolding basin_digits
  key_of c = refl

  -- two positions of one basin
  one_basin : (i j : ℕ) (t : Root i) (u : Root j) → t.at ≡ u.at → basin_of G (cell_at i) ≡ basin_of G (cell_at j)
  one_basin i j t u e = t.number ∙ ap (λ (m : ℕ). count (suc (cell_at m)) (is_outlet G)) e ∙ sym u.number

  never_fall : (i j : ℕ) → i ≤ j → j < queued → NotAfter (basin_digits S (cell_at i)) (basin_digits S (cell_at j))
  never_fall i j o b =
      let t = root i (omega arith) in
      let u = root j b in
      let tf = t.from in
      let uf = u.from in
      let ut = u.to in
      rw (key_of (cell_at i), key_of (cell_at j)) (elim (ℕ_discrete t.at u.at) [
        | yes e ↦
            let last : j < t.at + size_of t.at = rw e ut in
            let a = digits_from_lem (cell_at t.at) (cell_at i) (sym t.is) in
            let z = digits_from_lem (cell_at t.at) (cell_at j) (sym (ap cell_at e ∙ u.is)) in
            rw (one_basin i j t u e, a, z) (not_after_on ((in_river i t).never_fall i j t.from o last))
        | no d ↦ elim (dec_lt t.at u.at) [
          | yes l ↦
              let more = rise u.at t.at (basin_of G (cell_at i)) u.at (omega arith) (basin_begins i t) l
              u.on_order u.outlet in
              not_after_now (omega (arith, more, u.number))
          | no l ↦ absurd (omega (arith, past_basin u.at t.at (omega arith) t.on_order t.outlet))
        ]
      ])

  side_by_side : (i k j : ℕ) → i ≤ k → k ≤ j → j < queued → basin_digits S (cell_at i) ≡ basin_digits S (cell_at j)
      → basin_digits S (cell_at k) ≡ basin_digits S (cell_at i)
  side_by_side i k j o p b e = not_after_both (rw e (never_fall k j p b)) (never_fall i k o (omega arith))

  -- the cells that share a unit's leading digits, in its basin and in its river
  module _ (i : ℕ) (l : i < queued) where
    t : Root i
    t = root i l

    abbrev outlet_at : ℕ
    outlet_at = cell_at t.at

    own : label_digits S (cell_at i) ≡ digits_from outlet_at (cell_at i)
    own = digits_from_lem outlet_at (cell_at i) (sym t.is)

    shares_key : (x : ℕ)
        → Shares (λ c. Passes (next G) c outlet_at) (digits_from outlet_at) (digits_from outlet_at (cell_at i)) x
        → Shares (Inside S) (basin_digits S) (basin_digits S (cell_at i)) x
    shares_key x s =
        let way = s.is_inside_lem in
        let inner = upstream_inside (outlet_is G outlet_at t.outlet).0 way in
        let same = way_outlet G P x outlet_at inner way (outlet_is G outlet_at t.outlet).1 in
        let number = number_of_way G P x outlet_at inner t.outlet way ∙ sym t.number in
        record {
          is_inside_lem = inner;
          begins = rw (key_of (cell_at i), key_of x, number, own, digits_from_lem outlet_at x same) (begins_on s.begins);
        }
      where
        upstream_inside : {q p : ℕ} → inside G p ≡ true → Passes (next G) q p → inside G q ≡ true
        upstream_inside e here = e
        upstream_inside e (there {q = q} f h) = (next_goes G q f).from_inside

    key_shares : (x : ℕ) → Shares (Inside S) (basin_digits S) (basin_digits S (cell_at i)) x
        → Shares (λ c. Passes (next G) c outlet_at) (digits_from outlet_at) (digits_from outlet_at (cell_at i)) x
    key_shares x s =
        let b = begins_parts (rw (key_of (cell_at i), key_of x) at s.begins) in
        let same = same_outlet G P x (cell_at i) s.is_inside_lem (r.are_inside i l) (sym b.0) ∙ sym t.is in
        record {
          is_inside_lem = rw same at (outlet_of_is G P x s.is_inside_lem).1;
          begins = rw (own, digits_from_lem outlet_at x same) at b.1;
        }
      where
        begins_parts : {a b : ℕ} {w y : List ℕ} → Begins (a ∷ w) (b ∷ y) → (a ≡ b) × Begins w y
        begins_parts (begins_on h) = (refl, h)

    first_is_outlet : ((k : ℕ) → 0 ≤ k → suc k ≡ i → basin_digits S (cell_at k) ≢ basin_digits S (cell_at i))
        → DrainsTo (next G) (Shares (Inside S) (basin_digits S) (basin_digits S (cell_at i))) (cell_at i)
    first_is_outlet f =
        let d = (in_river i t).first_is_outlet i t.from t.to other in
        record {
          among = shares_key (cell_at i) d.among;
          drains = λ x s. drains_map shares_key (d.drains x (key_shares x s));
        }
      where
        other : (k : ℕ) → t.at ≤ k → suc k ≡ i → digits_from outlet_at (cell_at k) ≢ digits_from outlet_at (cell_at i)
        other k a e q =
            let to = t.to in
            let way = passing k t.at a (omega arith) t.on_order in
            let inner = r.are_inside k (omega arith) in
            let same = way_outlet G P (cell_at k) outlet_at inner way (outlet_is G outlet_at t.outlet).1 in
            let number = number_of_way G P (cell_at k) outlet_at inner t.outlet way ∙ sym t.number in
            f k (omega arith) e (rw (
              key_of (cell_at k),
              key_of (cell_at i),
              number,
              digits_from_lem outlet_at (cell_at k) same,
              own,
              q,
            ))

  keys_in_order : InLabelOrder (next G) (Inside S) (basin_digits S) cell 0 queued
  keys_in_order = record {
    are_inside = λ i a b. r.are_inside i b;
    all_stand = λ c i. let s = r.all_stand c i in (s.0, omega arith, s.1, s.2);
    once = λ i j a b c d e. apart i j b d e;
    never_fall = λ i j a o b. never_fall i j o b;
    side_by_side = λ i k j a o p b e. side_by_side i k j o p b e;
    first_is_outlet = λ i a b f. first_is_outlet i b f;
  }

  -- the units as they were written
  written_key : (c : ℕ) → Inside S c
      → basin_digits S c ≡ unit_digits_at (lent_after S L).basins (lent_after S L).labels c
  unfolding basin_and_digits
  written_key c i =
      key_of c ∙ rw (basin_written S L accepted c i, digits_written S L accepted c i)

  pub units_in_order : InLabelOrder (next G) (Inside S)
      (unit_digits_at (lent_after S L).basins (lent_after S L).labels) cell 0 queued
  units_in_order = same_in_order (λ c i. i) (λ c i. i) written_key keys_in_order

pub labels_in_order : (S : Sheet) (L : Lent) (old : List ℕ) {areas work : List ℕ} {queued : ℕ} → outcome S L ≡ Accepted
    → areas ≡ written (areas_of S) old → Arranged S.grid areas work queued
    → InLabelOrder (next S.grid) (Inside S)
    (unit_digits_at (lent_after S L).basins (lent_after S L).labels) (cells_in (cells S.grid) work queued) 0 queued
labels_in_order S L old accepted e r =
    units_in_order S L accepted r (rw (network_in_lem S old e) at (r.layout_of S.least S.split))
