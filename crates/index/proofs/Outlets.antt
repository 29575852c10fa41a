-- The cell to which the cells of a unit drain is the unit's outlet cell.
use mathlib.Core.Path.{◌≡◌, refl, sym, ◌∙◌, ap}
use mathlib.Core.Bool.{Bool, true, false, not}
use mathlib.Core.List.{List, ◌∷◌}
use mathlib.Core.Logic.{◌≢◌}
use Prim.Native.Nat.{ℕ, zero, suc, ◌<◌}
use native.Mathlib.Omega.{arith}
use lib.ListN.{length, get_or}
use Rattle.sheet.specs.Sheet.{Sheet, cells, next}
use Rattle.sheet.specs.Water.{here, there, Drains, drained, drains_on, DrainsTo, onward}
use Rattle.sheet.specs.River.{network}
use Rattle.sheet.specs.Record.{digits_of, same_label, label_at}
use Rattle.sheet.specs.Label.{label_digits, cell_found}
use Rattle.sheet.specs.Basins.{basin_of, basin_digits}
use Rattle.sheet.specs.Refusal.{Lent, both, outcome, lent_after}
use Rattle.sheet.proofs.First.{first_at_lem}
use Rattle.sheet.proofs.Cells.{inside_lt}
use Rattle.sheet.proofs.Records.{same_true as label-true, same_false as label-false}
use Rattle.claims.specs.Demand.{Shares, Inside, digits_at, OfBasin}
use Rattle.claims.specs.Parting.{Begins, begins_none, begins_on}
use Rattle.claims.proofs.Parting.{begins_first, begins_rest}
use Rattle.claims.proofs.Runs.{pass_both}
use Rattle.claims.proofs.Units.{drains_passes, begins_all}
use Rattle.claims.proofs.Basins.{lawful}
use Rattle.claims.proofs.Counts.{not-true}
use Rattle.claims.proofs.Written.{the_forest, digits_written, basin_written}
use Rattle.claims.proofs.Theorems.{demand_three}
use Rattle.index.specs.Units.{is_of_unit, leaves_unit, outlet_cell}
use Rattle.index.proofs.Distinct.{of_unit, unit_of_lem}
use Rattle.sheet.specs.Answer.{Next, Accepted}
use Rattle.std.specs.Prelude.{None, Some}

-- leading digits are the same digits
pub begins_at : {w x : List ℕ} → Begins w x → (i : ℕ) → i < length w → get_or w i 0 ≡ get_or x i 0
begins_at begins_none i l = absurd (omega arith)
begins_at (begins_on b) zero l = refl
begins_at (begins_on b) (suc i) l = begins_at b i (omega arith)

module _ (S : Sheet) (L : Lent) (accepted : outcome S L ≡ Accepted) where
  -- an inside cell is of the basin that was written for it
  pub of_basin_lem : (c basin : ℕ) → Inside S c → basin_of S.grid c ≡ basin → OfBasin S (lent_after S L).basins basin c
  of_basin_lem c basin i e = record { is_inside_lem = i; numbered = basin_written S L accepted c i ∙ e }

  -- no label of a basin begins another
  label_same : (c r : ℕ) → Inside S c → Inside S r → basin_of S.grid c ≡ basin_of S.grid r
      → Begins (label_digits S c) (label_digits S r) → label_digits S r ≡ label_digits S c
  label_same c r i j e b =
      go (same_label (label_at (lent_after S L).labels c) (label_at (lent_after S L).labels r)) refl
    where
      w : (q : ℕ) → Inside S q → digits_at (lent_after S L).labels q ≡ label_digits S q
      w = digits_written S L accepted

      go : (t : Bool) → same_label (label_at (lent_after S L).labels c) (label_at (lent_after S L).labels r) ≡ t
          → label_digits S r ≡ label_digits S c
      go true h = sym (w r j) ∙ ap digits_of (sym (label-true _ _ h)) ∙ w c i
      go false h =
          let one = (demand_three S L accepted).within (basin_of S.grid c) in
          let p = one.labels_part c r (of_basin_lem c _ i refl) (of_basin_lem r _ j (sym e)) (label-false _ _ h) in
          let q = rw (w c i, w r j) at p.1 in
          absurd (q.differ (begins_at b p.0 q.in_x))

  -- so no unit of an accepted sheet begins another
  pub begins_same : (c r : ℕ) → Inside S c → Inside S r → Begins (basin_digits S c) (basin_digits S r)
      → basin_digits S r ≡ basin_digits S c
  unfolding basin_digits
  begins_same c r i j b =
      let e = begins_first b in
      let d = label_same c r i j e (begins_rest b) in λ k. sym e k ∷ d k

  -- water that leaves the outlet of a unit comes to no cell of it
  leaves : (x : List ℕ) (o : ℕ) → DrainsTo (next S.grid) (Shares (Inside S) (basin_digits S) x) o
      → leaves_unit S x o ≡ true
  unfolding leaves_unit network onward
  leaves x o d = go (next S.grid o) refl
    where
      not_back : (r : ℕ) → next S.grid o ≡ Some r → is_of_unit S x r ≡ true → ⊥
      not_back r e u =
          let b = unit_of_lem S r x u in
          let s : Shares (Inside S) (basin_digits S) x r = record {
            is_inside_lem = b.0;
            begins = rw b.1 (begins_all x);
          } in
          let O = lawful (the_forest S L accepted) in
          let f = O.falls o r e in
          let q = pass_both O.dist O.falls (there e here) (drains_passes (d.drains r s)) in
          omega (arith, f, ap O.dist q)

      go : (n : Next) → next S.grid o ≡ n → onward n true (λ r. not (is_of_unit S x r)) ≡ true
      go None e = refl
      go (Some r) e = rw (not-true (is_of_unit S x r) (not_back r e))

  -- another cell's water goes on to a cell of the unit
  stays : (x : List ℕ) (o c : ℕ) → Inside S c → basin_digits S c ≡ x → c ≢ o
      → Drains (next S.grid) (Shares (Inside S) (basin_digits S) x) c o → leaves_unit S x c ≡ false
  unfolding leaves_unit onward
  stays x o c i e d (drained s) = absurd (d refl)
  stays x o c i e d (drains_on {r = r} s g h) =
      let t = first_shares h in
      let q = begins_same c r i t.is_inside_lem (rw e t.begins) in
      rw (g, of_unit S r x t.is_inside_lem (q ∙ e))
    where
      first_shares : {y z : ℕ} → Drains (next S.grid) (Shares (Inside S) (basin_digits S) x) y z
          → Shares (Inside S) (basin_digits S) x y
      first_shares (drained k) = k
      first_shares (drains_on k a b) = k

  pub outlet_is : (x : List ℕ) (o : ℕ) → basin_digits S o ≡ x
      → DrainsTo (next S.grid) (Shares (Inside S) (basin_digits S) x) o → outlet_cell S x ≡ o
  unfolding outlet_cell
  outlet_is x o e d =
      let i = d.among.is_inside_lem in
      ap cell_found (first_at_lem (λ c. both (is_of_unit S x c) (leaves_unit S x c)) (cells S.grid) o
      (record {
        below = inside_lt S.grid o i;
        passes = rw (of_unit S o x i e) (leaves x o d);
        none_before = λ k l. none k l (is_of_unit S x k) refl;
      }))
    where
      none : (k : ℕ) → k < o → (b : Bool) → is_of_unit S x k ≡ b → both b (leaves_unit S x k) ≡ false
      none k l false u = refl
      none k l true u =
          let b = unit_of_lem S k x u in
          let s : Shares (Inside S) (basin_digits S) x k = record {
            is_inside_lem = b.0;
            begins = rw b.1 (begins_all x);
          } in
          stays x o k b.0 b.1 (λ q. omega arith) (d.drains k s)
