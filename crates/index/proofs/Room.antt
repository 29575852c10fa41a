-- What the test of the index's lengths tells, and how many groups a list of cells can have.
use mathlib.Core.Path.{◌≡◌}
use mathlib.Core.Bool.{Bool, true, false, cond}
use mathlib.Core.List.{List, [], ◌∷◌}
use Prim.Native.Nat.{ℕ, suc, ◌≤◌}
use native.Mathlib.Omega.{arith}
use lib.Dec.{leb}
use lib.ListN.{length}
use borrow.Author.Tests.{leb-true, le-leb}
use Rattle.sheet.specs.Record.{label_places, same_unit, unit_at}
use Rattle.sheet.proofs.Within.{both_true}
use Rattle.index.specs.Units.{UnitEntry, unit_entry}
use Rattle.index.specs.Groups.{with_cell, grouped}
use Rattle.index.specs.Index.{LentIndex, index_fits, room_for}
use Rattle.index.specs.Steps.{groups_of, Room}
use Rattle.sheet.specs.Answer.{Refused}
use Rattle.std.specs.Prelude.{Ok}

module _ (I : LentIndex) where
  pub fits_room : (count : ℕ) → index_fits count I ≡ true → Room count I
  unfolding index_fits
  fits_room count e =
      let a = both_true (leb count (label_places (length I.labels))) _ e in
      let b = both_true (leb count (length I.outlets)) _ a.1 in
      let d = both_true (leb count (length I.counts)) (leb count (length I.basins)) b.1 in
      record {
        labels = leb-true _ _ a.0;
        outlets = leb-true _ _ b.0;
        counts = leb-true _ _ d.0;
        basins = leb-true _ _ d.1;
      }

  pub less_room : {few most : ℕ} → few ≤ most → Room most I → Room few I
  less_room l r = record {
    labels = omega (arith, r.labels);
    outlets = omega (arith, r.outlets);
    counts = omega (arith, r.counts);
    basins = omega (arith, r.basins);
  }

  pub room_found : (count : ℕ) → Room count I → Ok count ≡ room_for count I
  unfolding room_for
  room_found count r =
      simp (le-leb _ _ r.labels, le-leb _ _ r.outlets, le-leb _ _ r.counts, le-leb _ _ r.basins)

  pub no_room : (count : ℕ) → index_fits count I ≡ false → Refused 3 0 ≡ room_for count I
  unfolding room_for
  no_room count e = rw e

-- no more groups than cells
pub groups_few : (cells labels basins : List ℕ) → length (groups_of cells labels basins) ≤ length cells
unfolding grouped
groups_few [] labels basins = omega arith
groups_few (c ∷ cs) labels basins = one_more (grouped (unit_at basins labels) cs) (groups_few cs labels basins)
  where
    one_more : (es : List UnitEntry) → length es ≤ length cs
        → length (with_cell (unit_at basins labels c) c es) ≤ suc (length cs)
    one_more [] l = omega arith
    one_more (e ∷ es) l = go (same_unit (unit_at basins labels c) e.unit)
      where
        go : (b : Bool)
            → length (cond b (unit_entry (unit_at basins labels c) c (suc e.count) ∷ es)
            (unit_entry (unit_at basins labels c) c 1 ∷ e ∷ es)) ≤ suc (length cs)
        go true = omega arith
        go false = omega arith
