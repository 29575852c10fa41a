-- An answer of the index call is a number of units that is at most the number of cells, or a refusal with a number from
-- 1 to 19 and a place below 65,536.
use mathlib.Core.Path.{◌≡◌, refl}
use mathlib.Core.Bool.{Bool, true, false, cond}
use mathlib.Core.List.{List, [], ◌∷◌}
use Prim.Native.Nat.{ℕ, zero, suc, ◌≤◌, ◌<◌}
use native.Mathlib.Omega.{arith}
use lib.ListN.{length, length-map}
use Rattle.sheet.specs.Sheet.{Sheet, cells, inside}
use Rattle.sheet.specs.Basins.{basin_digits}
use Rattle.sheet.specs.Refusal.{Lent, outcome}
use Rattle.sheet.proofs.Cells.{cells_most}
use Rattle.sheet.proofs.Within.{rows_cols_most}
use Rattle.claims.specs.Dictionary.{is_before}
use Rattle.claims.proofs.Places.{SmallRefusal, refusal_small}
use Rattle.claims.proofs.Written.{checks}
use Rattle.index.specs.Units.{with_unit, units_among, distinct_units, entry_of_unit, units}
use Rattle.index.specs.Index.{LentIndex, index_fits, indexed_on, indexed}
use Rattle.sheet.specs.Answer.{Outcome, Counted, Accepted, Refused}
use Rattle.std.specs.Prelude.{Err, Ok}

abbrev pub SmallAnswer : Counted → Type 0
SmallAnswer (Ok units) = units ≤ 65536
SmallAnswer (Err refusal) = (1 ≤ refusal.number) × (refusal.number ≤ 19) × (refusal.place < 65536)

with_unit_length : (x : List ℕ) (ys : List (List ℕ)) → length (with_unit x ys) ≤ suc (length ys)
unfolding with_unit
with_unit_length x [] = omega arith
with_unit_length x (y ∷ ys) = go (is_before x y) (is_before y x) (with_unit_length x ys)
  where
    go : (a b : Bool) → length (with_unit x ys) ≤ suc (length ys)
        → length (cond a (x ∷ y ∷ ys) (cond b (y ∷ with_unit x ys) (y ∷ ys))) ≤ suc (suc (length ys))
    go true b h = omega arith
    go false true h = omega arith
    go false false h = omega arith

module _ (S : Sheet) where
  among_few : (n : ℕ) → length (units_among S n) ≤ n
  unfolding units_among
  among_few zero = omega arith
  among_few (suc n) = go (inside S.grid n) (among_few n)
    where
      go : (b : Bool) → length (units_among S n) ≤ n
          → length (cond b (with_unit (basin_digits S n) (units_among S n)) (units_among S n)) ≤ suc n
      go true h = let l = with_unit_length (basin_digits S n) (units_among S n) in omega arith
      go false h = omega arith

  pub units_few : length (units S) ≤ cells S.grid
  unfolding units distinct_units
  units_few = rw (length-map (distinct_units S) (entry_of_unit S)) (among_few (cells S.grid))

pub answer_small : (S : Sheet) (L : Lent) (I : LentIndex) → SmallAnswer (indexed S L I)
unfolding indexed
answer_small S L I = go (outcome S L) refl (refusal_small S L)
  where
    fitted : outcome S L ≡ Accepted → (b : Bool) → SmallAnswer (cond b (Ok (length (units S))) (Refused 3 0))
    fitted e true =
        let most = rows_cols_most S.grid.rows S.grid.cols (checks S L e).sizes in
        omega (arith, units_few S, cells_most most.0 most.1)
    fitted e false = (omega arith, omega arith, omega arith)

    go : (o : Outcome) → outcome S L ≡ o → SmallRefusal o → SmallAnswer (indexed_on o (length (units S)) I)
    go Accepted e s = fitted e (index_fits (length (units S)) I)
    go (Err refusal) e s = s
