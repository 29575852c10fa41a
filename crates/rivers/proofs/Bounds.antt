-- The measure of the calls, and places in a slice of the same length.
use mathlib.Core.Path.{◌≡◌, sym, subst}
use mathlib.Core.List.{List}
use Prim.Native.Nat.{ℕ, suc, ◌+◌, ◌*◌, ◌^◌, ◌≤◌, ◌<◌}
use native.Mathlib.Nat.{mul-le-mul_right, suc-mul, le_refl, le-add_right, le_trans}
use native.Mathlib.Nat.{lt_of_lt_of_le, add-lt-add_of_le_of_lt}
use Rattle.sheet.specs.Record.{label_places}
use Rattle.rivers.specs.UnitAt.{Places}

-- the measure: the digits left, and then the run's length
pub measure : ℕ → ℕ → ℕ
measure d n = d * 2 ^ 64 + n

pub measure_digit : (e d n m : ℕ) → e < d → n < 2 ^ 64 → measure e n < measure d m
unfolding measure
measure_digit e d n m f h =
    let w : suc e * 2 ^ 64 ≤ d * 2 ^ 64 = mul-le-mul_right (2 ^ 64) f in
    lt_of_lt_of_le (add-lt-add_of_le_of_lt (le_refl (e * 2 ^ 64)) h)
    (le_trans (rw (suc-mul e (2 ^ 64)) at w) (le-add_right (d * 2 ^ 64) m))

pub measure_length : (d : ℕ) {n m : ℕ} → n < m → measure d n < measure d m
unfolding measure
measure_length d h = add-lt-add_of_le_of_lt (le_refl (d * 2 ^ 64)) h

pub places_at : {cell size : List ℕ} {areas n m split : ℕ} → m ≡ n
    → Places cell size areas (label_places n) split → Places cell size areas (label_places m) split
places_at {cell} {size} {areas} {split = split} q l =
    subst (λ (k : ℕ). Places cell size areas (label_places k) split) (sym q) l
