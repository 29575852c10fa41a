-- Tests that both hold, and numbers from 1 to a bound: sizes, depths, least and split, digits.
use mathlib.Core.Path.{◌≡◌, refl, sym}
use mathlib.Core.Bool.{Bool, true, false, cond, true≢false}
use mathlib.Core.List.{List, [], ◌∷◌}
use Prim.Native.Nat.{ℕ, ◌≤◌, ◌<◌}
use native.Mathlib.Omega.{arith}
use borrow.Author.Tests.{le-leb, lt-leb, leb-true}
use lib.Dec.{leb}
use lib.ListN.{length}
use Rattle.sheet.specs.Record.{Digits, digits_none, digits_cons}
use Rattle.sheet.specs.Refusal.{both, within, sizes_fit, depth_fits, least_fits, split_fits, least_and_split_fit}
use Rattle.sheet.specs.Refusal.{sheet_fault}
use Rattle.sheet.specs.Flow.{every, are_digits}

pub both_true : (a b : Bool) → both a b ≡ true → (a ≡ true) × (b ≡ true)
both_true true b e = (refl, e)
both_true false b e = absurd (true≢false (sym e))

module _ (most a : ℕ) where
  pub within_yes : 1 ≤ a → a ≤ most → within most a ≡ true
  unfolding within
  within_yes low high = rw (le-leb 1 a low, le-leb a most high)

  pub within_below : a < 1 → within most a ≡ false
  unfolding within
  within_below h = rw (lt-leb 1 a h)

  pub within_above : most < a → within most a ≡ false
  unfolding within
  within_above h = rw (lt-leb a most h) (go (leb 1 a))
    where
      go : (b : Bool) → cond b false false ≡ false
      go true = refl
      go false = refl

  pub within_both : within most a ≡ true → (1 ≤ a) × (a ≤ most)
  unfolding within
  within_both e = let w = both_true (leb 1 a) (leb a most) e in (leb-true 1 a w.0, leb-true a most w.1)

pub rows_cols_most : (rows cols : ℕ) → sizes_fit rows cols ≡ true → (rows ≤ 256) × (cols ≤ 256)
unfolding sizes_fit
rows_cols_most rows cols e =
    let w = both_true (within 256 rows) (within 256 cols) e in
    ((within_both 256 rows w.0).1, (within_both 256 cols w.1).1)

pub cols_some : (rows cols : ℕ) → sizes_fit rows cols ≡ true → 0 < cols
unfolding sizes_fit
cols_some rows cols e = (within_both 256 cols (both_true (within 256 rows) (within 256 cols) e).1).0

pub depth_most : (depth : ℕ) → depth_fits depth ≡ true → depth ≤ 36
unfolding depth_fits
depth_most depth e = (within_both 36 depth e).1

-- checks 1, 2 and 19
module _ (rows cols depth least split : ℕ) where
  pub fault_most : sheet_fault rows cols depth least split ≤ 19
  unfolding sheet_fault
  fault_most = go (sizes_fit rows cols) (depth_fits depth) (least_and_split_fit least split)
    where
      go : (a b c : Bool) → cond a (cond b (cond c 0 19) 2) 1 ≤ 19
      go true true true = omega arith
      go true true false = omega arith
      go true false c = omega arith
      go false b c = omega arith

  -- no fault: all are passed
  pub no_fault : sheet_fault rows cols depth least split ≡ 0
      → (sizes_fit rows cols ≡ true) × (depth_fits depth ≡ true) × (least_and_split_fit least split ≡ true)
  unfolding sheet_fault
  no_fault e = go (sizes_fit rows cols) (depth_fits depth) (least_and_split_fit least split) e
    where
      go : (a b c : Bool) → ◌≡◌ {A = ℕ} (cond a (cond b (cond c 0 19) 2) 1) 0 → (a ≡ true) × (b ≡ true) × (c ≡ true)
      go true true true f = (refl, refl, refl)
      go true true false f = absurd (omega arith)
      go true false c f = absurd (omega arith)
      go false b c f = absurd (omega arith)

-- least and split that fit, and their bounds
module _ (least split : ℕ) (e : least_and_split_fit least split ≡ true) where
  pub least_fits_lem : least_fits least ≡ true
  unfolding least_and_split_fit
  least_fits_lem = (both_true (least_fits least) (split_fits split) e).0

  pub least_bounds : (1 ≤ least) × (least ≤ 65536000)
  unfolding least_fits
  least_bounds = within_both 65536000 least least_fits_lem

  pub split_bounds : (1 ≤ split) × (split ≤ 4)
  unfolding least_and_split_fit split_fits
  split_bounds = within_both 4 split (both_true (least_fits least) (split_fits split) e).1

pub digits_every : (x : List ℕ) → every (within 9) x ≡ true → Digits 9 x
unfolding every
digits_every [] e = digits_none
digits_every (a ∷ x) e =
    let b = both_true (within 9 a) (every (within 9) x) e in
    let w = within_both 9 a b.0 in
    digits_cons w.0 w.1 (digits_every x b.1)

pub every_digits : {x : List ℕ} → Digits 9 x → every (within 9) x ≡ true
unfolding every
every_digits digits_none = refl
every_digits (digits_cons {a = a} low high d) = rw (within_yes 9 a low high, every_digits d)

-- at most depth digits, each from 1 to 9
module _ (depth : ℕ) (x : List ℕ) where
  pub digits_label : Digits 9 x → length x ≤ depth → are_digits depth x ≡ true
  unfolding are_digits
  digits_label d h = rw (le-leb _ _ h, every_digits d)

  pub label_digits_lem : are_digits depth x ≡ true → Digits 9 x × (length x ≤ depth)
  unfolding are_digits
  label_digits_lem e =
      let b = both_true (leb (length x) depth) (every (within 9) x) e in (digits_every x b.1, leb-true _ _ b.0)

pub within_from : (most a : ℕ) → 1 ≤ a → within most a ≡ leb a most
unfolding within
within_from most a low = rw (le-leb 1 a low)
