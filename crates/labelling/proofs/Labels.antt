-- The labels and the basins of all inside cells, over cleared places, are those of the sheet.
use mathlib.Core.Path.{◌≡◌, refl, sym, ap, ◌∙◌}
use mathlib.Core.Bool.{Bool, true, false, cond}
use mathlib.Core.List.{List}
use mathlib.Core.Logic.{◌⊎◌, inl, inr}
use Prim.Native.Nat.{ℕ, ◌+◌, ◌*◌, ◌-◌, ◌<◌, ◌≤◌}
use native.Mathlib.Omega.{arith}
use lib.Dec.{ltb}
use lib.ListN.{length, get_or, drop, replicate, length-append, length-drop, length-replicate, get_or-replicate}
use lib.ListN.{get_or-append}
use lib.Seq.{get_or-drop, get_or-append-add}
use borrow.Author.Tests.{ltb-true, ltb-false}
use Rattle.sheet.specs.Sheet.{Sheet, Grid, cells, inside}
use Rattle.sheet.specs.Record.{record_of, no_digits, label_places, place_at, number_in}
use Rattle.sheet.specs.Label.{label_digits, label_of, labels_of, list_from}
use Rattle.sheet.specs.Basins.{basin_of, basins_of}
use Rattle.sheet.specs.Refusal.{written}
use Rattle.sheet.proofs.Cells.{inside_lt}
use Rattle.sheet.proofs.Lists.{length_list, written_at}
use Rattle.sheet.proofs.Slices.{places_enough, numbers_listed, number_same, number_twice}
use Rattle.claims.proofs.BasinNumbers.{basin_outside}
use Rattle.rivers.specs.Labelled.{relabelled, cells_labelled}
use Rattle.rivers.proofs.Relabelled.{relabelled_is}

-- ---- slices written at their start
pub written_length : (new old : List ℕ) → length new ≤ length old → length (written new old) ≡ length old
written_length new old l = length-append new (drop (length new) old) ∙ (rw (length-drop (length new) old) (omega arith))

written_past : (new old : List ℕ) (c : ℕ) → length new ≤ c → get_or (written new old) c 0 ≡ get_or old c 0
written_past new old c l =
    let e : length new + (c - length new) ≡ c = omega arith in
    ap (λ (k : ℕ). get_or (written new old) k 0) (sym e) ∙ get_or-append-add new (drop (length new) old)
    (c - length new) 0 ∙ get_or-drop (length new) old (c - length new) 0 ∙ ap (λ (k : ℕ). get_or old k 0) e

pub outside_past : (G : Grid) (c : ℕ) → cells G ≤ c → inside G c ≡ false
outside_past G c l = go (inside G c) refl
  where
    go : (b : Bool) → inside G c ≡ b → b ≡ false
    go true e = absurd (omega (arith, inside_lt G c e))
    go false e = refl

-- ---- numbers f over cleared places, at those places that pass a test; f is 0 elsewhere
module _ (test : ℕ → Bool) (f : ℕ → ℕ) (m : ℕ) (old : List ℕ) (room : m ≤ length old)
    (past : (i : ℕ) → m ≤ i → test i ≡ false) (none : (i : ℕ) → test i ≡ false → f i ≡ 0) where
  abbrev zeros : List ℕ
  zeros = written (replicate m 0) old

  zeros_length : length zeros ≡ length old
  zeros_length = written_length (replicate m 0) old (rw length-replicate room)

  all_length : length (written (list_from f 0 m) old) ≡ length old
  all_length = written_length (list_from f 0 m) old (rw (length_list f 0 m) room)

  zero_at : (i : ℕ) → i < m → get_or zeros i 0 ≡ 0
  zero_at i l =
      get_or-append (replicate m 0) (drop (length (replicate m 0)) old) 0 i (rw length-replicate l)
      ∙ get_or-replicate m i 0 0 l

  same_past : (i : ℕ) → m ≤ i → get_or (written (list_from f 0 m) old) i 0 ≡ get_or zeros i 0
  same_past i l =
      written_past (list_from f 0 m) old i (rw (length_list f 0 m) l)
      ∙ sym (written_past (replicate m 0) old i (rw length-replicate l))

  below_or_past : (i : ℕ) → (i < m) ⊎ (m ≤ i)
  below_or_past i = go (ltb i m) refl
    where
      go : (b : Bool) → ltb i m ≡ b → (i < m) ⊎ (m ≤ i)
      go true e = inl (ltb-true i m e)
      go false e = inr (ltb-false i m e)

  pub numbers_over : relabelled test f zeros ≡ written (list_from f 0 m) old
  numbers_over =
      sym (relabelled_is test f zeros (written (list_from f 0 m) old) (all_length ∙ sym zeros_length)
      (λ i l. go i (below_or_past i)))
    where
      chosen : (i : ℕ) (b : Bool) → test i ≡ b → f i ≡ cond b (f i) 0
      chosen i true e = refl
      chosen i false e = none i e

      go : (i : ℕ) → (i < m) ⊎ (m ≤ i)
          → get_or (written (list_from f 0 m) old) i 0 ≡ cond (test i) (f i) (get_or zeros i 0)
      go i (inl l) = written_at f m i old l ∙ (rw (zero_at i l) (chosen i (test i) refl))
      go i (inr l) = same_past i l ∙ (rw (past i l))

-- ---- labels and basins
module _ (S : Sheet) where
  outside_label : (c : ℕ) → inside S.grid c ≡ false → label_of S c ≡ no_digits
  unfolding label_of
  outside_label c i = go (inside S.grid c) i
    where
      go : (b : Bool) → b ≡ false → cond b (record_of (label_digits S c)) no_digits ≡ no_digits
      go b e = rw e

  place_past : (i : ℕ) → 2 * cells S.grid ≤ i → cells S.grid ≤ place_at i
  unfolding place_at
  place_past i l = omega arith

  pub labels_over : (old : List ℕ) → cells S.grid ≤ label_places (length old)
      → cells_labelled (inside S.grid) (label_of S) (written (replicate (2 * cells S.grid) 0) old)
      ≡ written (labels_of S) old
  unfolding cells_labelled labels_of
  labels_over old room =
      numbers_over (λ i. inside S.grid (place_at i)) (number_in (label_of S)) (2 * cells S.grid) old
      (places_enough (cells S.grid) (length old) room)
      (λ i l. outside_past S.grid (place_at i) (place_past i l))
      (λ i e. number_same (label_of S) (λ c. no_digits) i (outside_label (place_at i) e) ∙ number_twice 0 i)
      ∙ ap (λ (new : List ℕ). written new old) (sym (numbers_listed (label_of S) 0 (cells S.grid)))

  pub basins_over : (old : List ℕ) → cells S.grid ≤ length old
      → relabelled (inside S.grid) (basin_of S.grid) (written (replicate (cells S.grid) 0) old)
      ≡ written (basins_of S.grid) old
  unfolding basins_of
  basins_over old room =
      numbers_over (inside S.grid) (basin_of S.grid) (cells S.grid) old room
      (outside_past S.grid) (basin_outside S.grid)
