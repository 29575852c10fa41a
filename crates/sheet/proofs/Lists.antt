-- A slice whose first places are written, and the list of the values of a function at cells.
use mathlib.Core.Path.{◌≡◌, refl, ◌∙◌, ap}
use mathlib.Core.List.{List, ◌++◌}
use Prim.Native.Nat.{ℕ, zero, suc, ◌+◌, ◌≤◌, ◌<◌}
use native.Mathlib.Nat.{zero-add}
use native.Mathlib.Omega.{arith}
use lib.ListN.{length, get_or, drop, get_or-append}
use lib.Seq.{sets, sets-eq}
use Rattle.sheet.specs.Label.{list_from}
use Rattle.sheet.specs.Refusal.{written}

-- the first places set one after the other
pub written_whole : (new old : List ℕ) → length new ≤ length old → sets old 0 new ≡ written new old
written_whole new old l =
    sets-eq new old 0 (omega arith) ∙ ap (λ (k : ℕ). new ++ drop k old) (zero-add (length new))

pub length_list : {A : Type 0} (f : ℕ → A) (i m : ℕ) → length (list_from f i m) ≡ m
unfolding list_from
length_list f i zero = refl
length_list f i (suc m) = ap suc (length_list f (suc i) m)

module _ (f : ℕ → ℕ) where
  pub list_at : (i m k : ℕ) → k < m → get_or (list_from f i m) k 0 ≡ f (i + k)
  unfolding list_from
  list_at i zero k l = absurd (omega arith)
  list_at i (suc m) zero l = ap f (omega arith)
  list_at i (suc m) (suc k) l = list_at (suc i) m k (omega arith) ∙ ap f (omega arith)

  -- what stands for a cell, whatever the slice held before
  pub written_at : (n c : ℕ) (old : List ℕ) → c < n → get_or (written (list_from f 0 n) old) c 0 ≡ f c
  written_at n c old l =
      get_or-append (list_from f 0 n) (drop (length (list_from f 0 n)) old) 0 c
      (rw (length_list f 0 n) l) ∙ list_at 0 n c l ∙ ap f (omega arith)
