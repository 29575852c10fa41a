-- Laws of the table of steps: each is short, a code's step stands in it, no code stands twice, and the step back is
-- four entries on.
use mathlib.Core.Path.{◌≡◌, refl, sym, ◌∙◌, ap, subst}
use mathlib.Core.Bool.{Bool, true, false, cond}
use mathlib.Core.List.{List, [], ◌∷◌}
use mathlib.Core.Logic.{◌⊎◌, inl, inr, ⊎_elim}
use Prim.Native.Nat.{ℕ, zero, suc, ◌+◌, ◌%◌, ◌<◌}
use native.Mathlib.Decide.{dec_lt}
use native.Mathlib.Numerals.{add-one}
use native.Mathlib.Omega.{arith}
use lib.Dec.{eqb, ltb}
use lib.IntN.{neg_ℤ}
use lib.ListN.{get_or, length, drop, get_or-eq_default}
use lib.Seq.{drop-cons}
use lib.Signed.{mag}
use borrow.Author.Tests.{ltb-true, eqb-true}
use Rattle.sheet.specs.declared.Step.{Step}
use Rattle.sheet.specs.Direction.{steps, no_step, step_in, step_of, is_code}
use Rattle.directions.specs.Steps.{step_at, Short}

-- a rule of the table from its eight entries
at_each : (P : ℕ → Type 0) → P 0 → P 1 → P 2 → P 3 → P 4 → P 5 → P 6 → P 7 → (k : ℕ) → k < 8 → P k
at_each P a b c d e f g h zero l = a
at_each P a b c d e f g h (suc zero) l = b
at_each P a b c d e f g h (suc (suc zero)) l = c
at_each P a b c d e f g h (suc (suc (suc zero))) l = d
at_each P a b c d e f g h (suc (suc (suc (suc zero)))) l = e
at_each P a b c d e f g h (suc (suc (suc (suc (suc zero))))) l = f
at_each P a b c d e f g h (suc (suc (suc (suc (suc (suc zero)))))) l = g
at_each P a b c d e f g h (suc (suc (suc (suc (suc (suc (suc zero))))))) l = h
at_each P a b c d e f g h (suc (suc (suc (suc (suc (suc (suc (suc k)))))))) l = absurd (omega arith)

-- ---- a code's step

-- one more step of the table is tried
pub step_in_lem : (k code : ℕ) → k < 8
    → step_in (drop k steps) code ≡ cond (eqb (step_at k).code code) (step_at k) (step_in (drop (k + 1) steps) code)
unfolding step_in
step_in_lem k code h = rw (add-one k, drop-cons steps k no_step h)

abbrev InTable : List Step → Step → Type 0
InTable l s = (k : ℕ) × (k < length l) × (s ≡ get_or l k no_step)

in_found : (l : List Step) (code : ℕ) → InTable l (step_in l code) ⊎ (step_in l code ≡ no_step)
unfolding step_in
in_found [] code = inr refl
in_found (s ∷ ss) code = go (eqb s.code code) (in_found ss code)
  where
    go : (b : Bool) → InTable ss (step_in ss code) ⊎ (step_in ss code ≡ no_step)
        → InTable (s ∷ ss) (cond b s (step_in ss code)) ⊎ (cond b s (step_in ss code) ≡ no_step)
    go true h = inl (0, omega arith, refl)
    go false h = ⊎_elim (λ t. inl (suc t.0, omega arith, t.2)) (λ e. inr e) h

-- the step of a byte stands in the table, or stays in place
pub step_found : (code : ℕ) → ((k : ℕ) × (k < 8) × (step_of code ≡ step_at k)) ⊎ (step_of code ≡ no_step)
unfolding step_of
step_found code = in_found steps code

-- the step of a code other than 0 stands in the table, under that code
pub code_found : (code : ℕ) → is_code code ≡ true → (code ≡ 0 → ⊥)
    → (k : ℕ) × (k < 8) × (step_of code ≡ step_at k) × (code ≡ (step_at k).code)
unfolding is_code
code_found code is ne =
    let own : (step_of code).code ≡ code = eqb-true (step_of code).code code is in
    ⊎_elim (λ t. (
      t.0,
      t.1,
      t.2,
      sym own ∙ ap (λ (s : Step). s.code) t.2,
    )) (λ e. absurd (ne (sym own ∙ ap (λ (s : Step). s.code) e)))
    (step_found code)

-- ---- the entries

short : {s : Step} → ltb (mag s.row) 2 ≡ true → ltb (mag s.col) 2 ≡ true → Short s
short {s} r c = record { rows = ltb-true (mag s.row) 2 r; cols = ltb-true (mag s.col) 2 c }

each_short : (k : ℕ) → k < 8 → Short (step_at k)
each_short =
    at_each (λ k. Short (step_at k)) (short refl refl) (short refl refl) (short refl refl) (short refl refl)
    (short refl refl) (short refl refl)
    (short refl refl) (short refl refl)

pub table_short : (k : ℕ) → Short (step_at k)
table_short k =
    elim (dec_lt k 8) [
      | yes h ↦ each_short k h
      | no n ↦ subst Short (sym (get_or-eq_default steps no_step {n = k} (omega arith))) (short refl refl)
    ]

pub step_short : (code : ℕ) → Short (step_of code)
step_short code =
    ⊎_elim (λ t. subst Short (sym t.2) (table_short t.0)) (λ e. subst Short (sym e) (short refl refl))
    (step_found code)

-- the step of an entry's code is that entry
pub table_step : (k : ℕ) → k < 8 → step_of (step_at k).code ≡ step_at k
unfolding step_of
table_step = at_each (λ k. step_of (step_at k).code ≡ step_at k) refl refl refl refl refl refl refl refl

-- no code of the table is 0
pub code_positive : (k : ℕ) → k < 8 → 0 < (step_at k).code
code_positive =
    at_each (λ k. 0 < (step_at k).code) (omega arith) (omega arith) (omega arith) (omega arith) (omega arith)
    (omega arith) (omega arith) (omega arith)

-- the entry with a code
abbrev entry_of : List Step → ℕ → ℕ
entry_of [] code = 0
entry_of (s ∷ ss) code = cond (eqb s.code code) 0 (suc (entry_of ss code))

code_entry : (k : ℕ) → k < 8 → entry_of steps (step_at k).code ≡ k
code_entry = at_each (λ k. entry_of steps (step_at k).code ≡ k) refl refl refl refl refl refl refl refl

-- no code stands twice
pub code_once : (j k : ℕ) → j < 8 → k < 8 → (step_at j).code ≡ (step_at k).code → j ≡ k
code_once j k h l e = sym (code_entry j h) ∙ ap (entry_of steps) e ∙ code_entry k l

-- ---- the step back

-- o is the step back of s
pub record Opposite (s o : Step) : Type 0 where
  pub row : o.row ≡ neg_ℤ s.row
  pub col : o.col ≡ neg_ℤ s.col

abbrev pub back : ℕ → ℕ
back k = (k + 4) % 8

pub back_lt : (k : ℕ) → back k < 8
back_lt k = omega arith

back_back : (k : ℕ) → k < 8 → back (back k) ≡ k
back_back = at_each (λ k. back (back k) ≡ k) refl refl refl refl refl refl refl refl

opposite : {s o : Step} → o.row ≡ neg_ℤ s.row → o.col ≡ neg_ℤ s.col → Opposite s o
opposite r c = record { row = r; col = c }

pub back_opposite : (k : ℕ) → k < 8 → Opposite (step_at k) (step_at (back k))
back_opposite =
    at_each (λ k. Opposite (step_at k) (step_at (back k))) (opposite refl refl) (opposite refl refl) (opposite refl refl)
    (opposite refl refl)
    (opposite refl refl) (opposite refl refl) (opposite refl refl) (opposite refl refl)

pub opposite_back : (k : ℕ) → k < 8 → Opposite (step_at (back k)) (step_at k)
opposite_back k h =
    subst (λ (j : ℕ). Opposite (step_at (back k)) (step_at j)) (back_back k h) (back_opposite (back k) (back_lt k))
