-- Cells and sizes, written at the positions of the queued cells.
use mathlib.Core.Path.{◌≡◌, refl, sym, ◌∙◌, subst}
use mathlib.Core.Bool.{Bool, true, false}
use mathlib.Core.List.{List}
use mathlib.Core.Logic.{◌≢◌}
use Prim.Native.Nat.{ℕ, ◌+◌, ◌*◌, ◌<◌}
use native.Mathlib.Omega.{arith}
use lib.Dec.{eqb}
use lib.ListN.{length, get_or, set, length-set}
use lib.Seq.{get_or-set_same, get_or-set_other}
use borrow.Author.Tests.{eqb-true, eqb-false}
use Rattle.upstream.specs.Work.{sizes_part, positions_part, cells_part, ordered_sizes_part, queued_at, size_at}
use Rattle.order.specs.Places.{position_at, entered, Apart, Entered}

-- what holds before step i, and of step i, holds before step i + 1
pub step_cases : {P : ℕ → Type 0} (i : ℕ) → ((j : ℕ) → j < i → P j) → P i → (j : ℕ) → j < i + 1 → P j
step_cases {P} i f p j l = go (eqb j i) refl
  where
    go : (b : Bool) → eqb j i ≡ b → P j
    go true t = subst P (sym (eqb-true j i t)) p
    go false t = let d : j ≡ i → ⊥ = eqb-false j i t in f j (omega arith)

pub entered_none : {n : ℕ} {work : List ℕ} → Entered n work work 0
entered_none =
    record { kept = λ j c d. refl; cell_is = λ j l. absurd (omega arith); size_is = λ j l. absurd (omega arith) }

module _ {n queued : ℕ} {work₀ work : List ℕ} (A : Apart n work₀ queued) (same : length work ≡ length work₀) {i : ℕ}
    (E : Entered n work₀ work i) (l : i < queued) where
  abbrev cell : ℕ
  cell = queued_at work₀ i

  abbrev at : ℕ
  at = position_at n work₀ cell

  -- the queue, positions and sizes are as at the start
  pub cell_kept : queued_at work i ≡ cell
  cell_kept = E.kept i (λ k h e. omega (arith, A.most)) (λ k h e. omega (arith, A.most))

  pub at_kept : position_at n work (queued_at work i) ≡ at
  at_kept =
      rw cell_kept
      (E.kept (positions_part * n + cell) (λ k h e. omega (arith, A.on i l)) (λ k h e. omega (arith, A.on i l)))

  pub size_kept : size_at n work (queued_at work i) ≡ size_at n work₀ cell
  size_kept =
      rw cell_kept
      (E.kept (sizes_part * n + cell) (λ k h e. omega (arith, A.on i l)) (λ k h e. omega (arith, A.on i l)))

  abbrev after : List ℕ
  after = set (set work (cells_part * n + at) cell) (ordered_sizes_part * n + at) (size_at n work₀ cell)

  entered_is : entered n work (queued_at work i) ≡ after
  unfolding entered
  entered_is = rw (at_kept, size_kept, cell_kept)

  -- a place that is none of the two
  elsewhere : (j : ℕ) → (j ≡ cells_part * n + at → ⊥) → (j ≡ ordered_sizes_part * n + at → ⊥)
      → get_or after j 0 ≡ get_or work j 0
  elsewhere j d e =
      get_or-set_other (set work (cells_part * n + at) cell) (ordered_sizes_part * n + at) j
      (size_at n work₀ cell) 0 e ∙ get_or-set_other work (cells_part * n + at) j cell 0 d

  -- an earlier cell's position is another
  other : (j : ℕ) → j < i → position_at n work₀ (queued_at work₀ j) ≢ at
  other j h e = let s = A.apart j i (omega arith) l e in omega arith

  after_entered : Entered n work₀ after (i + 1)
  after_entered = record {
    kept = λ j c s.
        elsewhere j (c i (omega arith)) (s i (omega arith))
        ∙ E.kept j (λ k h. c k (omega arith)) (λ k h. s k (omega arith));
    cell_is =
        step_cases i
        (λ j h. let b = A.below j (omega arith) in let o = other j h in elsewhere _ (λ e. omega arith)
        (λ e. omega arith) ∙ E.cell_is j h)
        (get_or-set_other (set work (cells_part * n + at) cell) (ordered_sizes_part * n + at) (cells_part * n + at)
        (size_at n work₀ cell) 0 (λ e. omega (arith, A.below i l))
        ∙ get_or-set_same work (cells_part * n + at) cell 0 (omega (arith, A.below i l, A.room)));
    size_is =
        step_cases i
        (λ j h. let b = A.below j (omega arith) in let k = A.below i l in let o = other j h in elsewhere _
        (λ e. omega arith) (λ e. omega arith) ∙ E.size_is j h)
        (get_or-set_same (set work (cells_part * n + at) cell) (ordered_sizes_part * n + at) (size_at n work₀ cell) 0 (omega (
          arith,
          A.below i l,
          A.room,
          length-set work (cells_part * n + at) cell,
        )));
  }

  pub entered_more : Entered n work₀ (entered n work (queued_at work i)) (i + 1)
  entered_more = rw entered_is after_entered
