-- Positions of cells, written one after the other.
use mathlib.Core.Path.{◌≡◌, refl, sym, ◌∙◌}
use mathlib.Core.List.Memᴰ
use mathlib.Core.List.{List, [], ◌∷◌, map, Memᴰ}
use mathlib.Core.Logic.{◌≢◌}
use Prim.Native.Nat.{ℕ, suc, ◌+◌, ◌*◌, ◌≤◌, ◌<◌, ◌^◌}
use native.Mathlib.Numerals.{add-one}
use native.Mathlib.Omega.{arith}
use lib.ListN.{length, get_or, set, take, drop, length-set}
use lib.Seq.{get_or-set_same, get_or-set_other, length-take-le, get_or-take, drop-cons, drop-length}
use borrow.Author.Tests.{eq-eqb, ne_eqb}
use Rattle.claims.specs.Bounds.{sum}
use Rattle.claims.proofs.GridLaws.{sum_same}
use Rattle.upstream.specs.Work.{receivers_part, sizes_part, positions_part, queued_at, receiver_of, size_at}
use Rattle.order.specs.Positions.{Consecutive, none, next}
use Rattle.order.specs.Places.{position_at, positioned, PositionsFit, first_outlets, OutletsFit}
use Rattle.order.proofs.Ascending.{Ascending, least}
use Rattle.order.proofs.Ascending as asc

-- ---- lists without repetition

-- no number stands twice in the list
pub data Once : List ℕ → Type 0 where
  once_none : Once []
  once_next : {u : ℕ} {us : List ℕ} → (Memᴰ u us → ⊥) → Once us → Once (u ∷ us)

pub ascending_once : {lo : ℕ} {us : List ℕ} → Ascending lo us → Once us
ascending_once asc.none = once_none
ascending_once (asc.next {x = u} l w) = once_next (λ m. let i : suc u ≤ u = least w m in omega arith)
    (ascending_once w)

pub once_map : (f : ℕ → ℕ) (us : List ℕ) → Once (map f us) → Once us
once_map f [] w = once_none
once_map f (u ∷ us) (once_next d w) = once_next (λ m. d (Memᴰ.map f m)) (once_map f us w)

-- ---- a position is written among the sizes

module _ (n : ℕ) (work : List ℕ) (u at : ℕ) where
  -- sizes stay
  pub size_stays : {c : ℕ} → c < n → size_at n (set work (positions_part * n + u) at) c ≡ size_at n work c
  size_stays {c} l = get_or-set_other work (positions_part * n + u) (sizes_part * n + c) at 0 (λ e. omega arith)

pub fitting_next : {n at u : ℕ} {us work : List ℕ} → PositionsFit n at (u ∷ us) work
    → PositionsFit n (at + size_at n work u) us (set work (positions_part * n + u) at)
unfolding sum
fitting_next {n} {at} {u} {us} {work} f = record {
  small = f.small;
  room = simp length-set f.room;
  on = λ v m. f.on v (Memᴰ.tail m);
  fits =
      omega (
        arith,
        f.fits,
        sum_same (size_at n (set work (positions_part * n + u) at)) (size_at n work) us
            (λ v m. size_stays n work u at (f.on v (Memᴰ.tail m))),
      );
}

-- ---- all are written

from_same : {size pos : ℕ → ℕ} {lo at : ℕ} {us : List ℕ} → lo ≡ at → Consecutive size pos lo us
    → Consecutive size pos at us
from_same e w = rw e at w

module _ (n : ℕ) where
  pub positioned_length : (at : ℕ) (us work : List ℕ) → length (positioned n at us work) ≡ length work
  unfolding positioned
  positioned_length at [] work = refl
  positioned_length at (u ∷ us) work =
      positioned_length (at + size_at n work u) us _ ∙ length-set work (positions_part * n + u) at

  -- other places stay
  pub positioned_kept : (at : ℕ) (us work : List ℕ) (j : ℕ) → ((u : ℕ) → Memᴰ u us → j ≢ positions_part * n + u)
      → get_or (positioned n at us work) j 0 ≡ get_or work j 0
  unfolding positioned
  positioned_kept at [] work j h = refl
  positioned_kept at (u ∷ us) work j h =
      positioned_kept (at + size_at n work u) us _ j (λ v m. h v (Memᴰ.tail m)) ∙ get_or-set_other work
      (positions_part * n + u) j at 0 (h u (Memᴰ.head refl))

  -- the cell u has its position, and none of us writes it again
  head_at : (at b u : ℕ) (us work : List ℕ) → u < n → (Memᴰ u us → ⊥) → 8 * n ≤ length work
      → position_at n (positioned n b us (set work (positions_part * n + u) at)) u ≡ at
  head_at at b u us work on d r =
      positioned_kept b us (set work (positions_part * n + u) at) (positions_part * n + u)
      (λ v m e. let s : u ≡ v = omega arith in d (rw s m))
      ∙ get_or-set_same work (positions_part * n + u) at 0 (omega arith)

  pub positioned_follow : (size : ℕ → ℕ) (at : ℕ) (us work : List ℕ) → ((u : ℕ) → Memᴰ u us → u < n) → Once us
      → ((c : ℕ) → c < n → size_at n work c ≡ size c) → 8 * n ≤ length work
      → Consecutive size (position_at n (positioned n at us work)) at us
  unfolding positioned
  positioned_follow size at [] work h once_none s r = none
  positioned_follow size at (u ∷ us) work h (once_next d w) s r =
      let on = h u (Memᴰ.head refl) in
      let i = positioned_follow size (at + size_at n work u) us (set work (positions_part * n + u) at)
      (λ v m. h v (Memᴰ.tail m)) w (λ c k. size_stays n work u at k ∙ s c k) (simp length-set r) in
      next (head_at at _ u us work on d r)
      (from_same (omega (arith, s u on)) i)

-- ---- outlets, one after the other

-- the first i cells of the queue are outlets and have their positions; the next position is `at`
pub record OutletsPlaced (n queued : ℕ) (start work : List ℕ) (at i : ℕ) : Type 0 where
  pub same : length work ≡ length start
  pub kept : (j : ℕ) → j < positions_part * n → get_or work j 0 ≡ get_or start j 0
  pub fit : PositionsFit n at (first_outlets n start (drop i (take queued start))) work
  pub rest : positioned n at (first_outlets n start (drop i (take queued start))) work
      ≡ positioned n 0 (first_outlets n start (take queued start)) start

module _ {n queued : ℕ} {start : List ℕ} (A : OutletsFit n queued start) where
  queue_length : length (take queued start) ≡ queued
  queue_length = length-take-le queued start (omega (arith, A.most, A.fit.room))

  pub outlets_none : OutletsPlaced n queued start start 0 0
  outlets_none = record { same = refl; kept = λ j l. refl; fit = A.fit; rest = refl }

  module _ {work : List ℕ} {at i : ℕ} (P : OutletsPlaced n queued start work at i) where
    -- all queued cells are outlets
    pub outlets_all : i ≡ queued → work ≡ positioned n 0 (first_outlets n start (take queued start)) start
    unfolding positioned first_outlets
    outlets_all e =
        let d : drop i (take queued start) ≡ [] = rw (e ∙ sym queue_length) (drop-length (take queued start)) in
        rw d at P.rest

    module _ (l : i < queued) where
      abbrev cell : ℕ
      cell = queued_at start i

      cell_kept : queued_at work i ≡ cell
      cell_kept = P.kept i (omega (arith, A.most))

      pub cell_on : queued_at work i < n
      cell_on = rw cell_kept (A.on i l)

      receiver_kept : receiver_of n work (queued_at work i) ≡ receiver_of n start cell
      receiver_kept = rw cell_kept (P.kept (receivers_part * n + cell) (omega (arith, A.on i l)))

      split : drop i (take queued start) ≡ cell ∷ drop (i + 1) (take queued start)
      split =
          drop-cons (take queued start) i 0 (omega (arith, queue_length)) ∙ rw (get_or-take queued start i 0 l, add-one i)

      -- the cell has a receiver: those before it are all outlets
      pub outlets_end : 0 < receiver_of n work (queued_at work i)
          → work ≡ positioned n 0 (first_outlets n start (take queued start)) start
      unfolding positioned first_outlets
      outlets_end h =
          rw (split, ne_eqb (receiver_of n start cell) 0 (λ e. omega (arith, receiver_kept))) at P.rest

      -- the cell is an outlet
      module _ (none-on : receiver_of n work (queued_at work i) ≡ 0) where
        abbrev more : List ℕ
        more = first_outlets n start (drop (i + 1) (take queued start))

        first_is : first_outlets n start (drop i (take queued start)) ≡ queued_at work i ∷ more
        unfolding first_outlets
        first_is = rw (split, eq-eqb (receiver_of n start cell) 0 (sym receiver_kept ∙ none-on), cell_kept)

        fitted : PositionsFit n at (queued_at work i ∷ more) work
        fitted = rw first_is at P.fit

        -- its position is written
        abbrev later : List ℕ
        later = set work (positions_part * n + queued_at work i) at

        size_kept : size_at n later (queued_at work i) ≡ size_at n work (queued_at work i)
        size_kept = size_stays n work (queued_at work i) at cell_on

        pub next_fits : at + size_at n later (queued_at work i) < 2 ^ 32
        unfolding sum
        next_fits = omega (arith, fitted.fits, size_kept)

        pub outlets_more : OutletsPlaced n queued start later (at + size_at n later (queued_at work i)) (i + 1)
        unfolding positioned
        outlets_more = rw size_kept (record {
          same = length-set work (positions_part * n + queued_at work i) at ∙ P.same;
          kept = λ j h.
              get_or-set_other work (positions_part * n + queued_at work i) j at 0 (λ e. omega arith) ∙ P.kept j h;
          fit = fitting_next fitted;
          rest = rw first_is at P.rest;
        })
