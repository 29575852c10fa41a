-- Laws of the queue: what a push stores, and that it keeps the queue.
use mathlib.Core.Path.{◌≡◌, refl, sym, ◌∙◌, ap}
use mathlib.Core.Bool.{true, false}
use mathlib.Core.List.{List}
use mathlib.Core.Logic.{◌≢◌}
use Prim.Native.Nat.{ℕ, ◌+◌, ◌*◌, ◌-◌, ◌<◌, ◌≤◌}
use native.Mathlib.Decide.{ℕ_discrete}
use native.Mathlib.Omega.{arith}
use lib.Dec.{ltb}
use lib.ListN.{length, set, length-set}
use lib.Seq.{get_or-set_same, get_or-set_other, drop-set-lt}
use borrow.Author.Tests.{lt-ltb, le-ltb}
use Rattle.claims.proofs.Counts.{count_le, count_less}
use Rattle.claims.proofs.Sums.{count_more}
use Rattle.upstream.specs.Work.{ranks_part, receivers_part, sizes_part, queued_at, rank_of, receiver_of, is_reached}
use Rattle.upstream.specs.Work.{pushed, KeptFrom}
use Rattle.upstream.specs.Search.{Before, Item, Stands, Queue}
use Rattle.upstream.specs.Growth.{Grown}

-- ---- the three stores of a push

module _ (n : ℕ) (work : List ℕ) (end cell receiver : ℕ) (room : sizes_part * n ≤ length work) (end_on : end < n)
    (cell_on : cell < n) where
  pub push_long : length (pushed n work end cell receiver) ≡ length work
  unfolding pushed
  push_long = simp length-set

  pub push_place : queued_at (pushed n work end cell receiver) end ≡ cell
  unfolding pushed
  push_place =
      get_or-set_other (set (set work end cell) (ranks_part * n + cell) (end + 1))
      (receivers_part * n + cell) end receiver 0 (λ e. omega arith)
      ∙ get_or-set_other (set work end cell) (ranks_part * n + cell) end (end + 1) 0 (λ e. omega arith)
      ∙ get_or-set_same work end cell 0 (omega arith)

  pub push_place_other : (i : ℕ) → i < n → i ≢ end → queued_at (pushed n work end cell receiver) i ≡ queued_at work i
  unfolding pushed
  push_place_other i l d =
      get_or-set_other (set (set work end cell) (ranks_part * n + cell) (end + 1)) (receivers_part * n + cell) i receiver 0
      (λ e. omega arith)
      ∙ get_or-set_other (set work end cell) (ranks_part * n + cell) i (end + 1) 0 (λ e. omega arith)
      ∙ get_or-set_other work end i cell 0 d

  pub push_rank : rank_of n (pushed n work end cell receiver) cell ≡ end + 1
  unfolding pushed
  push_rank =
      get_or-set_other (set (set work end cell) (ranks_part * n + cell) (end + 1)) (receivers_part * n + cell)
      (ranks_part * n + cell) receiver 0 (λ e. omega arith)
      ∙ get_or-set_same (set work end cell) (ranks_part * n + cell) (end + 1) 0 (simp length-set (omega arith))

  pub push_rank_other : (c : ℕ) → c < n → c ≢ cell → rank_of n (pushed n work end cell receiver) c ≡ rank_of n work c
  unfolding pushed
  push_rank_other c l d =
      get_or-set_other (set (set work end cell) (ranks_part * n + cell) (end + 1)) (receivers_part * n + cell)
      (ranks_part * n + c) receiver 0 (λ e. omega arith)
      ∙ get_or-set_other (set work end cell) (ranks_part * n + cell) (ranks_part * n + c) (end + 1) 0 (λ e. d (omega arith))
      ∙ get_or-set_other work end (ranks_part * n + c) cell 0 (λ e. omega arith)

  pub push_receiver : receiver_of n (pushed n work end cell receiver) cell ≡ receiver
  unfolding pushed
  push_receiver =
      get_or-set_same (set (set work end cell) (ranks_part * n + cell) (end + 1)) (receivers_part * n + cell) receiver 0
      (simp length-set (omega arith))

  pub push_receiver_other : (c : ℕ) → c ≢ cell → receiver_of n (pushed n work end cell receiver) c ≡ receiver_of n work c
  unfolding pushed
  push_receiver_other c d =
      get_or-set_other (set (set work end cell) (ranks_part * n + cell) (end + 1)) (receivers_part * n + cell)
      (receivers_part * n + c) receiver 0 (λ e. d (omega arith))
      ∙ get_or-set_other (set work end cell) (ranks_part * n + cell) (receivers_part * n + c) (end + 1) 0 (λ e. omega arith)
      ∙ get_or-set_other work end (receivers_part * n + c) cell 0 (λ e. omega arith)

  pub push_kept : KeptFrom (sizes_part * n) work (pushed n work end cell receiver)
  unfolding pushed
  push_kept =
      drop-set-lt (sizes_part * n) (set (set work end cell) (ranks_part * n + cell) (end + 1))
      (receivers_part * n + cell) receiver (omega arith)
      ∙ drop-set-lt (sizes_part * n) (set work end cell) (ranks_part * n + cell) (end + 1) (omega arith)
      ∙ drop-set-lt (sizes_part * n) work end cell (omega arith)

-- ---- the cells of a queue

pub reached_yes : (n : ℕ) (work : List ℕ) (c : ℕ) → 0 < rank_of n work c → is_reached n work c ≡ true
reached_yes n work c l = lt-ltb 0 (rank_of n work c) l

pub reached_no : (n : ℕ) (work : List ℕ) (c : ℕ) → rank_of n work c ≡ 0 → is_reached n work c ≡ false
reached_no n work c e = le-ltb 0 (rank_of n work c) (omega arith)

module _ {n : ℕ} {work : List ℕ} {queued : ℕ} (q : Queue n work queued) where
  pub queued_most : queued ≤ n
  queued_most = omega (arith, q.counted, count_le n (is_reached n work))

  -- the place of a reached cell
  pub place_on : (c : ℕ) → c < n → 0 < rank_of n work c → rank_of n work c - 1 < queued
  place_on c l r = omega (arith, (q.stands c l r).most)

  -- the receiver of a reached cell stands before it
  pub before_of : (c r : ℕ) → c < n → 0 < rank_of n work c → receiver_of n work c ≡ r + 1
      → Before n work (rank_of n work c - 1) r
  before_of c r l h e =
      let s = (q.stands c l h).place in
      (q.item (rank_of n work c - 1) (place_on c l h)).before r (ap (receiver_of n work) s ∙ e)

  -- no two cells have one rank
  pub rank_once : (c d : ℕ) → c < n → d < n → 0 < rank_of n work c → rank_of n work c ≡ rank_of n work d → c ≡ d
  rank_once c d l k h e =
      sym (q.stands c l h).place ∙ ap (λ (i : ℕ). queued_at work (i - 1)) e ∙ (q.stands d k (omega arith)).place

-- ---- a push keeps the queue

before_kept : {n : ℕ} {work work' : List ℕ} {i r : ℕ}
    → ((c : ℕ) → c < n → 0 < rank_of n work c → rank_of n work' c ≡ rank_of n work c) → Before n work i r
    → Before n work' i r
before_kept {r = r} kept b = let e = kept r b.on
    b.reached in record { on = b.on; reached = omega (arith, b.reached); earlier = omega (arith, b.earlier) }

pub item_at : (n : ℕ) (work : List ℕ) (i c : ℕ) → queued_at work i ≡ c → c < n → rank_of n work c ≡ i + 1
    → ((r : ℕ) → receiver_of n work c ≡ r + 1 → Before n work i r) → Item n work i
item_at n work i c e l r b =
    record { on = rw e l; rank = rw e r; before = λ s k. b s (ap (receiver_of n work) (sym e) ∙ k) }

module _ {n : ℕ} {work : List ℕ} {end : ℕ} (q : Queue n work end) (cell : ℕ) (cell_on : cell < n)
    (free : rank_of n work cell ≡ 0) where
  pub end_on : end < n
  end_on =
      omega (
        arith,
        q.counted,
        count_le n (λ c. true),
        count_less n (λ c. true) (is_reached n work) (λ c e. refl) cell refl (reached_no n work cell free) cell_on,
      )

  other : (c : ℕ) → 0 < rank_of n work c → c ≢ cell
  other c h e = let z : rank_of n work c ≡ 0 = ap (rank_of n work) e ∙ free in omega arith

  module _ (receiver : ℕ) where
    abbrev after : List ℕ
    after = pushed n work end cell receiver

    rank_kept : (c : ℕ) → c < n → 0 < rank_of n work c → rank_of n after c ≡ rank_of n work c
    rank_kept c l h = push_rank_other n work end cell receiver q.room end_on cell_on c l (other c h)

    pub grown_push : Grown n work end after (end + 1)
    grown_push = record {
      more = omega arith;
      ranks = rank_kept;
      places =
          λ i l. push_place_other n work end cell receiver q.room end_on cell_on i (omega (arith, end_on))
          (λ e. omega arith);
      kept = push_kept n work end cell receiver q.room end_on cell_on;
    }

    module _ (before : (r : ℕ) → receiver ≡ r + 1 → Before n work end r) where
      new_item : Item n after end
      new_item =
          item_at n after end cell (push_place n work end cell receiver q.room end_on cell_on) cell_on
          (push_rank n work end cell receiver q.room end_on cell_on)
          (λ r e. before_kept rank_kept
          (before r (sym (push_receiver n work end cell receiver q.room end_on cell_on) ∙ e)))

      old_item : (i : ℕ) → i < end → Item n after i
      old_item i l =
          let t = q.item i l in
          let c = queued_at work i in
          let h : 0 < rank_of n work c = omega (arith, t.rank) in
          item_at n after i c (grown_push.places i l) t.on (rank_kept c t.on h ∙ t.rank)
          (λ r e. before_kept rank_kept
          (t.before r (sym (push_receiver_other n work end cell receiver q.room end_on cell_on c (other c h)) ∙ e)))

      new_stands : Stands n after (end + 1) cell
      new_stands =
          let r = push_rank n work end cell receiver q.room end_on cell_on in
          let e : rank_of n after cell - 1 ≡ end = omega arith in
          record { most = omega arith; place = rw e (push_place n work end cell receiver q.room end_on cell_on) }

      old_stands : (c : ℕ) → c < n → c ≢ cell → 0 < rank_of n after c → Stands n after (end + 1) c
      old_stands c l d h =
          let e = push_rank_other n work end cell receiver q.room end_on cell_on c l d in
          let s = q.stands c l (omega arith) in
          record {
            most = omega (arith, s.most);
            place = rw e
                (grown_push.places (rank_of n work c - 1) (omega (arith, s.most)) ∙ s.place);
          }

      pub queue_push : Queue n after (end + 1)
      queue_push = record {
        room = omega (arith, q.room, push_long n work end cell receiver q.room end_on cell_on);
        counted =
            ap (λ (k : ℕ). k + 1) q.counted
            ∙ sym (count_more n (is_reached n work) (is_reached n after) cell cell_on (reached_no n work cell free)
            (reached_yes n after cell (omega (arith, push_rank n work end cell receiver q.room end_on cell_on)))
            (λ c l d. ap (λ (r : ℕ). ltb 0 r)
            (push_rank_other n work end cell receiver q.room end_on cell_on c l d)));
        item = λ i l. elim (ℕ_discrete i end) [ yes e ↦ rw e new_item | no d ↦ old_item i (omega arith) ];
        stands = λ c l h. elim (ℕ_discrete c cell) [ yes e ↦ rw e new_stands | no d ↦ old_stands c l d h ];
      }
