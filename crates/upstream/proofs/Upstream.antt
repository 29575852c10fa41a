-- Laws of the queue of a sheet: its cells, their receivers, and a push.
use mathlib.Core.Path.{◌≡◌, refl, sym, ◌∙◌, ap, subst}
use mathlib.Core.Bool.{Bool, true, false, cond, true≢false}
use mathlib.Core.List.{List}
use Prim.Native.Nat.{ℕ, ◌+◌, ◌-◌, ◌<◌}
use native.Mathlib.Decide.{ℕ_discrete}
use native.Mathlib.Numerals.{add-one}
use native.Mathlib.Omega.{arith}
use Rattle.sheet.specs.Sheet.{Grid, cells, inside, is_outlet, goes_nowhere, next}
use Rattle.sheet.specs.Water.{Passes, here, there}
use Rattle.sheet.proofs.Cells.{inside_lt, next_goes, next_to_lt}
use Rattle.upstream.specs.Work.{queued_at, rank_of, receiver_of, numbered, pushed}
use Rattle.upstream.specs.Search.{Before, Upstream}
use Rattle.upstream.proofs.Queues.{place_on, end_on, grown_push, queue_push, push_place, push_receiver}
use Rattle.upstream.proofs.Queues.{push_receiver_other}
use Rattle.sheet.specs.Answer.{Next}
use Rattle.std.specs.Prelude.{None, Some}

-- ---- receivers as numbers

pub numbered_to : (x : Next) (r : ℕ) → numbered x ≡ r + 1 → x ≡ Some r
numbered_to None r e = absurd (omega arith)
numbered_to (Some s) r e = let z : s ≡ r = omega arith in ap Some z

pub to_numbered : {x : Next} {r : ℕ} → x ≡ Some r → numbered x ≡ r + 1
to_numbered {r = r} e = ap numbered e ∙ sym (add-one r)

-- ---- cells

-- an outlet is inside, and its water goes nowhere
pub outlet_is : (G : Grid) (c : ℕ) → is_outlet G c ≡ true → (inside G c ≡ true) × (next G c ≡ None)
unfolding is_outlet
outlet_is G c e = go (inside G c) (next G c) refl refl e
  where
    go : (b : Bool) (x : Next) → inside G c ≡ b → next G c ≡ x → cond b (goes_nowhere x) false ≡ true
        → (inside G c ≡ true) × (next G c ≡ None)
    go true None i n e = (i, n)
    go true (Some r) i n e = absurd (true≢false (sym e))
    go false x i n e = absurd (true≢false (sym e))

pub outlet_lt : (G : Grid) (c : ℕ) → is_outlet G c ≡ true → c < cells G
outlet_lt G c e = inside_lt G c (outlet_is G c e).0

-- the way of a cell of the sheet stays on the sheet
pub way_on : (G : Grid) {c x : ℕ} → c < cells G → Passes (next G) c x → x < cells G
way_on G l here = l
way_on G l (there {q = q} e h) = way_on G (next_to_lt G q e) h

-- and that of an inside cell inside
pub way_inside : (G : Grid) {c x : ℕ} → inside G c ≡ true → Passes (next G) c x → inside G x ≡ true
way_inside G i here = i
way_inside G i (there {q = q} e h) = way_inside G (next_goes G q e).to_inside h

-- ---- the cells of a queue

module _ {G : Grid} {work : List ℕ} {queued : ℕ} (u : Upstream G work queued) where
  -- the cell that the water of a queued cell goes to stands before it
  pub next_before : (i r : ℕ) → i < queued → next G (queued_at work i) ≡ Some r → Before (cells G) work i r
  next_before i r l e = (u.queue.item i l).before r (u.receiver i l ∙ to_numbered e)

  module _ (c : ℕ) (on : c < cells G) (reached : 0 < rank_of (cells G) work c) where
    pub inside_of : inside G c ≡ true
    inside_of =
        subst (λ (x : ℕ). inside G x ≡ true) (u.queue.stands c on reached).place
        (u.is_inside_lem (rank_of (cells G) work c - 1) (place_on u.queue c on reached))

    pub receiver_of_lem : receiver_of (cells G) work c ≡ numbered (next G c)
    receiver_of_lem =
        subst (λ (x : ℕ). receiver_of (cells G) work x ≡ numbered (next G x)) (u.queue.stands c on reached).place
        (u.receiver (rank_of (cells G) work c - 1) (place_on u.queue c on reached))

-- ---- a push

module _ {G : Grid} {work : List ℕ} {end : ℕ} (u : Upstream G work end) (cell : ℕ) (cell_on : cell < cells G)
    (free : rank_of (cells G) work cell ≡ 0)
    (is-in : inside G cell ≡ true) (before : (r : ℕ) → next G cell ≡ Some r → Before (cells G) work end r) where
  abbrev receiver : ℕ
  receiver = numbered (next G cell)

  abbrev after : List ℕ
  after = pushed (cells G) work end cell receiver

  new_place : queued_at after end ≡ cell
  new_place = push_place (cells G) work end cell receiver u.queue.room (end_on u.queue cell cell_on free) cell_on

  old_place : (i : ℕ) → i < end → queued_at after i ≡ queued_at work i
  old_place i l = (grown_push u.queue cell cell_on free receiver).places i l

  old_receiver : (i : ℕ) → i < end
      → receiver_of (cells G) after (queued_at work i) ≡ receiver_of (cells G) work (queued_at work i)
  old_receiver i l =
      push_receiver_other (cells G) work end cell receiver u.queue.room
      (end_on u.queue cell cell_on free) cell_on (queued_at work i)
      (λ e. let z : rank_of (cells G) work (queued_at work i) ≡ 0 = ap (rank_of (cells G) work) e ∙ free in omega
      (arith, (u.queue.item i l).rank))

  pub upstream_push : Upstream G after (end + 1)
  upstream_push = record {
    queue = queue_push u.queue cell cell_on free receiver (λ r e. before r (numbered_to (next G cell) r e));
    is_inside_lem = λ i l. elim (ℕ_discrete i end) [
      | yes e ↦ rw (e, new_place) is-in
      | no d ↦ let l' : i < end = omega arith in rw (old_place i l') (u.is_inside_lem i l')
    ];
    receiver = λ i l. elim (ℕ_discrete i end) [
      | yes e ↦ rw (e, new_place)
          (push_receiver (cells G) work end cell receiver u.queue.room
          (end_on u.queue cell cell_on free) cell_on)
      | no d ↦ let l' : i < end = omega arith in rw (old_place i l') (old_receiver i l' ∙ u.receiver i l')
    ];
  }
