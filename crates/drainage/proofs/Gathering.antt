-- The totals while they are gathered, from the end of the queue to its start: those of the ways whose steps are the
-- cells passed so far.
use mathlib.Core.Path.{◌≡◌, refl, sym, ◌∙◌, ap}
use mathlib.Core.Bool.{Bool, true, false, cond}
use mathlib.Core.List.{List, [], ◌∷◌, ◌++◌}
use mathlib.Core.Logic.{◌≢◌}
use Prim.Native.Nat.{ℕ, zero, suc, ◌+◌, ◌-◌, ◌<◌, ◌≤◌, ◌^◌}
use native.Mathlib.Decide.{ℕ_discrete, dec_lt}
use native.Mathlib.Numerals.{add-one}
use native.Mathlib.Omega.{arith}
use lib.Dec.{ltb, eqb}
use lib.ListN.{get_or, length, set, take, length-append, length-set}
use lib.Seq.{get_or-set_same, get_or-set_other, drop-set-lt, get_or-take, take_at}
use Rattle.std.proofs.lemmas.Grind.{common_steps}
use borrow.Author.Tests.{lt-ltb, le-ltb}
use Rattle.sheet.specs.Water.{passes, onward}
use Rattle.sheet.specs.Refusal.{written}
use Rattle.sheet.proofs.Cells.{outlet_not_to}
use Rattle.upstream.specs.Work.{queued_at, rank_of, receiver_of, next_of_number, KeptFrom}
use Rattle.upstream.specs.Search.{Item, Queue}
use Rattle.drainage.specs.Total.{total, next_in, value_at, Gathers, Adds, totals_in, added}
use Rattle.claims.proofs.Sums.{sum_same, sum_one, sum_most}
use Rattle.upstream.proofs.Queues.{before_of, rank_once}
use Rattle.drainage.proofs.Lists.{written_from_lem}
use Rattle.drainage.proofs.Ways.{Stays, Opens, total_same, total_kept, total_more}
use Rattle.sheet.specs.Answer.{Next}
use Rattle.std.specs.Prelude.{None, Some}

-- the water of the cells of rank over i goes to their receivers, that of the others nowhere
unfoldable pub cut_at : ℕ → List ℕ → ℕ → ℕ → Next
cut_at n work i q = cond (ltb i (rank_of n work q)) (next_of_number (receiver_of n work q)) None

number_to : (v r : ℕ) → next_of_number v ≡ Some r → v ≡ r + 1
number_to zero r e = absurd (outlet_not_to e)
number_to (suc v) r e = let z : v ≡ r = cc in omega arith

module _ (n : ℕ) (work : List ℕ) where
  cut_shut : (i q : ℕ) → rank_of n work q ≤ i → cut_at n work i q ≡ None
  unfolding cut_at
  cut_shut i q l = rw (le-ltb i (rank_of n work q) l)

  cut_open : (i q : ℕ) → i < rank_of n work q → cut_at n work i q ≡ next_of_number (receiver_of n work q)
  unfolding cut_at
  cut_open i q l = rw (lt-ltb i (rank_of n work q) l)

  cut_none : next_in n work ≡ cut_at n work 0
  unfolding cut_at next_in
  cut_none = refl

module _ {n : ℕ} {work : List ℕ} {queued : ℕ} (q : Queue n work queued) where
  pub cut_stays : (i : ℕ) → Stays n (cut_at n work i)
  cut_stays i c r l e = elim (dec_lt i (rank_of n work c)) [
    | yes h ↦ (before_of q c r l (omega arith) (number_to (receiver_of n work c) r (sym (cut_open n work i c h) ∙ e))).on
    | no h ↦ absurd (outlet_not_to (sym (cut_shut n work i c (omega arith)) ∙ e))
  ]

  -- ---- at the end of the queue no step is taken

  all_shut : (c : ℕ) → c < n → cut_at n work queued c ≡ None
  all_shut c l =
      cut_shut n work queued c
      (elim (ℕ_discrete (rank_of n work c) 0) [ yes e ↦ omega arith | no d ↦ (q.stands c l (omega arith)).most ])

  only_itself : (k p c : ℕ) → p < n → 0 < k → passes (cut_at n work queued) k p c ≡ eqb p c
  unfolding passes onward
  only_itself zero p c h z = absurd (omega arith)
  only_itself (suc k) p c h z = rw (all_shut p h) (test (eqb p c))
    where
      test : (b : Bool) → cond b true false ≡ b
      test true = refl
      test false = refl

  pub total_start : (f : ℕ → ℕ) (c : ℕ) → c < n → total n (cut_at n work queued) f c ≡ f c
  unfolding total
  total_start f c l =
      sum_same n (λ p. passes (cut_at n work queued) n p c) (λ p. eqb p c) f f
      (λ p h. only_itself n p c h (omega arith)) (λ p h. refl)
      ∙ sum_one n c f l

  -- ---- the place i takes one step more: that of the cell x

  module _ (i : ℕ) (on : i < queued) where
    abbrev x : ℕ
    x = queued_at work i

    item : Item n work i
    item = q.item i on

    cut_other : (c : ℕ) → c < n → c ≢ x → cut_at n work i c ≡ cut_at n work (i + 1) c
    cut_other c l d = elim (dec_lt i (rank_of n work c)) [
      | yes h ↦
          let ne : rank_of n work c ≢ i + 1 = λ e. d
          (rank_once q c x l item.on (omega arith) (e ∙ sym item.rank)) in
          cut_open n work i c h ∙ sym (cut_open n work (i + 1) c (omega arith))
      | no h ↦ cut_shut n work i c (omega arith) ∙ sym (cut_shut n work (i + 1) c (omega arith))
    ]

    x_shut : cut_at n work (i + 1) x ≡ None
    x_shut = cut_shut n work (i + 1) x (omega (arith, item.rank))

    x_open : cut_at n work i x ≡ next_of_number (receiver_of n work x)
    x_open = cut_open n work i x (omega (arith, item.rank))

    -- an outlet
    none_opens : receiver_of n work x ≡ 0 → (f : ℕ → ℕ) (c : ℕ)
        → total n (cut_at n work i) f c ≡ total n (cut_at n work (i + 1)) f c
    none_opens e = total_same (cut_stays (i + 1)) (λ c l. elim (ℕ_discrete c x) [
      | yes z ↦ rw z (x_open ∙ ap next_of_number e ∙ sym x_shut)
      | no d ↦ cut_other c l d
    ])

    opens : (t : ℕ) → receiver_of n work x ≡ t + 1 → Opens n (cut_at n work (i + 1)) (cut_at n work i) x t
    opens t e =
        let b = item.before t e in
        record {
          stay = cut_stays (i + 1);
          x_on = item.on;
          t_on = b.on;
          x_shut = x_shut;
          t_shut = cut_shut n work (i + 1) t (omega (arith, b.earlier));
          apart =
              λ z. let s : rank_of n work t ≡ rank_of n work x =
              ap (rank_of n work) z in omega (arith, item.rank, b.earlier);
          opened = x_open ∙ ap next_of_number (e ∙ add-one t);
          same = cut_other;
        }

-- ---- one addition

pub added_none : (totals : List ℕ) (c v : ℕ) → v ≡ 0 → totals ≡ added v totals c
unfolding added
added_none totals c v e = rw e

pub added_some : (totals : List ℕ) (c v : ℕ) → 0 < v
    → set totals (v - 1) (get_or totals (v - 1) 0 + get_or totals c 0) ≡ added v totals c
unfolding added
added_some totals c zero l = absurd (omega arith)
added_some totals c (suc r) l = let e : suc r - 1 ≡ r = omega arith in rw e

-- ---- the loop

-- the totals from the own values in totals₀, gathered down to place i of the queue
pub record Gathered (n : ℕ) (work : List ℕ) (i : ℕ) (totals₀ totals : List ℕ) : Type 0 where
  pub values : (c : ℕ) → c < n → value_at totals c ≡ total n (cut_at n work i) (value_at totals₀) c
  pub long : length totals ≡ length totals₀
  pub kept : KeptFrom n totals₀ totals

module _ {n : ℕ} {work : List ℕ} {queued : ℕ} {totals₀ : List ℕ} (g : Gathers n work queued totals₀) where
  pub gathered_start : Gathered n work queued totals₀ totals₀
  gathered_start =
      record { values = λ c l. sym (total_start g.queue (value_at totals₀) c l); long = refl; kept = refl }

  module _ {i : ℕ} {totals : List ℕ} (on : i < queued) (h : Gathered n work (i + 1) totals₀ totals) where
    abbrev cell : ℕ
    cell = queued_at work i

    it : Item n work i
    it = g.queue.item i on

    room : n ≤ length totals
    room = omega (arith, g.room, h.long)

    -- the receiver's new total
    sum_is : (t : ℕ) → receiver_of n work cell ≡ t + 1
        → value_at totals t + value_at totals cell ≡ total n (cut_at n work i) (value_at totals₀) t
    sum_is t e =
        let o = opens g.queue i on t e in
        omega (arith, h.values t o.t_on, h.values cell it.on, total_more o (value_at totals₀))

    -- it fits, since all own values together do
    sum_fits : (t : ℕ) → receiver_of n work cell ≡ t + 1 → value_at totals t + value_at totals cell < 2 ^ 32
    unfolding total
    sum_fits t e = omega (arith, sum_is t e, sum_most n (λ p. passes (cut_at n work i) n p t) (value_at totals₀), g.fits)

    pub adds : Adds n work cell totals
    adds =
        record { on = it.on; receivers = g.queue.room; room = room; receiver_on = λ t e. (it.before t e).on; fits = sum_fits }

    pub gathered_more : Gathered n work i totals₀ (added (receiver_of n work cell) totals cell)
    unfolding added
    gathered_more = go (receiver_of n work cell) refl
      where
        go : (v : ℕ) → receiver_of n work cell ≡ v → Gathered n work i totals₀ (added v totals cell)
        go zero e =
            record {
              values = λ c l. h.values c l ∙ sym
                  (none_opens g.queue i on e (value_at totals₀) c);
              long = h.long;
              kept = h.kept;
            }
        go (suc t) e =
            let e' : receiver_of n work cell ≡ t + 1 = e ∙ sym (add-one t) in
            let o = opens g.queue i on t e' in
            let v = value_at totals t + value_at totals cell in
            record {
              values = λ c l. elim (ℕ_discrete c t) [
                | yes z ↦ rw z (get_or-set_same totals t v 0 (omega (arith, room, o.t_on)) ∙ sum_is t e')
                | no d ↦ get_or-set_other totals t c v 0 d ∙ h.values c l ∙ sym (total_kept o (value_at totals₀) c d)
              ];
              long = length-set totals t v ∙ h.long;
              kept = drop-set-lt n totals t v o.t_on ∙ h.kept;
            }

  pub gathered_end : {totals : List ℕ} → Gathered n work 0 totals₀ totals
      → totals ≡ written (totals_in n work (value_at totals₀)) totals₀
  unfolding totals_in
  gathered_end {totals} h =
      written_from_lem (total n (next_in n work) (value_at totals₀)) n totals₀ totals (omega (arith, g.room, h.long))
      (λ c l. rw (cut_none n work) (h.values c l)) h.kept

-- ---- a walk of the queue from its end: the cells that are left, with the last of them

pub last_left : (work left : List ℕ) (cell : ℕ) → left ++ cell ∷ [] ≡ take (length (left ++ cell ∷ [])) work
    → (left ≡ take (length left) work) × (cell ≡ get_or work (length left) 0)
last_left work left cell e =
    let k : ℕ = length left in
    let more : length (left ++ cell ∷ []) ≡ k + 1 = length-append left (cell ∷ []) in
    let e' : left ++ cell ∷ [] ≡ take (k + 1) work = rw more at e in (
      sym (take_at left (cell ∷ []) k refl) ∙ ap (take k) e' ∙ grind (arith, common_steps),
      grind (arith, common_steps, get_or-take (k + 1) work k 0),
    )
