-- The outlets, which stand first in the queue of a search, in reading order.
use mathlib.Core.Path.{◌≡◌, refl, sym, ◌∙◌, ap}
use mathlib.Core.Bool.{Bool, true, false, true≢false}
use mathlib.Core.List.Memᴰ
use mathlib.Core.List.{List, [], ◌∷◌, Memᴰ}
use mathlib.Core.Logic.{◌⊎◌, inl, inr, ◌≢◌}
use Prim.Native.Nat.{ℕ, zero, suc, ◌-◌, ◌≤◌, ◌<◌}
use native.Mathlib.Decide.{ℕ_discrete}
use native.Mathlib.Omega.{arith}
use lib.Dec.{leb}
use lib.ListN.{length, get_or, take}
use lib.Seq.{length-take-le, get_or-take, take-take}
use borrow.Author.Tests.{lt-ltb, eq-eqb, ne_eqb, leb-true, leb-false}
use Rattle.sheet.specs.Sheet.{Grid, cells, inside, is_outlet, next}
use Rattle.sheet.specs.Area.{count}
use Rattle.sheet.specs.Water.{Passes, reaches_outlet}
use Rattle.sheet.specs.Refusal.{both}
use Rattle.claims.specs.Bounds.{sum}
use Rattle.claims.proofs.Counts.{count_le, count_mono, not-true}
use Rattle.claims.proofs.Fuel.{reaches_ends, ends_at}
use Rattle.claims.proofs.Sheets.{outlet_is, is_outlet_lem}
use Rattle.upstream.specs.Work.{queued_at, rank_of, receiver_of, is_reached, numbered}
use Rattle.upstream.specs.Search.{Searched, Drained, outlet_count}
use Rattle.upstream.proofs.Upstream.{outlet_lt, way_inside}
use Rattle.drainage.specs.Total.{size}
use Rattle.order.specs.Places.{outlets_in, first_outlets}
use Rattle.order.proofs.Ascending.{Ascending}
use Rattle.order.proofs.Ascending as asc
use Rattle.order.proofs.Placing.{Once, ascending_once}
use Rattle.order.proofs.Sizes.{count_same, reached, reaches, passes_any, into_passes, passes_into, any_some}
use Rattle.order.proofs.Sizes.{any_has, sizes_add}
use Rattle.sheet.specs.Answer.{Next}
use Rattle.std.specs.Prelude.{None, Some}

-- ---- the first m members of a list

take_has : (m : ℕ) (l : List ℕ) (i : ℕ) → i < m → i < length l → Memᴰ (get_or l i 0) (take m l)
take_has zero l i h k = absurd (omega arith)
take_has (suc m) [] i h k = absurd (omega arith)
take_has (suc m) (x ∷ l) zero h k = Memᴰ.head refl
take_has (suc m) (x ∷ l) (suc i) h k = Memᴰ.tail (take_has m l i (omega arith) (omega arith))

take_mem : (m : ℕ) (l : List ℕ) {c : ℕ} → Memᴰ c (take m l) → (i : ℕ) × (i < m) × (get_or l i 0 ≡ c)
take_mem zero l k = absurd (Memᴰ.not-nil k)
take_mem (suc m) [] k = absurd (Memᴰ.not-nil k)
take_mem (suc m) (x ∷ l) {c} k = go (Memᴰ.cases_cons k) (λ h. take_mem m l h)
  where
    go : (c ≡ x) ⊎ Memᴰ c (take m l) → (Memᴰ c (take m l) → (i : ℕ) × (i < m) × (get_or l i 0 ≡ c))
        → (i : ℕ) × (i < suc m) × (get_or (x ∷ l) i 0 ≡ c)
    go (inl e) f = (0, omega arith, sym e)
    go (inr h) f = let r = f h in (suc r.0, omega (arith, r.1), r.2)

take_ascending : (lo m : ℕ) (l : List ℕ) → m ≤ length l → ((i : ℕ) → i < m → lo ≤ get_or l i 0)
    → ((i j : ℕ) → i < j → j < m → get_or l i 0 < get_or l j 0) → Ascending lo (take m l)
take_ascending lo zero l k h r = asc.none
take_ascending lo (suc m) [] k h r = absurd (omega arith)
take_ascending lo (suc m) (x ∷ l) k h r =
    asc.next (h 0 (omega arith))
    (take_ascending (suc x) m l (omega arith) (λ i p. r 0 (suc i) (omega arith) (omega arith))
    (λ i j p q. r (suc i) (suc j) (omega arith) (omega arith)))

-- the first m have no receiver, and the one after them has
first_take : (n : ℕ) (work : List ℕ) (m : ℕ) (cs : List ℕ) → m ≤ length cs
    → ((i : ℕ) → i < m → receiver_of n work (get_or cs i 0) ≡ 0)
    → (m < length cs → receiver_of n work (get_or cs m 0) ≢ 0) → first_outlets n work cs ≡ take m cs
unfolding first_outlets
first_take n work zero [] k h d = refl
first_take n work zero (c ∷ cs) k h d = rw (ne_eqb (receiver_of n work c) 0 (d (omega arith)))
first_take n work (suc m) [] k h d = absurd (omega arith)
first_take n work (suc m) (c ∷ cs) k h d =
    rw (
      eq-eqb (receiver_of n work c) 0 (h 0 (omega arith)),
      first_take n work m cs (omega arith) (λ i l. h (suc i) (omega arith)) (λ l. d (omega arith)),
    )

-- ---- counts

-- where none passes the test, the count stays
count_stays : (lo hi : ℕ) (t : ℕ → Bool) → lo ≤ hi → ((x : ℕ) → lo ≤ x → x < hi → t x ≡ false) → count hi t ≡ count lo t
unfolding count
count_stays lo zero t l h = let e : lo ≡ 0 = omega arith in rw e
count_stays lo (suc hi) t l h = elim (ℕ_discrete lo (suc hi)) [
  | yes e ↦ rw e
  | no d ↦ rw (h hi (omega arith) (omega arith)) (count_stays lo hi t (omega arith) (λ x a b. h x a (omega arith)))
]

count_yes : (c : ℕ) (t : ℕ → Bool) → t c ≡ true → count (suc c) t ≡ suc (count c t)
unfolding count
count_yes c t e = rw e

-- ---- the outlets of a queue

module _ {G : Grid} {work : List ℕ} {queued : ℕ} (S : Searched G work queued) where
  abbrev m : ℕ
  m = outlet_count G

  pub outlets_within : m ≤ queued
  outlets_within =
      omega (
        arith,
        S.upstream.queue.counted,
        count_mono (cells G) (is_reached (cells G) work) (is_outlet G) (λ c e. lt-ltb 0 _ (S.outlets.reached c e)),
      )

  long : m ≤ length work
  long = omega (arith, S.upstream.queue.room, count_le (cells G) (is_outlet G))

  pub outlets_length : length (outlets_in G work) ≡ m
  outlets_length = length-take-le m work long

  pub outlet_place : (c : ℕ) → is_outlet G c ≡ true → (i : ℕ) × (i < m) × (queued_at work i ≡ c)
  outlet_place c e =
      let r = S.outlets.reached c e in
      let s = S.upstream.queue.stands c (outlet_lt G c e) r in
      (rank_of (cells G) work c - 1, omega (arith, S.outlets.first c e), s.place)

  pub outlet_listed : (c : ℕ) → is_outlet G c ≡ true → Memᴰ c (outlets_in G work)
  outlet_listed c e =
      let p = outlet_place c e in
      rw p.2 at (take_has m work p.0 p.1 (omega (arith, long, p.1)))

  pub listed_outlet : (c : ℕ) → Memᴰ c (outlets_in G work) → is_outlet G c ≡ true
  listed_outlet c k =
      let p = take_mem m work k in
      rw p.2 at (S.outlets.are_outlets p.0 p.1)

  pub outlets_once : Once (outlets_in G work)
  outlets_once = ascending_once (take_ascending 0 m work long (λ i l. omega arith) S.outlets.rising)

  -- ---- they are those of the first cells of the queue that have no receiver

  outlet_receiver : (i : ℕ) → i < m → receiver_of (cells G) work (queued_at work i) ≡ 0
  outlet_receiver i l =
      S.upstream.receiver i (omega (arith, outlets_within))
      ∙ ap numbered (outlet_is G (queued_at work i) (S.outlets.are_outlets i l)).1

  later_receiver : m < queued → receiver_of (cells G) work (queued_at work m) ≢ 0
  later_receiver l e = go (next G (queued_at work m)) refl (sym (S.upstream.receiver m l) ∙ e)
    where
      go : (x : Next) → next G (queued_at work m) ≡ x → numbered x ≡ 0 → ⊥
      go None f z =
          let o = is_outlet_lem G (queued_at work m) (S.upstream.is_inside_lem m l) f in
          omega (arith, S.outlets.first (queued_at work m) o, (S.upstream.queue.item m l).rank)
      go (Some r) f z = omega arith

  pub first_outlets_lem : queued ≤ length work → first_outlets (cells G) work (take queued work) ≡ outlets_in G work
  first_outlets_lem room =
      let same : length (take queued work) ≡ queued = length-take-le queued work room in
      first_take (cells G) work m (take queued work) (omega (arith, outlets_within))
      (λ i l. ap (receiver_of (cells G) work) (get_or-take queued work i 0 (omega (arith, outlets_within)))
      ∙ outlet_receiver i l)
      (λ l e. later_receiver (omega arith)
      (sym (ap (receiver_of (cells G) work) (get_or-take queued work m 0 (omega arith))) ∙ e))
      ∙ take-take m queued work outlets_within

  -- ---- numbers in reading order

  -- an earlier place holds a smaller cell
  rising_le : (i j : ℕ) → i ≤ j → j < m → queued_at work i ≤ queued_at work j
  rising_le i j l k = elim (ℕ_discrete i j) [
    | yes e ↦ rw e (omega arith)
    | no d ↦ (let r = S.outlets.rising i j (omega arith) k in omega arith)
  ]

  -- no outlet lies between two that follow each other
  none_between : (i x : ℕ) → suc i < m → queued_at work i < x → x < queued_at work (suc i) → is_outlet G x ≡ false
  none_between i x l a b = not-true (is_outlet G x) (λ e.
      let p = outlet_place x e in go (leb p.0 i) refl p.1 p.2)
    where
      go : {s : ℕ} (t : Bool) → leb s i ≡ t → s < m → queued_at work s ≡ x → ⊥
      go {s} true t k e = omega (arith, rising_le s i (leb-true s i t) (omega arith))
      go {s} false t k e = omega (arith, rising_le (suc i) s (leb-false s i t) k)

  before_first : (x : ℕ) → 0 < m → x < queued_at work 0 → is_outlet G x ≡ false
  before_first x l a = not-true (is_outlet G x) (λ e.
      let p = outlet_place x e in omega (arith, rising_le 0 p.0 (omega arith) p.1, p.2))

  count_before : (i : ℕ) → i < m → count (queued_at work i) (is_outlet G) ≡ i
  unfolding count
  count_before zero l = count_stays 0 (queued_at work 0) (is_outlet G) (omega arith) (λ x a b. before_first x l b)
  count_before (suc i) l =
      count_stays (suc (queued_at work i)) (queued_at work (suc i)) (is_outlet G)
      (S.outlets.rising i (suc i) (omega arith) l) (λ x a b. none_between i x l a b)
      ∙ count_yes (queued_at work i) (is_outlet G) (S.outlets.are_outlets i (omega arith))
      ∙ ap suc (count_before i (omega arith))

  -- the outlet at place i of the queue is the one of number i + 1
  pub outlet_number : (i : ℕ) → i < m → count (suc (queued_at work i)) (is_outlet G) ≡ suc i
  outlet_number i l =
      count_yes (queued_at work i) (is_outlet G) (S.outlets.are_outlets i l) ∙ ap suc (count_before i l)

-- ---- where every inside cell is reached

module _ {G : Grid} {work : List ℕ} {queued : ℕ} (D : Drained G work queued) where
  -- every inside cell drains to one of them
  pub drains_to : (c : ℕ) → inside G c ≡ true → (o : ℕ) × Memᴰ o (outlets_in G work) × Passes (next G) c o
  drains_to c i =
      let e = ends_at (reaches_ends (next G) (cells G) c (reaches D c i)) in
      (e.0, outlet_listed D.searched e.0 (is_outlet_lem G e.0 (way_inside G i e.1) e.2), e.1)

  passes_reached : (c : ℕ) → c < cells G → passes_any G (outlets_in G work) c ≡ is_reached (cells G) work c
  passes_reached c l = same _ _ to from
    where
      same : (a b : Bool) → (a ≡ true → b ≡ true) → (b ≡ true → a ≡ true) → a ≡ b
      same true b f g = sym (f refl)
      same false true f g = g refl
      same false false f g = refl

      to : passes_any G (outlets_in G work) c ≡ true → is_reached (cells G) work c ≡ true
      to e = let r = any_some G (outlets_in G work) c e in reached D c (into_passes G r.0 c r.2).0

      from : is_reached (cells G) work c ≡ true → passes_any G (outlets_in G work) c ≡ true
      from e =
          let i = go (inside G c) refl (sym (D.searched.reached c l) ∙ e) in
          let o = drains_to c i in
          any_has G (outlets_in G work) c o.0 o.1 (passes_into G o.0 c i o.2)
        where
          go : (b : Bool) → inside G c ≡ b → both b (reaches_outlet (next G) (cells G) c) ≡ true → inside G c ≡ true
          go true i e = i
          go false i e = absurd (true≢false (sym e))

  -- together they drain as many cells as are queued
  pub outlet_sizes : sum (size G) (outlets_in G work) ≡ queued
  outlet_sizes =
      sizes_add G (outlets_in G work) (outlets_once D.searched)
      (λ o k. outlet_is G o (listed_outlet D.searched o k))
      ∙ count_same (cells G) (passes_any G (outlets_in G work)) (is_reached (cells G) work) passes_reached
      ∙ sym D.searched.upstream.queue.counted
