-- What a search left holds as long as the work places before the sizes are as it left them; sizes keep these.
use mathlib.Core.Path.{◌≡◌, refl, sym, ◌∙◌, ap}
use mathlib.Core.List.{List, ◌++◌}
use Prim.Native.Nat.{ℕ, ◌+◌, ◌*◌, ◌-◌, ◌<◌, ◌≤◌}
use native.Mathlib.Omega.{arith}
use lib.Dec.{ltb}
use lib.ListN.{get_or, length, take, drop, length-append, get_or-append}
use lib.Seq.{length-take-le, get_or-take, get_or-append-add, drop-append-add, drop_at, drop-drop}
use Rattle.sheet.specs.Sheet.{Grid, cells, is_outlet}
use Rattle.sheet.specs.Refusal.{written}
use Rattle.sheet.proofs.Cells.{inside_lt}
use Rattle.claims.proofs.Counts.{count_le}
use Rattle.upstream.specs.Work.{ranks_part, receivers_part, sizes_part, positions_part, queued_at, rank_of, receiver_of}
use Rattle.upstream.specs.Work.{size_at, is_reached, KeptFrom, with_sizes}
use Rattle.upstream.specs.Search.{Before, Queue, Upstream, OutletsFirst, Searched, Drained}
use Rattle.drainage.specs.Total.{size, sizes_of}
use Rattle.claims.proofs.Sums.{sum_same, count_sum}
use Rattle.upstream.proofs.Queues.{item_at, queued_most}
use Rattle.upstream.proofs.Upstream.{outlet_lt}
use Rattle.sheet.proofs.Lists.{list_at}
use Rattle.drainage.proofs.Measures.{sizes_long}

-- the places before the sizes agree
pub record SameSearch (n : ℕ) (work work' : List ℕ) : Type 0 where
  pub room : sizes_part * n ≤ length work'
  pub same : (j : ℕ) → j < sizes_part * n → get_or work' j 0 ≡ get_or work j 0

module _ {n : ℕ} {work work' : List ℕ} (s : SameSearch n work work') where
  place_same : (i : ℕ) → i < n → queued_at work' i ≡ queued_at work i
  place_same i l = s.same i (omega arith)

  rank_same : (c : ℕ) → c < n → rank_of n work' c ≡ rank_of n work c
  rank_same c l = s.same (ranks_part * n + c) (omega arith)

  receiver_same : (c : ℕ) → c < n → receiver_of n work' c ≡ receiver_of n work c
  receiver_same c l = s.same (receivers_part * n + c) (omega arith)

  before_same : {i r : ℕ} → Before n work i r → Before n work' i r
  before_same {r = r} b = let e = rank_same r
      b.on in record { on = b.on; reached = omega (arith, b.reached); earlier = omega (arith, b.earlier) }

  pub queue_same : {queued : ℕ} → Queue n work queued → Queue n work' queued
  queue_same q = record {
    room = s.room;
    counted =
        q.counted ∙ count_sum n (is_reached n work)
        ∙ sum_same n (is_reached n work) (is_reached n work') (λ c. 1) (λ c. 1)
        (λ c l. ap (λ (r : ℕ). ltb 0 r) (sym (rank_same c l))) (λ c l. refl)
        ∙ sym (count_sum n (is_reached n work'));
    item = λ i l.
        let t = q.item i l in
        let c = queued_at work i in
        item_at n work' i c (place_same i (omega (arith, queued_most q))) t.on (rank_same c t.on ∙ t.rank)
        (λ r e. before_same (t.before r (sym (receiver_same c t.on) ∙ e)));
    stands = λ c l h.
        let e = rank_same c l in
        let t = q.stands c l (omega arith) in
        record {
          most = omega (arith, t.most);
          place = rw e
              (place_same (rank_of n work c - 1) (omega (arith, t.most, queued_most q)) ∙ t.place);
        };
  }

module _ {G : Grid} {work work' : List ℕ} (s : SameSearch (cells G) work work') where
  upstream_same : {queued : ℕ} → Upstream G work queued → Upstream G work' queued
  upstream_same u = record {
    queue = queue_same s u.queue;
    is_inside_lem = λ i l. rw (place_same s i (omega (arith, queued_most u.queue))) (u.is_inside_lem i l);
    receiver = λ i l.
        rw (place_same s i (omega (arith, queued_most u.queue)))
        (receiver_same s (queued_at work i) (u.queue.item i l).on ∙ u.receiver i l);
  }

  outlets_same : OutletsFirst G work → OutletsFirst G work'
  outlets_same o = record {
    reached = λ c i. rw (rank_same s c (outlet_lt G c i)) (o.reached c i);
    first = λ c i. rw (rank_same s c (outlet_lt G c i)) (o.first c i);
    are_outlets = λ i l.
        let m = count_le (cells G) (is_outlet G) in rw (place_same s i (omega arith)) (o.are_outlets i l);
    rising = λ i j l h.
        let m = count_le (cells G) (is_outlet G) in
        rw (place_same s i (omega arith), place_same s j (omega arith)) (o.rising i j l h);
  }

  pub searched_same : {queued : ℕ} → Searched G work queued → Searched G work' queued
  searched_same h = record {
    upstream = upstream_same h.upstream;
    reached = λ c l. ap (λ (r : ℕ). ltb 0 r) (rank_same s c l) ∙ h.reached c l;
    outlets = outlets_same h.outlets;
  }

  pub drained_same : {queued : ℕ} → Drained G work queued → Drained G work' queued
  drained_same d = record {
    coded = d.coded;
    searched = searched_same d.searched;
    all = λ c i. rw (rank_same s c (inside_lt G c i)) (d.all c i);
  }

-- ---- sizes

module _ (n : ℕ) (sizes work : List ℕ) (room : sizes_part * n ≤ length work) where
  front : length (take (sizes_part * n) work) ≡ sizes_part * n
  front = length-take-le (sizes_part * n) work room

  pub with_sizes_same : SameSearch n work (with_sizes n sizes work)
  unfolding with_sizes
  with_sizes_same = record {
    room = omega (arith, front, length-append (take (sizes_part * n) work) (written sizes (drop (sizes_part * n) work)));
    same =
        λ j l. get_or-append (take (sizes_part * n) work) (written sizes (drop (sizes_part * n) work)) 0 j
        (omega (arith, front)) ∙ get_or-take (sizes_part * n) work j 0 l;
  }

  abbrev rest : List ℕ
  rest = written sizes (drop (sizes_part * n) work)

  pub with_sizes_at : (c : ℕ) → c < length sizes → size_at n (with_sizes n sizes work) c ≡ get_or sizes c 0
  unfolding with_sizes
  with_sizes_at c l =
      ap (λ (k : ℕ). get_or (take (sizes_part * n) work ++ rest) (k + c) 0) (sym front)
      ∙ get_or-append-add (take (sizes_part * n) work) rest c 0
      ∙ get_or-append sizes (drop (length sizes) (drop (sizes_part * n) work)) 0 c l

  pub with_sizes_kept : length sizes ≡ n → KeptFrom (positions_part * n) work (with_sizes n sizes work)
  unfolding with_sizes
  with_sizes_kept long =
      let e : positions_part * n ≡ length (take (sizes_part * n) work) + n = omega (arith, front) in
      let f : sizes_part * n + n ≡ positions_part * n = omega arith in
      ap (λ (k : ℕ). drop k (take (sizes_part * n) work ++ rest)) e
      ∙ drop-append-add (take (sizes_part * n) work) rest n
      ∙ drop_at sizes (drop (length sizes) (drop (sizes_part * n) work)) n long
      ∙ ap (λ (k : ℕ). drop k (drop (sizes_part * n) work)) long
      ∙ drop-drop n (sizes_part * n) work
      ∙ ap (λ (k : ℕ). drop k work) f

-- the sizes of a sheet, once they are written
pub size_written : (G : Grid) (work : List ℕ) → sizes_part * cells G ≤ length work → (c : ℕ) → c < cells G
    → size_at (cells G) (with_sizes (cells G) (sizes_of G) work) c ≡ size G c
unfolding sizes_of
size_written G work room c l =
    with_sizes_at (cells G) (sizes_of G) work room c (omega (arith, sizes_long G)) ∙ list_at (size G) 0
    (cells G) c l ∙ ap (size G) (let z : 0 + c ≡ c = omega arith in z)
