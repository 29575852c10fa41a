-- Areas and sizes are totals of own values; what the slices hold that they were written to.
use mathlib.Core.Path.{◌≡◌, refl, sym, ◌∙◌, ap}
use mathlib.Core.Bool.{Bool, true, false, cond, not, true≢false}
use mathlib.Core.List.{List, ◌++◌}
use Prim.Native.Nat.{ℕ, ◌+◌, ◌*◌, ◌-◌, ◌<◌, ◌≤◌}
use native.Mathlib.Decide.{ℕ_discrete}
use native.Mathlib.Omega.{arith}
use lib.Dec.{eqb}
use lib.ListN.{length, take, drop}
use lib.Seq.{take_at, drop_at}
use borrow.Rule.Slice.PartMut.{put_mid}
use borrow.Author.Tests.{not-false}
use Rattle.sheet.specs.Sheet.{Grid, Sheet, cells, dir_at, inside, next}
use Rattle.sheet.specs.Water.{passes, Passes, here, there}
use Rattle.sheet.specs.Area.{sum_over, drains_into, row_weight, weight, area}
use Rattle.sheet.specs.Label.{list_from, areas_of}
use Rattle.sheet.specs.Refusal.{written}
use Rattle.sheet.proofs.Cells.{inside_is, next_outside, next_to_lt, next_goes}
use Rattle.claims.proofs.Counts.{not-true}
use Rattle.claims.proofs.Lawful.{passes_true}
use Rattle.upstream.specs.Work.{sizes_part, rank_of, numbered, next_of_number, with_sizes}
use Rattle.upstream.specs.Search.{Drained}
use Rattle.drainage.specs.Total.{total, next_in, value_at, Gathers, totals_in, own_value, own_values, size}
use Rattle.drainage.specs.Total.{sizes_of}
use Rattle.claims.proofs.Sums.{sum_alike, sum_zero, sum_each, count_sum}
use Rattle.upstream.proofs.Queues.{reached_yes, reached_no}
use Rattle.upstream.proofs.Upstream.{receiver_of_lem, way_inside}
use Rattle.sheet.proofs.Lists.{length_list}
use Rattle.drainage.proofs.Lists.{filled, filled_at, filled_long, filled_kept, list_same}
use Rattle.drainage.proofs.Ways.{total_same, total_alike}
use Rattle.sheet.specs.Answer.{Next}
use Rattle.std.specs.Prelude.{None, Some}

next_number : (x : Next) → next_of_number (numbered x) ≡ x
next_number None = refl
next_number (Some r) = refl

own_most : (code value : ℕ) → own_value code value ≤ value
unfolding own_value
own_most code value = go (eqb code 0)
  where
    go : (b : Bool) → cond b 0 value ≤ value
    go true = omega arith
    go false = omega arith

-- ---- where the receivers lead

module _ {G : Grid} {work : List ℕ} {queued : ℕ} (d : Drained G work queued) where
  pub next_in_lem : (c : ℕ) → c < cells G → next_in (cells G) work c ≡ next G c
  unfolding next_in
  next_in_lem c l = elim (ℕ_discrete (rank_of (cells G) work c) 0) [
    | yes e ↦
        let out : inside G c ≡ false = not-true (inside G c) (λ i. omega (arith, d.all c i)) in
        rw (reached_no (cells G) work c e) (next_outside G c out)
    | no z ↦
        let h : 0 < rank_of (cells G) work c = omega arith in
        rw (reached_yes (cells G) work c h, receiver_of_lem d.searched.upstream c l h) (next_number (next G c))
  ]

-- ---- sums of own values

-- the values of a count
abbrev pub ones : ℕ → ℕ
ones c = 1

-- the sum of f over the inside cells whose water passes an inside cell; 0 for an outside cell
unfoldable sum_into : Grid → (ℕ → ℕ) → ℕ → ℕ
sum_into G f c = cond (inside G c) (sum_over (cells G) (drains_into G c) f) 0

module _ (G : Grid) where
  -- an outside cell is passed by itself alone
  passed_outside : {q c : ℕ} → inside G c ≡ false → Passes (next G) q c → q ≡ c
  passed_outside out here = refl
  passed_outside {c = c} out (there {q = q} e h) = absurd
      (true≢false (sym (way_inside G (next_goes G q e).from_inside (there e h)) ∙ out))

  module _ (f : ℕ → ℕ) where
    own_outside : (c : ℕ) → c < cells G → inside G c ≡ false → own_values G.dirs f c ≡ 0
    unfolding own_value
    own_outside c l out =
        let z : eqb (dir_at G c) 0 ≡ true = not-false (eqb (dir_at G c) 0) (sym (inside_is G c l) ∙ out) in rw z

    own_drains : (c q : ℕ) → q < cells G
        → cond (passes (next G) (cells G) q c) (own_values G.dirs f q) 0 ≡ cond (drains_into G c q) (f q) 0
    unfolding drains_into own_value
    own_drains c q l = rw (inside_is G q l) (pick (eqb (dir_at G q) 0) (passes (next G) (cells G) q c))
      where
        pick : (b p : Bool) → ◌≡◌ {A = ℕ} (cond p (cond b 0 (f q)) 0) (cond (cond (not b) p false) (f q) 0)
        pick true true = refl
        pick true false = refl
        pick false p = refl

    total_own : (c : ℕ) → c < cells G → total (cells G) (next G) (own_values G.dirs f) c ≡ sum_into G f c
    unfolding total sum_into
    total_own c l = go (inside G c) refl
      where
        test : ℕ → Bool
        test q = passes (next G) (cells G) q c

        none : inside G c ≡ false → (q : ℕ) → (p : Bool) → passes (next G) (cells G) q c ≡ p
            → cond p (own_values G.dirs f q) 0 ≡ 0
        none out q true e =
            let z = passed_outside out (passes_true (next G) (cells G) q c e) in rw z (own_outside c l out)
        none out q false e = refl

        go : (b : Bool) → inside G c ≡ b
            → sum_over (cells G) test (own_values G.dirs f) ≡ cond b (sum_over (cells G) (drains_into G c) f) 0
        go true i = sum_alike (cells G) test (drains_into G c) (own_values G.dirs f) f (λ q h. own_drains c q h)
        go false i = sum_zero (cells G) test (own_values G.dirs f) (λ q h. none i q (test q) refl)

  -- with 1 for each cell it is the size
  sum_size : (c : ℕ) → sum_into G ones c ≡ size G c
  unfolding sum_into size
  sum_size c = rw (count_sum (cells G) (drains_into G c)) refl

  -- with the weights of the rows it is the area of any sheet with this grid and these weights
  sum_area : (weights : List ℕ) (S : Sheet) → S.grid ≡ G → S.weights ≡ weights → (c : ℕ)
      → sum_into G (row_weight G.cols weights) c ≡ area S c
  unfolding sum_into area weight
  sum_area weights S e w c = rw (e, w) refl

-- ---- the slices

pub sizes_long : (G : Grid) → length (sizes_of G) ≡ cells G
unfolding sizes_of
sizes_long G = length_list (size G) 0 (cells G)

module _ {G : Grid} {work : List ℕ} {queued : ℕ} (d : Drained G work queued) (f : ℕ → ℕ) (old : List ℕ) where
  -- what the cells add by themselves, of values f
  abbrev own : List ℕ
  own = filled (own_values G.dirs f) (cells G) old

  totals_are : (c : ℕ) → c < cells G → total (cells G) (next_in (cells G) work) (value_at own) c ≡ sum_into G f c
  totals_are c l =
      total_same (λ q r h e. next_to_lt G q e) (next_in_lem d) (value_at own) c
      ∙ total_alike (cells G) (next G) (value_at own) (own_values G.dirs f) c
      (λ q h. filled_at (own_values G.dirs f) (cells G) old q h)
      ∙ total_own G f c l

  -- the totals, where g gives them
  totals_written : (g : ℕ → ℕ) → ((c : ℕ) → sum_into G f c ≡ g c)
      → written (totals_in (cells G) work (value_at own)) own ≡ written (list_from g 0 (cells G)) old
  unfolding totals_in
  totals_written g same =
      ap (λ (l : List ℕ). written l own)
      (list_same (total (cells G) (next_in (cells G) work) (value_at own)) g (cells G) (λ c l. totals_are c l ∙ same c))
      ∙ ap (λ (l : List ℕ). list_from g 0 (cells G) ++ l)
      (rw (length_list g 0 (cells G)) (filled_kept (own_values G.dirs f) (cells G) old))

  -- values of at most 1000 each are small enough to be gathered
  pub own_gathers : ((c : ℕ) → c < cells G → f c ≤ 1000) → cells G ≤ 65536 → cells G ≤ length old
      → Gathers (cells G) work queued own
  own_gathers each small room = record {
    queue = d.searched.upstream.queue;
    room = omega (arith, filled_long (own_values G.dirs f) (cells G) old room);
    fits = omega (arith, sum_each (cells G) 1000 (value_at own) own_each);
  }
    where
      own_each : (q : ℕ) → q < cells G → value_at own q ≤ 1000
      own_each q l =
          omega (
            arith,
            filled_at (own_values G.dirs f) (cells G) old q l,
            own_most (dir_at G q) (f q),
            each q l,
          )

pub sizes_written_lem : {G : Grid} {work : List ℕ} {queued : ℕ} (d : Drained G work queued) (old : List ℕ)
    → written (totals_in (cells G) work (value_at (own d ones old))) (own d ones old) ≡ written (sizes_of G) old
unfolding sizes_of
sizes_written_lem {G} d old = totals_written d ones old (size G) (sum_size G)

pub areas_written : {G : Grid} {work : List ℕ} {queued : ℕ} (d : Drained G work queued) (weights old : List ℕ)
    (S : Sheet) → S.grid ≡ G → S.weights ≡ weights
    → written (totals_in (cells G) work (value_at (own d (row_weight G.cols weights) old)))
    (own d (row_weight G.cols weights) old) ≡ written (areas_of S) old
unfolding areas_of
areas_written {G} d weights old S e w =
    totals_written d (row_weight G.cols weights) old (area S) (sum_area G weights S e w)
    ∙ ap (λ (H : Grid). written (list_from (area S) 0 (cells H)) old) (sym e)

-- a slice that is written twice
pub written_over : (new former old : List ℕ) → length former ≡ length new
    → written new (written former old) ≡ written new old
written_over new former old e =
    ap (λ (l : List ℕ). new ++ l)
    (drop_at former (drop (length former) old) (length new) e ∙ ap (λ (k : ℕ). drop k old) e)

pub areas_long : (S : Sheet) → length (areas_of S) ≡ cells S.grid
unfolding areas_of
areas_long S = length_list (area S) 0 (cells S.grid)

-- sizes that are copied into their part of the work places
pub sizes_put : (n : ℕ) (work sizes areas old : List ℕ) → sizes_part * n ≤ length work → length sizes ≡ n
    → areas ≡ written sizes old
    → put_mid (sizes_part * n) (sizes_part * n + n - sizes_part * n) work (take n areas) ≡ with_sizes n sizes work
unfolding with_sizes
sizes_put n work sizes areas old l long e =
    let count : sizes_part * n + n - sizes_part * n ≡ n = omega arith in
    let front : take n areas ≡ sizes = ap (take n) e ∙ take_at sizes (drop (length sizes) old) n long in
    rw (count, front, long)
