-- Laws of the search through the queue: the donors of each cell are queued.
use mathlib.Core.Path.{◌≡◌, refl, sym, ◌∙◌, ap, subst}
use mathlib.Core.List.{List}
use Prim.Native.Nat.{ℕ, ◌+◌, ◌*◌, ◌/◌, ◌%◌, ◌<◌, ◌≤◌}
use native.Mathlib.Decide.{ℕ_discrete}
use native.Mathlib.Nat.{div-add-mod', mod-lt}
use native.Mathlib.Omega.{arith}
use Rattle.sheet.specs.Sheet.{Grid, cells, next}
use Rattle.directions.specs.Sizes.{Sized, OnSheet}
use Rattle.directions.specs.Steps.{neighbour_against}
use Rattle.sheet.proofs.Cells.{off_not_at, cell_lt, row_lt, next_goes, next_from_lt}
use Rattle.directions.proofs.Neighbours.{neighbour_lt, neighbour_next, next_neighbour}
use Rattle.upstream.specs.Work.{queued_at, rank_of, pushed}
use Rattle.upstream.specs.Search.{Before, Upstream, Coded}
use Rattle.upstream.specs.Growth.{Grown, Seeded, Ready, DonorsPushed, AllPushed, Spread}
use Rattle.upstream.proofs.Queues.{end_on, grown_push, push_rank}
use Rattle.upstream.proofs.Upstream.{inside_of, outlet_lt, to_numbered, upstream_push}
use Rattle.std.specs.Prelude.{None, Some}

pub grown_none : (n : ℕ) (work : List ℕ) (end : ℕ) → Grown n work end work end
grown_none n work end = record { more = omega arith; ranks = λ c l h. refl; places = λ i l. refl; kept = refl }

pub grown_more : {n : ℕ} {a b c : List ℕ} {i j k : ℕ} → Grown n a i b j → Grown n b j c k → Grown n a i c k
grown_more g h = record {
  more = omega (arith, g.more, h.more);
  ranks = λ c l r. h.ranks c l (omega (arith, g.ranks c l r)) ∙ g.ranks c l r;
  places = λ i l. h.places i (omega (arith, g.more)) ∙ g.places i l;
  kept = h.kept ∙ g.kept;
}

-- ---- the donor against one step

module _ {G : Grid} {work : List ℕ} {end row col : ℕ} (ready : Ready G work end row col) where
  abbrev cell : ℕ
  cell = row * G.cols + col

  on : cell < cells G
  on = cell_lt ready.on.row_on ready.on.col_on

  -- what is found against a step goes to the cell
  pub found_next : {k q : ℕ} → k < 8 → neighbour_against G row col k ≡ Some q → next G q ≡ Some cell
  found_next l e =
      neighbour_next G row col ready.on.row_on ready.on.col_on
      (inside_of ready.upstream cell on ready.reached) l e

  module _ (k : ℕ) where
    same_step : {j : ℕ} → k ≤ j → j < k + 1 → j ≡ k
    same_step l h = omega arith

    pub donors_off : neighbour_against G row col k ≡ None → DonorsPushed G work end work end row col k (k + 1)
    donors_off e = record {
      upstream = ready.upstream;
      grown = grown_none _ _ _;
      donors = λ j l h q f. absurd (off_not_at (sym e ∙ ap (neighbour_against G row col) (sym (same_step l h)) ∙ f));
    }

    module _ {p : ℕ} (found : neighbour_against G row col k ≡ Some p) where
      same_cell : {j q : ℕ} → k ≤ j → j < k + 1 → neighbour_against G row col j ≡ Some q → p ≡ q
      same_cell {q = q} l h f = let e : Some p ≡ Some q = sym found ∙ ap (neighbour_against G row col)
          (sym (same_step l h)) ∙ f in cc

      pub donors_old : 0 < rank_of (cells G) work p → DonorsPushed G work end work end row col k (k + 1)
      donors_old r =
          record {
            upstream = ready.upstream;
            grown = grown_none _ _ _;
            donors = λ j l h q f. rw
                (← same_cell l h f) r;
          }

      pub donors_new : k < 8 → rank_of (cells G) work p ≡ 0
          → DonorsPushed G work end (pushed (cells G) work end p (cell + 1)) (end + 1) row col k (k + 1)
      donors_new kl free =
          let e = found_next kl found in
          let p-on = neighbour_lt G row col k found in
          let queue = ready.upstream.queue in
          let before : Before
          (cells G) work end cell =
          record { on = on; reached = ready.reached; earlier = (queue.stands cell on ready.reached).most } in
          record {
            upstream =
                subst (λ (r : ℕ). Upstream G (pushed (cells G) work end p r) (end + 1)) (to_numbered e)
                (upstream_push ready.upstream p p-on free (next_goes G p e).from_inside
                (λ r f. let s : cell ≡ r = cc in rw s at before));
            grown = grown_push queue p p-on free (cell + 1);
            donors =
                λ j l h q f. rw (← same_cell l h f) (omega (
                  arith,
                  push_rank (cells G) work end p (cell + 1) queue.room (end_on queue p p-on free) p-on,
                ));
          }

-- ---- the donors against all steps

module _ {G : Grid} where
  pub donors_start : {work : List ℕ} {end row col : ℕ} → Ready G work end row col
      → DonorsPushed G work end work end row col 0 0
  donors_start r = record { upstream = r.upstream; grown = grown_none _ _ _; donors = λ k l h. absurd (omega arith) }

  pub donors_more : {a b c : List ℕ} {i j k row col step : ℕ} → DonorsPushed G a i b j row col 0 step
      → DonorsPushed G b j c k row col step (step + 1) → DonorsPushed G a i c k row col 0 (step + 1)
  donors_more {row = row} {col = col} {step = step} s t = record {
    upstream = t.upstream;
    grown = grown_more s.grown t.grown;
    donors = λ k l h q f. elim (ℕ_discrete k step) [
      | yes e ↦ t.donors k (omega arith) h q f
      | no d ↦ let r =
          s.donors k l (omega arith) q f in omega (arith, t.grown.ranks q (neighbour_lt G row col k f) r)
    ];
  }

  pub ready_more : {a b : List ℕ} {i j row col step : ℕ} → Ready G a i row col → DonorsPushed G a i b j row col 0 step
      → Ready G b j row col
  ready_more {row = row} {col = col} r s = record {
    sized = r.sized;
    on = r.on;
    upstream = s.upstream;
    reached =
        omega (
          arith,
          r.reached,
          s.grown.ranks (row * G.cols + col) (cell_lt r.on.row_on r.on.col_on) r.reached,
        );
  }

  pub all_pushed : {a b : List ℕ} {i j row col cell : ℕ} → Coded G → OnSheet G.rows G.cols row col
      → row * G.cols + col ≡ cell → DonorsPushed G a i b j row col 0 8 → AllPushed G a i b j cell
  all_pushed {row = row} {col = col} coded on is s = record {
    upstream = s.upstream;
    grown = s.grown;
    donors = λ q e.
        let k = next_neighbour G row col on.row_on on.col_on (coded q (next_from_lt G q e)) (rw is e) in
        s.donors k.0 (omega arith) k.1 q k.2;
  }

  -- ---- the queue

  pub spread_start : {work : List ℕ} {end : ℕ} → Seeded G work end (cells G) → Spread G work end 0
  spread_start s = record {
    upstream = s.upstream;
    outlets = record {
      reached = λ c o. s.outlets c (outlet_lt G c o) o;
      first =
          λ c o. let l =
          outlet_lt G c o in omega (arith, s.counted, (s.upstream.queue.stands c l (s.outlets c l o)).most);
      are_outlets = λ i l. s.are_outlets i (omega (arith, s.counted));
      rising = λ i j l k. s.rising i j l (omega (arith, s.counted));
    };
    within = omega (arith, s.counted);
    donors = λ i l. absurd (omega arith);
  }

  pub spread_ready : {work : List ℕ} {end head : ℕ} → Sized G.rows G.cols G.dirs → Spread G work end head
      → head < end → Ready G work end (queued_at work head / G.cols) (queued_at work head % G.cols)
  spread_ready {work} {end} {head} z s l =
      let t = s.upstream.queue.item head l in
      record {
        sized = z;
        on =
            record {
              rows_most = z.rows_most;
              cols_most = z.cols_most;
              row_on = row_lt z.cols_some
                  t.on;
              col_on = mod-lt (queued_at work head) z.cols_some;
            };
        upstream = s.upstream;
        reached = rw (div-add-mod' (queued_at work head) G.cols) (omega (arith, t.rank));
      }

  pub spread_more : {a b : List ℕ} {i j head : ℕ} → head < i → Spread G a i head → AllPushed G a i b j (queued_at a head)
      → Spread G b j (head + 1)
  spread_more {a} {b} {i} {head = head} l s t = record {
    upstream = t.upstream;
    outlets = record {
      reached = λ c o. let h = s.outlets.reached c o in omega (arith, t.grown.ranks c (outlet_lt G c o) h);
      first =
          λ c o. let h =
          s.outlets.reached c o in omega (arith, t.grown.ranks c (outlet_lt G c o) h, s.outlets.first c o);
      are_outlets = λ m h. rw (t.grown.places m (omega (arith, s.within))) (s.outlets.are_outlets m h);
      rising = λ m k h h'.
          let p = t.grown.places m (omega (arith, s.within)) in
          let r = t.grown.places k (omega (arith, s.within)) in
          rw (p, r) (s.outlets.rising m k h h');
    };
    within = omega (arith, s.within, t.grown.more);
    donors = λ m h q e. elim (ℕ_discrete m head) [
      | yes z ↦ t.donors q (e ∙ ap Some (t.grown.places m (omega arith) ∙ ap (queued_at a) z))
      | no d ↦
          let r = s.donors m (omega arith) q (e ∙ ap Some (t.grown.places m (omega arith))) in
          omega (arith, t.grown.ranks q (next_from_lt G q e) r)
    ];
  }
