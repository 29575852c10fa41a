-- The queued cells get their positions one after the other.
use mathlib.Core.Path.{◌≡◌, refl, sym, ◌∙◌, ap}
use mathlib.Core.Bool.{true}
use mathlib.Core.List.{List, Memᴰ}
use Prim.Native.Nat.{ℕ, suc, ◌+◌, ◌*◌, ◌-◌, ◌≤◌, ◌<◌}
use native.Mathlib.Numerals.{add-one}
use native.Mathlib.Omega.{arith}
use lib.ListN.{length, take}
use Rattle.sheet.specs.Sheet.{Grid, cells, inside, next}
use Rattle.sheet.specs.River.{network_by, donors}
use Rattle.sheet.proofs.Cells.{cells_most, inside_lt, next_goes, outlet_not_to}
use Rattle.claims.specs.Basin.{Forest}
use Rattle.claims.specs.Bounds.{sum}
use Rattle.claims.proofs.GridLaws.{sum_same}
use Rattle.claims.proofs.Sheets.{outlet_is, is_outlet_lem}
use Rattle.upstream.specs.Work.{sizes_part, positions_part, queued_at, rank_of, numbered, size_at}
use Rattle.upstream.proofs.Queues.{queued_most}
use Rattle.upstream.specs.Search.{Upstream}
use Rattle.drainage.specs.Total.{size}
use Rattle.order.specs.Network.{area_in, donors_in, network_in}
use Rattle.order.specs.Positions.{Preorder}
use Rattle.order.specs.Places.{position_at, outlets_in, Surveyed, positioned, first_outlets}
use Rattle.order.specs.Places.{OutletsFit, Standing, DonorsPlaced, Placed, Apart}
use Rattle.order.proofs.Intervals.{between, moved}
use Rattle.order.proofs.Preorder.{Outlets, some, same_cell}
use Rattle.order.proofs.Sizes.{forest, size_adds}
use Rattle.order.proofs.Placing.{positioned_kept, positioned_follow}
use Rattle.order.proofs.Outlets.{outlets_once, first_outlets_lem, outlet_listed, listed_outlet, drains_to}
use Rattle.order.proofs.Outlets.{outlet_sizes}
use Rattle.order.proofs.Gathering.{donor_goes, goes_donor}
use Rattle.order.proofs.Entering.{step_cases}
use Rattle.sheet.specs.Answer.{Next}
use Rattle.std.specs.Prelude.{None, Some}

module _ {G : Grid} {areas work : List ℕ} {queued : ℕ} (W : Surveyed G areas work queued) where
  up : Upstream G work queued
  up = W.drained.searched.upstream

  pub queue_most : queued ≤ cells G
  queue_most = queued_most up.queue

  pub whole : (least split : ℕ) → Forest (network_in G areas least split) (λ c. inside G c ≡ true)
  whole = forest W.drained (omega (arith, W.some, queue_most)) (area_in (cells G) areas)

  -- a cell's size is one more than those of its donors together
  adds : (c : ℕ) → inside G c ≡ true → size G c ≡ suc (sum (size G) (donors_in G areas c))
  unfolding donors network_by
  adds c i = size_adds G (area_in (cells G) areas) 0 0 (whole 0 0) c i

  pub queue_inside : (i : ℕ) → i < queued → inside G (queued_at work i) ≡ true
  queue_inside i l = up.is_inside_lem i l

  -- an inside cell's place in the queue
  pub place_of : (c : ℕ) → inside G c ≡ true → (i : ℕ) × (i < queued) × (queued_at work i ≡ c)
  place_of c i =
      let r = W.drained.all c i in
      let s = up.queue.stands c (inside_lt G c i) r in
      (rank_of (cells G) work c - 1, omega (arith, s.most), s.place)

  pub queue_once : (i j : ℕ) → i < queued → j < queued → queued_at work i ≡ queued_at work j → i ≡ j
  queue_once i j l h e =
      omega (arith, (up.queue.item i l).rank, (up.queue.item j h).rank, ap (rank_of (cells G) work) e)

  -- receivers stand before their donors
  donor_later : (i j : ℕ) → i < queued → j < queued → next G (queued_at work i) ≡ Some (queued_at work j) → j < i
  donor_later i j l h e =
      let b = (up.queue.item i l).before (queued_at work j) (up.receiver i l ∙ ap numbered e ∙ sym (add-one _)) in
      omega (arith, b.earlier, (up.queue.item j h).rank)

  abbrev outlets : List ℕ
  outlets = outlets_in G work

  small : cells G ≤ 65536
  small = cells_most W.measured.sized.rows_most W.measured.sized.cols_most

  pub outlet_inside : (o : ℕ) → Memᴰ o outlets → inside G o ≡ true
  outlet_inside o m = (outlet_is G o (listed_outlet W.drained.searched o m)).0

  -- they are the first cells of the queue that have no receiver
  pub outlets_first : first_outlets (cells G) work (take queued work) ≡ outlets
  outlets_first = first_outlets_lem W.drained.searched (omega (arith, queue_most, W.room))

  pub outlets_fit : OutletsFit (cells G) queued work
  outlets_fit = record {
    most = queue_most;
    on = λ i l. inside_lt G _ (queue_inside i l);
    fit = rw outlets_first (record {
      small = small;
      room = W.room;
      on = λ o m. inside_lt G o (outlet_inside o m);
      fits =
          omega (
            arith,
            sum_same (size_at (cells G) work) (size G) outlets
                (λ o m. W.size_is o (inside_lt G o (outlet_inside o m))),
            outlet_sizes W.drained,
            queue_most,
            small,
          );
    });
  }

  pub placed_none : Placed G areas work (positioned (cells G) 0 outlets work) queued 0
  placed_none = record {
    kept = λ j d. positioned_kept (cells G) 0 outlets work j (λ o m. d o (outlet_inside o m));
    first =
        positioned_follow (cells G) (size G) 0 outlets work (λ o m. inside_lt G o (outlet_inside o m))
        (outlets_once W.drained.searched) W.size_is W.room;
    follow = λ j l. absurd (omega arith);
    within = λ j l. absurd (omega arith);
  }

  module _ {now : List ℕ} {i : ℕ} (P : Placed G areas work now queued i) (l : i < queued) where
    abbrev n : ℕ
    n = cells G

    abbrev cell : ℕ
    cell = queued_at work i

    -- no position of the cell lies past the last
    within_cell : (x : Next) → next G cell ≡ x → position_at n now cell + size G cell ≤ queued
    within_cell None e =
        let m = outlet_listed W.drained.searched cell (is_outlet_lem G cell (queue_inside i l) e) in
        omega (arith, between P.first cell m, outlet_sizes W.drained)
    within_cell (Some r) e =
        let q = place_of r (next_goes G cell e).to_inside in
        let t : next G cell ≡ Some (queued_at work q.0) = rw q.2 e in
        let j = donor_later i q.0 l q.1 t in
        let b = between (P.follow q.0 j) cell (goes_donor G areas (queued_at work q.0) cell t) in
        omega (arith, b.upto, adds (queued_at work q.0) (queue_inside q.0 q.1), P.within q.0 j)

    -- the queue is as it was
    cell_kept : queued_at now i ≡ cell
    cell_kept = P.kept i (λ c h e. omega (arith, queue_most))

    pub standing : length now ≡ length work → Standing G areas now (queued_at now i)
    standing same = rw cell_kept (record {
      is_inside_lem = queue_inside i l;
      room = omega (arith, W.room);
      size_is = λ c h. P.kept (sizes_part * n + c) (λ u k e. omega arith) ∙ W.size_is c h;
      within =
          omega (arith, within_cell (next G cell) refl, queue_most, small);
      adds = adds cell (queue_inside i l);
    })

    module _ {later : List ℕ} (placing : DonorsPlaced G areas now later (queued_at now i)) where
      D : DonorsPlaced G areas now later cell
      D = rw cell_kept at placing

      -- the position of a cell that is no donor
      stays : (u : ℕ) → (next G u ≡ Some cell → ⊥) → position_at n later u ≡ position_at n now u
      stays u d =
          D.kept (positions_part * n + u)
          (λ v m e. let s : u ≡ v = omega arith in d (rw s (donor_goes G areas cell v m)))

      queue_stays : (j : ℕ) → j < i + 1 → position_at n later (queued_at work j) ≡ position_at n now (queued_at work j)
      queue_stays j h = stays (queued_at work j) (λ e. let k = donor_later j i (omega arith) l e in omega arith)

      donor_stays : (j : ℕ) → j < i → (u : ℕ) → Memᴰ u (donors_in G areas (queued_at work j))
          → position_at n later u ≡ position_at n now u
      donor_stays j h u m =
          let d = donor_goes G areas (queued_at work j) u m in
          stays u (λ e. let s : queued_at work j ≡ cell = cc in let k = queue_once j i (omega arith) l s in omega arith)

      pub placed_more : Placed G areas work later queued (i + 1)
      placed_more = record {
        kept = λ j d. D.kept j (λ u m. d u (next_goes G u (donor_goes G areas cell u m)).from_inside) ∙ P.kept j d;
        first =
            moved P.first
            (λ o m. stays o
            (λ e. outlet_not_to (sym (outlet_is G o (listed_outlet W.drained.searched o m)).1 ∙ e)));
        follow =
            step_cases i (λ j h. rw (queue_stays j (omega arith)) (moved (P.follow j h) (donor_stays j h)))
            (rw (queue_stays i (omega arith)) D.follow);
        within =
            step_cases i (λ j h. omega (arith, queue_stays j (omega arith), P.within j h))
            (omega (arith, queue_stays i (omega arith), within_cell (next G cell) refl));
      }

-- ---- all queued cells have their positions

module _ {G : Grid} {areas work now : List ℕ} {queued : ℕ} (W : Surveyed G areas work queued)
    (same : length now ≡ length work) (P : Placed G areas work now queued queued) where
  pub preorder : (least split : ℕ)
      → Preorder (network_in G areas least split) (λ c. inside G c ≡ true) (size G) (position_at (cells G) now)
  unfolding donors network_by
  preorder least split = record {
    adds = adds W;
    follow = λ c i. let q = place_of W c i in rw q.2 at (P.follow q.0 q.1);
  }

  pub outlets_stand : (least split : ℕ)
      → Outlets (network_in G areas least split) (λ c. inside G c ≡ true) (size G) (position_at (cells G) now)
      (outlets_in G work)
  unfolding network_by
  outlets_stand least split =
      record { follow = P.first; are_inside = outlet_inside W; drain = drains_to W.drained }

  -- the queue is as it was
  pub queue_kept : (i : ℕ) → i < queued → queued_at now i ≡ queued_at work i
  queue_kept i l = P.kept i (λ c h e. omega (arith, queue_most W))

  pub apart : Apart (cells G) now queued
  apart = record {
    small = small W;
    room = omega (arith, W.room);
    most = queue_most W;
    on = λ i l. rw (queue_kept i l) (inside_lt G _ (queue_inside W i l));
    below =
        λ i l. rw (queue_kept i l) (omega (
          arith,
          P.within i l,
          queue_most W,
          some (whole W 0 0) (preorder 0 0) (queued_at work i) (queue_inside W i l),
        ));
    apart = λ i j l h e.
        queue_once W i j l h
        (same_cell (whole W 0 0) (preorder 0 0) (outlets_stand 0 0) (queued_at work i) (queued_at work j)
        (queue_inside W i l) (queue_inside W j h) (rw (queue_kept i l, queue_kept j h) at e));
  }
