-- Laws of the seeds of a search: the outlets, queued in reading order.
use mathlib.Core.Path.{◌≡◌, refl, sym, ◌∙◌, ap, subst}
use mathlib.Core.Bool.{Bool, true, false, true≢false}
use mathlib.Core.List.{List}
use Prim.Native.Nat.{ℕ, ◌+◌, ◌-◌, ◌<◌}
use native.Mathlib.Decide.{ℕ_discrete}
use native.Mathlib.Numerals.{add-one}
use native.Mathlib.Omega.{arith}
use Rattle.sheet.specs.Sheet.{Grid, cells, is_outlet}
use Rattle.sheet.specs.Area.{count}
use Rattle.sheet.proofs.Cells.{outlet_not_to}
use Rattle.upstream.specs.Work.{queued_at, rank_of, is_reached, numbered, pushed}
use Rattle.upstream.specs.Search.{Upstream}
use Rattle.upstream.specs.Growth.{Grown, Seeded}
use Rattle.upstream.specs.Work.{Unranked}
use Rattle.claims.proofs.Sums.{count_none}
use Rattle.upstream.proofs.Queues.{reached_no, end_on, grown_push, push_place, push_rank}
use Rattle.upstream.proofs.Upstream.{outlet_is, upstream_push}

count_no : (n : ℕ) (t : ℕ → Bool) → t n ≡ false → count (n + 1) t ≡ count n t
unfolding count
count_no n t e = rw (add-one n, e)

count_yes : (n : ℕ) (t : ℕ → Bool) → t n ≡ true → count (n + 1) t ≡ count n t + 1
unfolding count
count_yes n t e = rw (add-one n, e, add-one (count n t))

module _ (G : Grid) where
  pub seeded_start : {work : List ℕ} → Unranked (cells G) work → Seeded G work 0 0
  unfolding count
  seeded_start {work} f = record {
    upstream = record {
      queue = record {
        room = omega (arith, f.room);
        counted =
            sym (count_none (cells G) (is_reached (cells G) work)
            (λ c l. reached_no (cells G) work c (f.zero c l)));
        item = λ i l. absurd (omega arith);
        stands = λ c l h. absurd (omega (arith, f.zero c l));
      };
      is_inside_lem = λ i l. absurd (omega arith);
      receiver = λ i l. absurd (omega arith);
    };
    counted = refl;
    outlets = λ c l. absurd (omega arith);
    are_outlets = λ i l. absurd (omega arith);
    before = λ i l. absurd (omega arith);
    rising = λ i j l k. absurd (omega arith);
  }

  module _ {work : List ℕ} {end cell : ℕ} (s : Seeded G work end cell) where
    pub seeded_none : is_outlet G cell ≡ false → Seeded G work end (cell + 1)
    seeded_none out = record {
      upstream = s.upstream;
      counted = s.counted ∙ sym (count_no cell (is_outlet G) out);
      outlets =
          λ c l o. elim
          (ℕ_discrete c cell)
          [ yes e ↦ absurd (true≢false (sym o ∙ ap (is_outlet G) e ∙ out)) | no d ↦ s.outlets c (omega arith) o ];
      are_outlets = s.are_outlets;
      before = λ i l. omega (arith, s.before i l);
      rising = s.rising;
    }

    module _ (on : cell < cells G) (is : is_outlet G cell ≡ true) where
      -- the cell is not queued yet
      pub seed_free : rank_of (cells G) work cell ≡ 0
      seed_free = elim (ℕ_discrete (rank_of (cells G) work cell) 0) [
        | yes e ↦ e
        | no d ↦
            let t = s.upstream.queue.stands cell on (omega arith) in
            absurd (omega (
              arith,
              t.most,
              t.place,
              s.before (rank_of (cells G) work cell - 1) (omega (arith, t.most)),
            ))
      ]

      abbrev after : List ℕ
      after = pushed (cells G) work end cell 0

      at_end_lem : end < cells G
      at_end_lem = end_on s.upstream.queue cell on seed_free

      pub seed_grown : Grown (cells G) work end after (end + 1)
      seed_grown = grown_push s.upstream.queue cell on seed_free 0

      new_place : queued_at after end ≡ cell
      new_place = push_place (cells G) work end cell 0 s.upstream.queue.room at_end_lem on

      pushed_on : Upstream G after (end + 1)
      pushed_on =
          let o = outlet_is G cell is in
          subst (λ (r : ℕ). Upstream G (pushed (cells G) work end cell r) (end + 1)) (ap numbered o.1)
          (upstream_push s.upstream cell on seed_free o.0 (λ r e. absurd (outlet_not_to (sym o.1 ∙ e))))

      pub seeded_push : Seeded G after (end + 1) (cell + 1)
      seeded_push = record {
        upstream = pushed_on;
        counted = ap (λ (k : ℕ). k + 1) s.counted ∙ sym (count_yes cell (is_outlet G) is);
        outlets = λ c l o. elim (ℕ_discrete c cell) [
          | yes e ↦ rw e (omega (arith, push_rank (cells G) work end cell 0 s.upstream.queue.room at_end_lem on))
          | no d ↦ let h = s.outlets c (omega arith) o in omega (arith, seed_grown.ranks c (omega arith) h)
        ];
        are_outlets = λ i l. elim (ℕ_discrete i end) [
          | yes e ↦ rw (e, new_place) is
          | no d ↦ let l' : i < end = omega arith in rw (seed_grown.places i l') (s.are_outlets i l')
        ];
        before = λ i l. elim (ℕ_discrete i end) [
          | yes e ↦ rw (e, new_place) (omega arith)
          | no d ↦ let l' : i < end = omega arith in rw (seed_grown.places i l') (omega (arith, s.before i l'))
        ];
        rising = λ i j l k. elim (ℕ_discrete j end) [
          | yes e ↦ let l' : i < end = omega arith in rw (e, new_place, seed_grown.places i l') (s.before i l')
          | no d ↦
              let k' : j < end = omega arith in
              let l' : i < end = omega arith in
              rw (seed_grown.places j k', seed_grown.places i l') (s.rising i j l k')
        ];
      }
