-- The four largest keys of the mouths passed, and that they tell which mouths of a unit are taken.
use mathlib.Core.Path.{◌≡◌, refl, sym, ◌∙◌}
use mathlib.Core.Bool.{Bool, true, false, cond}
use mathlib.Core.List.{List, [], ◌∷◌}
use Prim.Native.Nat.{ℕ, zero, suc, ◌+◌, ◌-◌, ◌*◌, ◌≤◌, ◌<◌, max, min}
use native.Mathlib.Omega.{arith}
use native.Mathlib.Decide.{dec_lt}
use lib.Dec.{ltb, leb}
use lib.ListN.{length, get_or}
use borrow.Author.Tests.{lt-ltb, le-ltb, le-leb, lt-leb, leb-true, leb-false}
use Rattle.sheet.specs.River.{Network, heavier, Run, stem, mouth}
use Rattle.sheet.specs.Unit.{finished, rank, taken}
use Rattle.claims.specs.Runs.{MouthOf}
use Rattle.claims.proofs.Mouths.{chosen}
use Rattle.rivers.specs.Layout.{Laid, Layout}
use Rattle.rivers.specs.UnitAt.{UnitAt}
use Rattle.rivers.specs.Cut.{key_by, key_at, CutOf}
use Rattle.rivers.proofs.Positions.{goes_stem, goes_mouth, goes_end, mouth_stands}
use Rattle.rivers.proofs.KeyOrder.{above, counted_key, rank_key}

-- Of w keys above x, r are still to come. Level i: t is above x if i or more of those that came are, and not if fewer
-- are.
pub data Level (i r w x t : ℕ) : Type 0 where
  over : x < t → i + r ≤ w → Level i r w x t
  under : t ≤ x → w < i + r → Level i r w x t

pub record Levels (r w x a b c d : ℕ) : Type 0 where
  pub come : r ≤ w
  pub one : Level 1 r w x a
  pub two : Level 2 r w x b
  pub three : Level 3 r w x c
  pub four : Level 4 r w x d

-- the next key k is above x, or not
data Side (x k r s : ℕ) : Type 0 where
  more_by : x < k → s ≡ suc r → Side x k r s
  same_by : k ≤ x → s ≡ r → Side x k r s

side : (x k r : ℕ) → Side x k r (cond (ltb x k) (suc r) r)
side x k r = go (dec_lt x k)
  where
    go : Dec (x < k) → Side x k r (cond (ltb x k) (suc r) r)
    go (yes h) = more_by h (rw (lt-ltb x k h))
    go (no h) = same_by (omega arith) (rw (le-ltb x k (omega arith)))

side_come : {x k r s w : ℕ} → Side x k r s → s ≤ w → r ≤ w
side_come (more_by h q) i = omega arith
side_come (same_by h q) i = omega arith

level_first : {r s w x k t : ℕ} → s ≤ w → Side x k r s → Level 1 s w x t → Level 1 r w x (max t k)
level_first g (more_by h q) (over m n) = over (omega arith) (omega arith)
level_first g (more_by h q) (under m n) = over (omega arith) (omega arith)
level_first g (same_by h q) (over m n) = over (omega arith) (omega arith)
level_first g (same_by h q) (under m n) = under (omega arith) (omega arith)

level_next : {i r s w x k t u : ℕ} → Side x k r s → Level i s w x u → Level (suc i) s w x t
    → Level (suc i) r w x (max t (min u k))
level_next (more_by h q) (over a b) (over m n) = over (omega arith) (omega arith)
level_next (more_by h q) (over a b) (under m n) = over (omega arith) (omega arith)
level_next (more_by h q) (under a b) (over m n) = over (omega arith) (omega arith)
level_next (more_by h q) (under a b) (under m n) = under (omega arith) (omega arith)
level_next (same_by h q) (over a b) (over m n) = over (omega arith) (omega arith)
level_next (same_by h q) (over a b) (under m n) = under (omega arith) (omega arith)
level_next (same_by h q) (under a b) (over m n) = over (omega arith) (omega arith)
level_next (same_by h q) (under a b) (under m n) = under (omega arith) (omega arith)

levels_none : (w x t : ℕ) → t ≤ x → Levels w w x t t t t
levels_none w x t h =
    record {
      come = omega arith;
      one = under h (omega arith);
      two = under h (omega arith);
      three = under h (omega arith);
      four = under h (omega arith);
    }

levels_more : {r s w x k a b c d : ℕ} → Side x k r s → Levels s w x a b c d
    → Levels r w x (max a k) (max b (min a k)) (max c (min b k)) (max d (min c k))
levels_more g l =
    record {
      come = side_come g l.come;
      one = level_first l.come g l.one;
      two = level_next g l.one l.two;
      three = level_next g l.two l.three;
      four = level_next g l.three l.four;
    }

-- a key below the fourth changes nothing
level_skip : {i r s w x k t d : ℕ} → i ≤ 4 → k < d → Side x k r s → Level 4 s w x d → Level i s w x t → Level i r w x t
level_skip n h (more_by g q) (over a b) (over m o) = over m (omega arith)
level_skip n h (more_by g q) (over a b) (under m o) = absurd (omega arith)
level_skip n h (more_by g q) (under a b) l = absurd (omega arith)
level_skip n h (same_by g q) f (over m o) = over m (omega arith)
level_skip n h (same_by g q) f (under m o) = under m (omega arith)

levels_skip : {r s w x k a b c d : ℕ} → k < d → Side x k r s → Levels s w x a b c d → Levels r w x a b c d
levels_skip h g l =
    record {
      come = side_come g l.come;
      one = level_skip (omega arith) h g l.four l.one;
      two = level_skip (omega arith) h g l.four l.two;
      three = level_skip (omega arith) h g l.four l.three;
      four = level_skip (omega arith) h g l.four l.four;
    }

-- whether a mouth that counts was passed, where `floor` is the least key that counts and the run B is still to come
pub data Met (N : Network) (R B : Run) (floor d : ℕ) (done : Bool) : Type 0 where
  not_yet : done ≡ true → d ≡ floor → finished N B ≡ finished N R → Met N R B floor d done
  met : done ≡ false → finished N R ≡ false → Met N R B floor d done

-- what is known of the mouths of R that were passed
pub record Largest (N : Network) (R B : Run) (floor : ℕ) (done : Bool) (a b c d : ℕ) : Type 0 where
  pub low_a : floor ≤ a
  pub low_b : floor ≤ b
  pub low_c : floor ≤ c
  pub low_d : floor ≤ d
  pub levels : (x : ℕ) → floor ≤ x → Levels (above N.area x B) (above N.area x R) x a b c d
  pub met : Met N R B floor d done

low_max : {floor t : ℕ} (k : ℕ) → floor ≤ t → floor ≤ max t k
low_max k h = omega arith

module _ {N : Network} {R : Run} {floor : ℕ} where
  pub largest_none : Largest N R R floor true floor floor floor floor
  largest_none = record {
    low_a = omega arith;
    low_b = omega arith;
    low_c = omega arith;
    low_d = omega arith;
    levels = λ x h. levels_none _ x floor h;
    met = not_yet refl refl refl;
  }

  module _ {B : Run} {done : Bool} {a b c d : ℕ} where
    pub largest_stem : {s : ℕ} → Largest N R (stem s ∷ B) floor done a b c d → Largest N R B floor done a b c d
    unfolding chosen finished
    largest_stem l =
        record {
          low_a = l.low_a;
          low_b = l.low_b;
          low_c = l.low_c;
          low_d = l.low_d;
          levels = l.levels;
          met = go
              l.met;
        }
      where
        go : {s : ℕ} → Met N R (stem s ∷ B) floor d done → Met N R B floor d done
        go (not_yet e f g) = not_yet e f g
        go (met e f) = met e f

    module _ {v k : ℕ} (counts : N.counted v ≡ leb floor (key_by N.area v)) (key : k ≡ key_by N.area v) where
      pub largest_skip : k < d → Largest N R (mouth v ∷ B) floor done a b c d → Largest N R B floor done a b c d
      unfolding chosen finished
      largest_skip h l =
          record {
            low_a = l.low_a;
            low_b = l.low_b;
            low_c = l.low_c;
            low_d = l.low_d;
            levels =
                λ x g. levels_skip (rw key at h) (side x (key_by N.area v) (above N.area x B)) (l.levels x g);
            met = go l.met;
          }
        where
          go : Met N R (mouth v ∷ B) floor d done → Met N R B floor d done
          go (not_yet e f g) = not_yet e f (rw (counts, lt-leb floor (key_by N.area v) (omega arith)) at g)
          go (met e f) = met e f

      pub largest_with : {done' : Bool} {a' b' c' d' : ℕ} → d ≤ k → done' ≡ false
          → a' ≡ max a k → b' ≡ max b (min a k) → c' ≡ max c (min b k) → d' ≡ max d (min c k)
          → Largest N R (mouth v ∷ B) floor done a b c d → Largest N R B floor done' a' b' c' d'
      unfolding chosen finished
      largest_with h s aa bb cc' dd l =
          record {
            low_a = rw aa (low_max _ l.low_a);
            low_b = rw bb (low_max _ l.low_b);
            low_c = rw cc' (low_max _ l.low_c);
            low_d = rw dd (low_max _ l.low_d);
            levels =
                λ x g. rw (aa, bb, cc', dd, key)
                (levels_more (side x (key_by N.area v) (above N.area x B)) (l.levels x g));
            met = met s (go l.met);
          }
        where
          go : Met N R (mouth v ∷ B) floor d done → finished N R ≡ false
          go (not_yet e f g) = sym g ∙ rw (counts, le-leb floor (key_by N.area v) (omega arith)) refl
          go (met e f) = f

-- the n-th of the four keys
module _ {r w x a b c d : ℕ} where
  level_at : (n : ℕ) → 1 ≤ n → n ≤ 4 → Levels r w x a b c d → Level n r w x (get_or (a ∷ b ∷ c ∷ d ∷ []) (n - 1) 0)
  level_at zero h g l = absurd (omega arith)
  level_at (suc zero) h g l = l.one
  level_at (suc (suc zero)) h g l = l.two
  level_at (suc (suc (suc zero))) h g l = l.three
  level_at (suc (suc (suc (suc zero)))) h g l = l.four
  level_at (suc (suc (suc (suc (suc n))))) h g l = absurd (omega arith)

module _ {N : Network} {R B : Run} {floor : ℕ} {done : Bool} {a b c d : ℕ} where
  low_at : (n : ℕ) → 1 ≤ n → n ≤ 4 → Largest N R B floor done a b c d → floor ≤ get_or (a ∷ b ∷ c ∷ d ∷ []) (n - 1) 0
  low_at zero h g l = absurd (omega arith)
  low_at (suc zero) h g l = l.low_a
  low_at (suc (suc zero)) h g l = l.low_b
  low_at (suc (suc (suc zero))) h g l = l.low_c
  low_at (suc (suc (suc (suc zero)))) h g l = l.low_d
  low_at (suc (suc (suc (suc (suc n))))) h g l = absurd (omega arith)

module _ {N : Network} {R : Run} {floor : ℕ} {done : Bool} {a b c d : ℕ} where
  -- all mouths were passed
  pub largest_all : (small : (u : ℕ) → MouthOf R u → u < 65536)
      (counts : (u : ℕ) → MouthOf R u → N.counted u ≡ leb floor (key_by N.area u))
      → 1 ≤ N.split → N.split ≤ 4 → Largest N R [] floor done a b c d → CutOf N R done
      (get_or (a ∷ b ∷ c ∷ d ∷ []) (N.split - 1) 0)
  unfolding chosen finished taken
  largest_all small counts h g l = record { finishes = go l.met; takes = takes }
    where
      go : Met N R [] floor d done → finished N R ≡ done
      go (not_yet e f q) = rw e (sym q)
      go (met e f) = rw e f

      cut : ℕ
      cut = get_or (a ∷ b ∷ c ∷ d ∷ []) (N.split - 1) 0

      at : (v : ℕ) → leb floor (key_by N.area v) ≡ true
          → Level N.split 0 (above N.area (key_by N.area v) R) (key_by N.area v) cut
          → ltb (above N.area (key_by N.area v) R) N.split ≡ leb cut (key_by N.area v)
      at v e (over m o) =
          rw (lt-leb cut (key_by N.area v) m)
          (le-ltb (above N.area (key_by N.area v) R) N.split (omega arith))
      at v e (under m o) =
          rw (le-leb cut (key_by N.area v) m)
          (lt-ltb (above N.area (key_by N.area v) R) N.split (omega arith))

      pick : (v : ℕ) (t : Bool) → leb floor (key_by N.area v) ≡ t
          → cond t (ltb (above N.area (key_by N.area v) R) N.split) false ≡ leb cut (key_by N.area v)
      pick v true e =
          at v e (level_at N.split h g (l.levels (key_by N.area v) (leb-true floor (key_by N.area v) e)))
      pick v false e =
          sym (lt-leb cut (key_by N.area v) (omega (
            arith,
            leb-false floor (key_by N.area v) e,
            low_at N.split h g l,
          )))

      takes : (v : ℕ) → MouthOf R v
          → cond (N.counted v) (ltb (rank (heavier N) R v) N.split) false ≡ leb cut (key_by N.area v)
      takes v m =
          rw (counts v m, rank_key N.area R v (small v m) small) (pick v (leb floor (key_by N.area v)) refl)

-- what `heaviest` knows at position j of a unit
pub record Passed {cell size area : List ℕ} {split least end lo hi : ℕ}
    (u : UnitAt cell size area split least end lo hi) (j : ℕ) (done : Bool) (a b c d : ℕ) : Type 0 where
  pub left : Run
  pub laid : Laid cell size end j hi left
  pub largest : Largest u.of.network u.run left (least * 65536) done a b c d

pub key_is : {cell size area : List ℕ} {split least end lo hi : ℕ} (u : UnitAt cell size area split least end lo hi)
    (j : ℕ)
    → j < hi
    → key_at cell area j ≡ key_by u.of.network.area (get_or cell j 0)
key_is u j h = rw (u.of.laid_out.area_is j (omega (arith, u.before_end, u.end_within)))

module _ {cell size area : List ℕ} {count split least end lo hi : ℕ} (Y : Layout cell size count)
    (u : UnitAt cell size area split least end lo hi) where
  counts_at : (j : ℕ) → j < hi
      → u.of.network.counted (get_or cell j 0) ≡ leb (least * 65536) (key_by u.of.network.area (get_or cell j 0))
  counts_at j h =
      let on : j < length cell = omega (arith, u.before_end, u.end_within) in
      u.of.laid_out.counted_is j on ∙ counted_key least (u.of.network.area (get_or cell j 0)) (get_or cell j 0)
      (Y.small j on)

  pub passed_none : Passed u lo true (least * 65536) (least * 65536) (least * 65536) (least * 65536)
  passed_none = record { left = u.run; laid = u.laid; largest = largest_none }

  module _ {j : ℕ} {done : Bool} {a b c d : ℕ} (h : j < hi) where
    pub passed_stem : j + get_or size j 0 ≡ end → Passed u j done a b c d → Passed u (j + 1) done a b c d
    passed_stem q p =
        let g = goes_stem h q p.laid in
        record { left = g.rest; laid = g.laid; largest = largest_stem (rw g.is at p.largest) }

    module _ {k : ℕ} (key : k ≡ key_at cell area j) (q : j + get_or size j 0 ≡ end → ⊥) where
      pub passed_skip : k < d → Passed u j done a b c d → Passed u (j + get_or size j 0) done a b c d
      passed_skip l p =
          let g = goes_mouth h q p.laid in
          record {
            left = g.rest;
            laid = g.laid;
            largest = largest_skip (counts_at j h) (key ∙ key_is u j h) l
                (rw g.is at p.largest);
          }

      pub passed_with : {done' : Bool} {a' b' c' d' : ℕ} → d ≤ k → done' ≡ false
          → a' ≡ max a k → b' ≡ max b (min a k) → c' ≡ max c (min b k) → d' ≡ max d (min c k)
          → Passed u j done a b c d → Passed u (j + get_or size j 0) done' a' b' c' d'
      passed_with l s aa bb cc' dd p =
          let g = goes_mouth h q p.laid in
          record {
            left = g.rest;
            laid = g.laid;
            largest = largest_with (counts_at j h)
                (key ∙ key_is u j h) l s aa bb cc' dd (rw g.is at p.largest);
          }

  pub passed_all : {j : ℕ} {done : Bool} {a b c d cut : ℕ} → hi ≤ j → 1 ≤ split → split ≤ 4
      → cut ≡ get_or (a ∷ b ∷ c ∷ d ∷ []) (split - 1) 0
      → Passed u j done a b c d → CutOf u.of.network u.run done cut
  passed_all {j} {done} {a} {b} {c} {d} h low high q p =
      let s : u.of.network.split ≡ split = u.of.laid_out.split_is in
      let none : p.left ≡ [] = goes_end Y u.before_end u.end_within h p.laid in
      rw (q, ← s) (largest_all small counts (rw s low) (rw s high) (rw none at p.largest))
    where
      small : (v : ℕ) → MouthOf u.run v → v < 65536
      small v m =
          let s = mouth_stands Y u.before_end u.end_within u.laid m in
          rw (← s.is) (Y.small s.at (omega (arith, s.to, u.before_end, u.end_within)))

      counts : (v : ℕ) → MouthOf u.run v
          → u.of.network.counted v ≡ leb (least * 65536) (key_by u.of.network.area v)
      counts v m =
          let s = mouth_stands Y u.before_end u.end_within u.laid m in
          rw (← s.is) (counts_at s.at s.to)
