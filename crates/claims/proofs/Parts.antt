-- The parts of a unit: put together they are the unit, each is a unit again, and two cells of it part by their digits.
use mathlib.Core.Path.{◌≡◌, refl, sym, ◌∙◌}
use mathlib.Core.Bool.{Bool, true, false, cond, true≢false}
use mathlib.Core.Option.{Option, none, some}
use mathlib.Core.List.{[], ◌∷◌, ◌++◌}
use mathlib.Core.Logic.{◌⊎◌, inl, inr, ◌≢◌}
use Prim.Native.Nat.{ℕ, suc, ◌%◌, ◌<◌}
use native.Mathlib.Omega.{arith}
use borrow.Author.Tests.{eqb-false, eq-eqb, ne_eqb}
use Rattle.sheet.specs.Water.{Passes, here}
use Rattle.sheet.specs.Flow.{is_odd}
use Rattle.sheet.specs.Unit.{taken, prepend, cut_at, Parts, last, part}
use Rattle.sheet.specs.Label.{placed, place_in, place_of, Place}
use Rattle.sheet.specs.River.{Run, river, Network, Entry, stem, mouth}
use Rattle.claims.specs.Runs.{MouthOf, mouth_here, mouth_there, Above, Chain, chain_end, chain_stem, chain_mouth}
use Rattle.claims.specs.Runs.{Headed, headed_none, headed_stem}
use Rattle.claims.specs.Lawful.{Lawful}
use Rattle.claims.proofs.Runs.{pass_trans, has_under, in_left, in_right, in_cons, in_append, In, StemOf}
use Rattle.claims.proofs.Runs.{is_under, at_head, in_tail}
use Rattle.claims.proofs.Order.{ordered_right, not_back, stem_first, Ordered}
use Rattle.claims.proofs.Lawful.{passes_test, in_test, Test, yes, no}
use Rattle.claims.proofs.Rivers.{headed_ordered, river_headed, river_passes, river_covers}
use Rattle.sheet.specs.Answer.{Next}
use Rattle.std.specs.Prelude.{Some}

abbrev pub join : Parts → Run
join (last R) = R
join (part R v P) = R ++ (mouth v ∷ join P)

join_prepend : (e : Entry) (P : Parts) → join (prepend e P) ≡ e ∷ join P
unfolding prepend
join_prepend e (last R) = refl
join_prepend e (part R v P) = refl

cond_join : (b : Bool) (P Q : Parts) {R : Run} → join P ≡ R → join Q ≡ R → join (cond b P Q) ≡ R
cond_join true P Q p q = p
cond_join false P Q p q = q

pub join_cut : (t : ℕ → Bool) (R : Run) → join (cut_at t R) ≡ R
unfolding cut_at
join_cut t [] = refl
join_cut t (stem s ∷ R) = rw (join_prepend, join_cut t R)
join_cut t (mouth v ∷ R) = cond_join (t v) _ _ (rw (join_cut t R)) (rw (join_prepend, join_cut t R))

-- where a cell stands in the parts, the digit there, and the run to go on with
pub data Spot (N : Network) : ℕ → Parts → ℕ → Place → Type 0 where
  spot_last : {k c : ℕ} {R : Run} → In N.next R c → Spot N k (last R) c (placed (suc k) R)
  spot_in : {k c v : ℕ} {R : Run} {P : Parts} → In N.next R c → Spot N k (part R v P) c (placed (suc k) R)
  spot_mouth : {k c v : ℕ} {R : Run} {P : Parts} → Passes N.next c v
      → Spot N k (part R v P) c (placed (suc (suc k)) (river N v))
  spot_later : {k c v : ℕ} {R : Run} {P : Parts} {h : Place} → Spot N (suc (suc k)) P c h → Spot N k (part R v P) c h

module _ {N : Network} {heavier : ℕ → ℕ → Bool} (O : Lawful N heavier) where
  pub spot : (k : ℕ) (P : Parts) (c : ℕ) → In N.next (join P) c → Spot N k P c (place_in N k P c)
  unfolding place_in
  spot k (last R) c i = spot_last i
  spot k (part R v P) c i =
      go (in_test O R c) (passes_test O c v) (λ j. spot (suc (suc k)) P c j) (in_append R (mouth v ∷ join P) i)
    where
      go : {a b : Bool} {m : Place} → Test a (In N.next R c) → Test b (Passes N.next c v)
          → (In N.next (join P) c → Spot N (suc (suc k)) P c m)
          → In N.next R c ⊎ In N.next (mouth v ∷ join P) c
          → Spot N k (part R v P) c (cond a (placed (suc k) R) (cond b (placed (suc (suc k)) (river N v)) m))
      go (yes x h) t f j = rw x (spot_in h)
      go (no x h) (yes y g) f j = rw (x, y) (spot_mouth g)
      go (no x h) (no y g) f (inl j) = absurd (h j)
      go (no x h) (no y g) f (inr j) =
          rw (x, y) (spot_later (f (elim (in_cons j) [ inl w ↦ absurd (g (has_under w)) | inr w ↦ w ])))

  pub spot_above : {k c : ℕ} {P : Parts} {h : Place} → Spot N k P c h → k < h.digit
  spot_above (spot_last i) = omega arith
  spot_above (spot_in i) = omega arith
  spot_above (spot_mouth i) = omega arith
  spot_above (spot_later i) = let j = spot_above i in omega arith

  pub spot_held : {k c : ℕ} {P : Parts} {h : Place} → Spot N k P c h → In N.next (join P) c
  spot_held (spot_last i) = i
  spot_held (spot_in {v = v} {P = P} i) = in_left (mouth v ∷ join P) i
  spot_held (spot_mouth {R = R} i) = in_right R (at_head (is_under i))
  spot_held (spot_later {R = R} i) = in_right R (in_tail (spot_held i))

  -- all that the run to go on with holds is in the parts
  pub spot_part : {k c : ℕ} {P : Parts} {h : Place} → Spot N k P c h → (t : ℕ) → In N.next h.unit t
      → In N.next (join P) t
  spot_part (spot_last i) t j = j
  spot_part (spot_in {v = v} {P = P} i) t j = in_left (mouth v ∷ join P) j
  spot_part (spot_mouth {v = v} {R = R} i) t j = in_right R (at_head (is_under (river_passes O v t j)))
  spot_part (spot_later {R = R} i) t j = in_right R (in_tail (spot_part i t j))

-- h is where p goes on, k where q does
pub data Pair (next : ℕ → Next) (q : ℕ) : Place → Place → Type 0 where
  pair_same : {h : Place} → Pair next q h h
  pair_odd : {h k : Place} → h.digit < k.digit → is_odd h.digit ≡ true
      → ((s : ℕ) → StemOf h.unit s → Passes next q s) → ¬ In next h.unit q → Pair next q h k
  pair_even : {h k : Place} → h.digit < k.digit → is_odd h.digit ≡ false
      → ((t : ℕ) → In next h.unit t → ¬ Passes next q t) → Pair next q h k
  pair_more : {h k : Place} → k.digit < h.digit → ((t : ℕ) → In next h.unit t → ¬ Passes next q t)
      → Pair next q h k

pub odd_one : (k : ℕ) → is_odd k ≡ false → is_odd (suc k) ≡ true
odd_one k e = let n : k % 2 ≢ 1 = eqb-false (k % 2) 1 e in eq-eqb (suc k % 2) 1 (omega arith)

pub odd_two : (k : ℕ) → is_odd k ≡ false → is_odd (suc (suc k)) ≡ false
odd_two k e = let n : k % 2 ≢ 1 = eqb-false (k % 2) 1 e in ne_eqb (suc (suc k) % 2) 1 (omega arith)

module _ {N : Network} {heavier : ℕ → ℕ → Bool} (O : Lawful N heavier) where
  -- p in the run before the mouth, q after it
  ahead : {k q : ℕ} (A B : Run) {h : Place} → Ordered N.next (A ++ B) → is_odd k ≡ false
      → suc k < h.digit → In N.next B q → Pair N.next q (placed (suc k) A) h
  ahead {k} A B o e a i = pair_odd a (odd_one k e) (λ s h. stem_first A B o h i) (λ h. not_back A B o h i here)

  -- q before, p after
  behind : {q : ℕ} (A B : Run) {h m : Place} → Ordered N.next (A ++ B)
      → m.digit < h.digit → ((t : ℕ) → In N.next h.unit t → In N.next B t) → In N.next A q → Pair
      N.next q h m
  behind A B o a f i = pair_more a (λ t j. not_back A B o i (f t j))

  -- p in a taken tributary, q after it
  aside : {k q v : ℕ} {B : Run} {h : Place} → Ordered N.next (mouth v ∷ B) → is_odd k ≡ false
      → suc (suc k) < h.digit → In N.next B q → Pair N.next q (placed (suc (suc k)) (river N v)) h
  aside {k} {q} {v} {B} o e a i =
      pair_even a (odd_two k e)
      (λ t j g. not_back (mouth v ∷ []) B o (at_head (is_under (pass_trans g (river_passes O v t j)))) i here)

  pub pair : {k p q : ℕ} {P : Parts} {h m : Place} → Ordered N.next (join P) → is_odd k ≡ false
      → Spot N k P p h → Spot N k P q m → Pair N.next q h m
  pair o e (spot_last i) (spot_last j) = pair_same
  pair o e (spot_in i) (spot_in j) = pair_same
  pair o e (spot_in {v = v} {R = R} {P = P} i) (spot_mouth j) = ahead R (mouth v ∷ join P) o e (omega arith)
      (at_head (is_under j))
  pair o e (spot_in {v = v} {R = R} {P = P} i) (spot_later j) =
      let a = spot_above O j in ahead R (mouth v ∷ join P) o e (omega arith) (in_tail (spot_held O j))
  pair o e (spot_mouth {v = v} {R = R} {P = P} i) (spot_in j) =
      behind R (mouth v ∷ join P) o (omega arith) (λ t h. at_head (is_under (river_passes O v t h))) j
  pair o e (spot_mouth i) (spot_mouth j) = pair_same
  pair o e (spot_mouth {v = v} {R = R} {P = P} i) (spot_later j) =
      aside (ordered_right R (mouth v ∷ join P) o) e (spot_above O j) (spot_held O j)
  pair o e (spot_later {v = v} {R = R} {P = P} i) (spot_in j) =
      let a = spot_above O i in behind R (mouth v ∷ join P) o (omega arith) (λ t h. in_tail (spot_part O i t h)) j
  pair o e (spot_later {v = v} {R = R} {P = P} i) (spot_mouth j) =
      behind (mouth v ∷ []) (join P) (ordered_right R (mouth v ∷ join P) o) (spot_above O i) (spot_part O i)
      (at_head (is_under j))
  pair {k} o e (spot_later {v = v} {R = R} {P = P} i) (spot_later j) =
      pair (ordered_right (mouth v ∷ []) (join P) (ordered_right R (mouth v ∷ join P) o)) (odd_two k e) i j

pub data AllHeaded (next : ℕ → Next) (heavier : ℕ → ℕ → Bool) : Parts → Type 0 where
  all_last : {R : Run} → Headed next heavier R → AllHeaded next heavier (last R)
  all_cut : {R : Run} {v : ℕ} {P : Parts} → Headed next heavier R → AllHeaded next heavier P
      → AllHeaded next heavier (part R v P)

-- the first part goes on after the stem cell s, and the others are headed
data Tail (next : ℕ → Next) (heavier : ℕ → ℕ → Bool) (s : ℕ) (old : Option ℕ) : Parts → Type 0 where
  tail_last : {R : Run} → Chain next heavier s old R → Tail next heavier s old (last R)
  tail_cut : {R : Run} {v : ℕ} {P : Parts} → Chain next heavier s old R → AllHeaded next heavier P
      → Tail next heavier s old (part R v P)

module _ {next : ℕ → Next} {heavier : ℕ → ℕ → Bool} where
  stem_tail : {s c : ℕ} {old : Option ℕ} {P : Parts} → next c ≡ Some s → Above heavier old c → Tail next heavier c none P
      → Tail next heavier s old (prepend (stem c) P)
  unfolding prepend
  stem_tail e a (tail_last w) = tail_last (chain_stem e a w)
  stem_tail e a (tail_cut w h) = tail_cut (chain_stem e a w) h

  mouth_tail : {s v : ℕ} {old : Option ℕ} {P : Parts} → next v ≡ Some s → Above heavier old v
      → Tail next heavier s (some v) P → Tail next heavier s old (prepend (mouth v) P)
  unfolding prepend
  mouth_tail e a (tail_last w) = tail_last (chain_mouth e a w)
  mouth_tail e a (tail_cut w h) = tail_cut (chain_mouth e a w) h

  stem_all : {c : ℕ} {P : Parts} → Tail next heavier c none P → AllHeaded next heavier (prepend (stem c) P)
  unfolding prepend
  stem_all (tail_last w) = all_last (headed_stem w)
  stem_all (tail_cut w h) = all_cut (headed_stem w) h

module _ {next : ℕ → Next} {heavier : ℕ → ℕ → Bool} (M : ℕ → Type 0) (t : ℕ → Bool)
    (up : (u v : ℕ) → M v → t v ≡ true → M u → heavier u v ≡ true → t u ≡ true) where
  cut_both : {s : ℕ} {old : Option ℕ} {R : Run} → Chain next heavier s old R → ((u : ℕ) → MouthOf R u → M u)
      → Tail next heavier s old (cut_at t R) ×
      ((v : ℕ) → old ≡ some v → M v → t v ≡ true → AllHeaded next heavier (cut_at t R))
  unfolding cut_at
  cut_both chain_end sub = (tail_last chain_end, λ v e m h. all_last headed_none)
  cut_both (chain_stem e a w) sub =
      let b = cut_both w (λ u m. sub u (mouth_there m)) in
      (stem_tail e a b.0, λ v f m h. stem_all b.0)
  cut_both {s} {old} (chain_mouth {v = u} {R = R} e a w) sub = go (t u) refl (cut_both w (λ x m. sub x (mouth_there m)))
    where
      go : (b : Bool) → t u ≡ b
          → Tail next heavier s (some u) (cut_at t R) ×
          ((v : ℕ) → some u ≡ some v → M v → t v ≡ true → AllHeaded next heavier (cut_at t R))
          → Tail next heavier s old (cond b (part [] u (cut_at t R)) (prepend (mouth u) (cut_at t R)))
          × ((v : ℕ) → old ≡ some v → M v → t v ≡ true → AllHeaded next heavier
          (cond b (part [] u (cut_at t R)) (prepend (mouth u) (cut_at t R))))
      go true x r =
          let rest : AllHeaded next heavier (cut_at t R) = r.1 u refl (sub u mouth_here) x in
          (tail_cut chain_end rest, λ v f m h. all_cut headed_none rest)
      go false x r =
          (mouth_tail e a r.0, λ v f m h. absurd (true≢false (sym (up u v m h (sub u mouth_here) (heavy v f)) ∙ x)))
        where
          heavy : (v : ℕ) → old ≡ some v → heavier u v ≡ true
          heavy v f = rw f at a

module _ {N : Network} {heavier : ℕ → ℕ → Bool} (O : Lawful N heavier) where
  pub parts_headed : {R : Run} → Headed N.next heavier R → AllHeaded N.next heavier (cut_at (taken N R) R)
  unfolding cut_at
  parts_headed headed_none = all_last headed_none
  parts_headed (headed_stem {s = s} {R = R} w) =
      stem_all
      (cut_both (λ v. MouthOf (stem s ∷ R) v) (taken N (stem s ∷ R))
      (λ u v m h n k. O.upward (stem s ∷ R) u v m h n k) w (λ u m. mouth_there m)).0

module _ {N : Network} {heavier : ℕ → ℕ → Bool} (O : Lawful N heavier) where
  spot_headed : {k c : ℕ} {P : Parts} {h : Place} → AllHeaded N.next heavier P → Spot N k P c h
      → Headed N.next heavier h.unit
  spot_headed (all_last a) (spot_last i) = a
  spot_headed (all_cut a b) (spot_in i) = a
  spot_headed (all_cut a b) (spot_mouth {v = v} i) = river_headed O v
  spot_headed (all_cut a b) (spot_later i) = spot_headed b i

  spot_on : {k c : ℕ} {P : Parts} {h : Place} → Spot N k P c h → In N.next h.unit c
  spot_on (spot_last i) = i
  spot_on (spot_in i) = i
  spot_on {c = c} (spot_mouth {v = v} i) = river_covers O v c i
  spot_on (spot_later i) = spot_on i

  pub place_spot : (R : Run) (c : ℕ) → In N.next R c → Spot N 0 (cut_at (taken N R) R) c (place_of N R c)
  unfolding place_of
  place_spot R c i = spot O 0 (cut_at (taken N R) R) c (rw (join_cut (taken N R) R) i)

  -- the part is a unit again, and holds the cell
  pub place_headed : (R : Run) (c : ℕ) → Headed N.next heavier R → In N.next R c
      → Headed N.next heavier (place_of N R c).unit
  place_headed R c w i = spot_headed (parts_headed O w) (place_spot R c i)

  pub place_holds : (R : Run) (c : ℕ) → In N.next R c → In N.next (place_of N R c).unit c
  place_holds R c i = spot_on (place_spot R c i)

  pub place_pair : (R : Run) (p q : ℕ) → Headed N.next heavier R → In N.next R p → In N.next R q
      → Pair N.next q (place_of N R p) (place_of N R q)
  place_pair R p q w i j =
      pair O (rw (join_cut (taken N R) R) (headed_ordered O w)) refl (place_spot R p i) (place_spot R q j)

pub test_true : {b : Bool} {A : Type 0} → Test b A → A → b ≡ true
test_true (yes e a) x = e
test_true (no e n) x = absurd (n x)

test_false : {b : Bool} {A : Type 0} → Test b A → ¬ A → b ≡ false
test_false (yes e a) n = absurd (n a)
test_false (no e f) n = e

module _ {N : Network} {heavier : ℕ → ℕ → Bool} (O : Lawful N heavier) (k : ℕ) (R : Run) (v : ℕ) (P : Parts)
    (c : ℕ) where
  pub place_run : In N.next R c → place_in N k (part R v P) c ≡ (placed (suc k) R)
  unfolding place_in
  place_run i = rw (test_true (in_test O R c) i)

  module _ (o : Ordered N.next (R ++ (mouth v ∷ join P))) where
    pub place_tributary : Passes N.next c v → place_in N k (part R v P) c ≡ (placed (suc (suc k)) (river N v))
    unfolding place_in
    place_tributary h =
        rw (
          test_false (in_test O R c) (λ i. not_back R (mouth v ∷ join P) o i (at_head (is_under h)) here),
          test_true (passes_test O c v) h,
        )

    pub place_later : In N.next (join P) c → place_in N k (part R v P) c ≡ place_in N (suc (suc k)) P c
    unfolding place_in
    place_later j =
        rw (
          test_false (in_test O R c) (λ i. not_back R (mouth v ∷ join P) o i (in_tail j) here),
          test_false (passes_test O c v)
              (λ h. not_back (mouth v ∷ []) (join P) (ordered_right R (mouth v ∷ join P) o)
              (at_head (is_under h)) j here),
        )
