-- The tests of the flow question and the outlet question say what they mean: where two labels part, and the digit rule
-- there.
use mathlib.Core.Path.{◌≡◌, sym, ◌∙◌, ap}
use mathlib.Core.Bool.{true}
use mathlib.Core.List.{List, [], ◌∷◌}
use Prim.Native.Nat.{ℕ, zero, suc, ◌+◌, ◌-◌, ◌≤◌, ◌<◌}
use native.Mathlib.Omega.{arith}
use lib.Dec.{ltb}
use lib.ListN.{length, get_or, drop, length-drop}
use lib.Seq.{get_or-drop}
use borrow.Author.Tests.{eq-eqb, ne_eqb, ltb-true, lt-ltb}
use Rattle.sheet.specs.Flow.{part_from, part_at, every, is_odd, rule_at}
use Rattle.sheet.proofs.Within.{both_true}
use Rattle.claims.specs.Parting.{PartAt, RuleAt}
use Rattle.claims.proofs.Parting.{part_prev, all_odd_at, at_all_odd}
use Rattle.std.specs.Prelude.{Some}

-- the test finds the place where two labels part
part_from_lem : (i : ℕ) (x y : List ℕ) (k : ℕ) → PartAt x y k → part_from i x y ≡ Some (i + k)
unfolding part_from
part_from_lem i [] y k t = absurd (omega (arith, t.in_x))
part_from_lem i (a ∷ x) [] k t = absurd (omega (arith, t.in_y))
part_from_lem i (a ∷ x) (b ∷ y) zero t = rw (ne_eqb a b t.differ) (ap Some (omega arith))
part_from_lem i (a ∷ x) (b ∷ y) (suc k) t =
    let r = part_prev t in
    rw (eq-eqb a b r.0) (part_from_lem (suc i) x y k r.1 ∙ ap Some (omega arith))

pub part_found_lem : (x y : List ℕ) (k : ℕ) → PartAt x y k → part_at x y ≡ Some k
unfolding part_at
part_found_lem x y k t = part_from_lem 0 x y k t ∙ ap Some (omega arith)

-- two digit lists part at one place only
pub part_once : (x y : List ℕ) (i j : ℕ) → PartAt x y i → PartAt x y j → i ≡ j
part_once x y i j t u =
    let e : Some i ≡ Some j = sym (part_found_lem x y i t) ∙ part_found_lem x y j u in
    let same : i ≡ j = cc in
    same

module _ (x y : List ℕ) (k : ℕ) where
  -- the test of the rule is the rule
  pub rule_true : rule_at k x y ≡ true → RuleAt x y k
  unfolding rule_at
  rule_true e =
      let r = both_true (ltb (get_or x k 0) (get_or y k 0)) (every is_odd (drop k x)) e in
      record { smaller = ltb-true (get_or x k 0) (get_or y k 0) r.0; odd = odd_from r.1 }
    where
      odd_from : every is_odd (drop k x) ≡ true → (j : ℕ) → k ≤ j → j < length x → is_odd (get_or x j 0) ≡ true
      odd_from f j l m =
          let s : k + (j - k) ≡ j = omega arith in
          let d : is_odd (get_or (drop k x) (j - k) 0) ≡ true = all_odd_at (drop k x) f (j - k)
          (rw (length-drop k x) (omega arith)) in
          rw (get_or-drop, s) at d

  pub rule_test : RuleAt x y k → rule_at k x y ≡ true
  unfolding rule_at
  rule_test r =
      rw (lt-ltb (get_or x k 0) (get_or y k 0) r.smaller)
      (at_all_odd (drop k x) (λ j l. rw get_or-drop (r.odd (k + j) (omega arith) (in_x j (rw (length-drop k x) at l)))))
    where
      in_x : (j : ℕ) → j < length x - k → k + j < length x
      in_x j l = omega arith
