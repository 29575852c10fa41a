-- The answers to the flow question and to the outlet question, on records: what they come to, and how they agree.
use mathlib.Core.Path.{◌≡◌, refl, sym, ◌∙◌, ap}
use mathlib.Core.Bool.{Bool, true, false, cond, true≢false}
use mathlib.Core.List.{List}
use mathlib.Core.Logic.{◌≢◌}
use Prim.Native.Nat.{ℕ, ◌+◌, ◌<◌}
use native.Mathlib.Omega.{arith}
use lib.Dec.{eqb, ltb}
use lib.ListN.{length}
use borrow.Author.Tests.{ne_eqb, ltb-true, eqb-true}
use Rattle.sheet.specs.declared.OutletFlow.{OutletFlow}
use Rattle.sheet.specs.declared.OutletFlow.TheVariants.{Same as OutletSame, Yes as OutletYes, No as OutletNo}
use Rattle.sheet.specs.declared.OutletFlow.TheVariants.{Refused as OutletRefused}
use Rattle.sheet.specs.declared.UnitName.{UnitName}
use Rattle.sheet.specs.Record.{digits_of, same_label}
use Rattle.sheet.specs.Refusal.{depth_fits}
use Rattle.sheet.specs.Flow.{part_at, rule_at, is_label, answer_at, answer_unequal, outlet_flow}
use Rattle.sheet.specs.Flow.{stem_alone, cell_answer, answer_number, outlet_answer_number}
use Rattle.sheet.proofs.Within.{both_true}
use Rattle.sheet.proofs.Questions.{from_outlet_flow}
use Rattle.claims.specs.Demand.{AllCounted}
use Rattle.claims.specs.Flow.{AnswersAgree, QuestionsAgree}
use Rattle.claims.specs.Parting.{PartAt, RuleAt}
use Rattle.claims.proofs.FlowTests.{part_found_lem, rule_true, rule_test}

-- answers whose numbers differ are not equal
pub differ : {A B : Type 0} (number : A → ℕ) {a b : A} → a ≡ b → number a ≢ number b → B
differ number e n = absurd (n (ap number e))

-- an answer by the place where labels part
pub data Answered (x y : List ℕ) (k : ℕ) : OutletFlow → Type 0 where
  answered_yes : RuleAt x y k → Answered x y k OutletYes
  answered_no : ¬ RuleAt x y k → Answered x y k OutletNo

pub answer_at_lem : (x y : List ℕ) (k : ℕ) → PartAt x y k → Answered x y k (answer_at x y (part_at x y))
unfolding answer_at
answer_at_lem x y k t = rw (part_found_lem x y k t) (go (rule_at k x y) refl)
  where
    go : (met : Bool) → rule_at k x y ≡ met → Answered x y k (cond met OutletYes OutletNo)
    go true e = answered_yes (rule_true x y k e)
    go false e = answered_no (λ r. true≢false (sym (rule_test x y k r) ∙ e))

-- the outlet question asked of two units with labels of a depth that fits
pub good_labels : (depth : ℕ) (p q : UnitName) → depth_fits depth ≡ true → is_label depth p.label ≡ true
    → is_label depth q.label ≡ true
    → outlet_flow depth p q ≡ cond (eqb p.basin q.basin)
    (cond (same_label p.label q.label) OutletSame (answer_unequal p.label q.label)) OutletNo
unfolding outlet_flow
good_labels depth p q d e f = rw (d, e, f)

-- stem cells alone: least is 1, and there are fewer digits than the depth
pub alone_means : (depth least digits : ℕ) → stem_alone depth least digits ≡ true → AllCounted least × (digits < depth)
unfolding stem_alone
alone_means depth least digits e =
    let b = both_true (eqb least 1) (ltb digits depth) e in
    (omega (arith, eqb-true least 1 b.0), ltb-true digits depth b.1)

answers_agree : (alone : Bool) (o : OutletFlow) → AnswersAgree (cell_answer alone o) o
answers_agree alone OutletSame = record {
  yes = λ e. differ answer_number e (omega arith);
  undecided = λ e. differ answer_number e (omega arith);
  no = (λ e. differ answer_number e (omega arith), λ e. differ outlet_answer_number e (omega arith));
  same = (λ e. refl, λ e. refl);
  refused = λ n. (λ e. differ answer_number e (omega arith), λ e. differ outlet_answer_number e (omega arith));
  numbers = refl;
  never_undecided = omega arith;
}
answers_agree true OutletYes = record {
  yes = λ e. refl;
  undecided = λ e. differ answer_number e (omega arith);
  no = (λ e. differ answer_number e (omega arith), λ e. differ outlet_answer_number e (omega arith));
  same = (λ e. differ answer_number e (omega arith), λ e. differ outlet_answer_number e (omega arith));
  refused = λ n. (λ e. differ answer_number e (omega arith), λ e. differ outlet_answer_number e (omega arith));
  numbers = refl;
  never_undecided = omega arith;
}
answers_agree false OutletYes = record {
  yes = λ e. refl;
  undecided = λ e. refl;
  no = (λ e. differ answer_number e (omega arith), λ e. differ outlet_answer_number e (omega arith));
  same = (λ e. differ answer_number e (omega arith), λ e. differ outlet_answer_number e (omega arith));
  refused = λ n. (λ e. differ answer_number e (omega arith), λ e. differ outlet_answer_number e (omega arith));
  numbers = refl;
  never_undecided = omega arith;
}
answers_agree alone OutletNo = record {
  yes = λ e. differ answer_number e (omega arith);
  undecided = λ e. differ answer_number e (omega arith);
  no = (λ e. refl, λ e. refl);
  same = (λ e. differ answer_number e (omega arith), λ e. differ outlet_answer_number e (omega arith));
  refused = λ n. (λ e. differ answer_number e (omega arith), λ e. differ outlet_answer_number e (omega arith));
  numbers = refl;
  never_undecided = omega arith;
}
answers_agree alone (OutletRefused number) = record {
  yes = λ e. differ answer_number e (omega arith);
  undecided = λ e. differ answer_number e (omega arith);
  no = (λ e. differ answer_number e (omega arith), λ e. differ outlet_answer_number e (omega arith));
  same = (λ e. differ answer_number e (omega arith), λ e. differ outlet_answer_number e (omega arith));
  refused = λ n. (λ e. let m : number ≡ n = cc in rw m, λ e. let m : number ≡ n = cc in rw m);
  numbers = rw (ne_eqb (128 + number) 3 (λ e. omega arith));
  never_undecided = omega arith;
}

pub questions_agree : QuestionsAgree
questions_agree depth least p q fits =
    rw (from_outlet_flow depth least p q fits) (answers_agree (stem_alone depth least (length (digits_of p.label)))
    (outlet_flow depth p q))
