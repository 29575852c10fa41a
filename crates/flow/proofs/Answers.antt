-- The number of an answer to the flow question, and to the outlet question, tells the answers apart and fits a byte.
use mathlib.Core.Path.{◌≡◌, refl, sym, ap, ◌∙◌}
use mathlib.Core.Bool.{Bool, true, false, cond}
use mathlib.Core.List.{List}
use Prim.Native.Nat.{ℕ, ◌+◌, ◌-◌, ◌<◌}
use native.Mathlib.Omega.{arith}
use borrow.Author.Tests.{ne_eqb}
use lib.Dec.{eqb}
use lib.ListN.{length}
use Rattle.sheet.specs.declared.Flow.{Flow}
use Rattle.sheet.specs.declared.Flow.TheVariants.{Same, Yes, No, Undecided, Refused}
use Rattle.sheet.specs.declared.OutletFlow.{OutletFlow}
use Rattle.sheet.specs.declared.OutletFlow.TheVariants.{Same as OutletSame, Yes as OutletYes, No as OutletNo}
use Rattle.sheet.specs.declared.OutletFlow.TheVariants.{Refused as OutletRefused}
use Rattle.sheet.specs.declared.Label.{Label}
use Rattle.sheet.specs.declared.UnitName.{UnitName}
use Rattle.sheet.specs.Record.{digits_of, same_label}
use Rattle.sheet.specs.Refusal.{both, depth_fits, least_fits}
use Rattle.sheet.specs.Flow.{rule_at, is_label, part_at, answer_at, answer_unequal, outlet_flow, stem_alone}
use Rattle.sheet.specs.Flow.{cell_answer, flow}
use Rattle.sheet.specs.Flow.{answer_number, outlet_answer_number}
use Rattle.sheet.proofs.Questions.{from_outlet_flow}
use Rattle.flow.specs.OutletAnswer.{outlet_answer}
use Rattle.sheet.specs.Answer.{Found}
use Rattle.std.specs.Prelude.{None, Some}

-- the answer that has a number
abbrev answer_of : ℕ → Flow
answer_of n = cond (eqb n 0) No (cond (eqb n 1) Yes (cond (eqb n 2) Same (cond (eqb n 3) Undecided (Refused (n - 128)))))

answer_of_lem : (a : Flow) → answer_of (answer_number a) ≡ a
answer_of_lem No = refl
answer_of_lem Yes = refl
answer_of_lem Same = refl
answer_of_lem Undecided = refl
answer_of_lem (Refused number) =
    let not-below : (k : ℕ) → k < 128 → eqb (128 + number) k ≡ false = λ k l. ne_eqb (128 + number) k
    (λ e. omega arith) in
    let back : 128 + number - 128 ≡ number = omega arith in
    rw (
      not-below 0 (omega arith),
      not-below 1 (omega arith),
      not-below 2 (omega arith),
      not-below 3 (omega arith),
      back,
    )

pub answer_number_apart : (a b : Flow) → answer_number a ≡ answer_number b → a ≡ b
answer_number_apart a b e = sym (answer_of_lem a) ∙ ap answer_of e ∙ answer_of_lem b

outlet_of_cell : (alone : Bool) (a : OutletFlow) → outlet_answer (cell_answer alone a) ≡ a
outlet_of_cell alone OutletSame = refl
outlet_of_cell true OutletYes = refl
outlet_of_cell false OutletYes = refl
outlet_of_cell alone OutletNo = refl
outlet_of_cell alone (OutletRefused number) = refl

-- the outlet question's answer, from the flow question's where least is 1
pub outlet_from_flow : (depth : ℕ) (p q : UnitName) → outlet_answer (flow depth 1 p q) ≡ outlet_flow depth p q
unfolding least_fits
outlet_from_flow depth p q =
    ap outlet_answer (from_outlet_flow depth 1 p q refl)
    ∙ outlet_of_cell (stem_alone depth 1 (length (digits_of p.label))) (outlet_flow depth p q)

pub outlet_answer_number_apart : (a b : OutletFlow) → outlet_answer_number a ≡ outlet_answer_number b → a ≡ b
outlet_answer_number_apart a b e =
    let same = answer_number_apart (cell_answer true a) (cell_answer true b) e in
    sym (outlet_of_cell true a) ∙ ap outlet_answer same ∙ outlet_of_cell true b

abbrev FitsByte : OutletFlow → Type 0
FitsByte a = outlet_answer_number a < 256

-- of two answers that fit, either fits
either : (test : Bool) (a b : OutletFlow) → FitsByte a → FitsByte b → FitsByte (cond test a b)
either true a b h g = h
either false a b h g = g

answer_byte : (x y : List ℕ) (f : Found) → FitsByte (answer_at x y f)
unfolding answer_at
answer_byte x y None = omega arith
answer_byte x y (Some i) = either (rule_at i x y) OutletYes OutletNo (omega arith) (omega arith)

unequal_byte : (p q : Label) → FitsByte (answer_unequal p q)
unfolding answer_unequal
unequal_byte p q = answer_byte (digits_of p) (digits_of q) (part_at (digits_of p) (digits_of q))

pub outlet_flow_byte : (depth : ℕ) (p q : UnitName) → FitsByte (outlet_flow depth p q)
unfolding outlet_flow
outlet_flow_byte depth p q =
    either (depth_fits depth) _ (OutletRefused 2)
    (either (both (is_label depth p.label) (is_label depth q.label)) _ (OutletRefused 11)
    (either (eqb p.basin q.basin) _ OutletNo
    (either (same_label p.label q.label) OutletSame _ (omega arith) (unequal_byte p.label q.label))
    (omega arith))
    (omega arith))
    (omega arith)

cell_byte : (alone : Bool) (a : OutletFlow) → FitsByte a → answer_number (cell_answer alone a) < 256
cell_byte alone OutletSame h = omega arith
cell_byte true OutletYes h = omega arith
cell_byte false OutletYes h = omega arith
cell_byte alone OutletNo h = omega arith
cell_byte alone (OutletRefused number) h = h

pub flow_byte : (depth least : ℕ) (p q : UnitName) → answer_number (flow depth least p q) < 256
unfolding flow
flow_byte depth least p q =
    go (depth_fits depth) (least_fits least) _
    (cell_byte (stem_alone depth least (length (digits_of p.label))) (outlet_flow depth p q)
    (outlet_flow_byte depth p q))
  where
    go : (d l : Bool) (answer : Flow) → answer_number answer < 256
        → answer_number (cond d (cond l answer (Refused 19)) (Refused 2)) < 256
    go true true answer h = h
    go true false answer h = omega arith
    go false l answer h = omega arith

pub number_byte : (depth least : ℕ) (p q : UnitName) (number : ℕ)
    → number ≡ answer_number (flow depth least p q) → number < 256
number_byte depth least p q number e = omega (arith, flow_byte depth least p q)
