-- `sizes_fault` meets its contract: 1, 2 and 19 as in every call that judges a sheet, then 3.
use mathlib.Core.Path.{◌≡◌, refl, sym, ◌∙◌, ap}
use mathlib.Core.Bool.{Bool, true, false, cond}
use mathlib.Core.Logic.{◌≢◌}
use Prim.Native.Nat.{ℕ}
use Rattle.std.proofs.lemmas.Result.{err_from_is_err_and}
use Rattle.sheet.specs.Answer.{Outcome, outcome_of_fault}
use Rattle.sheet.specs.Refusal.{sizes_fit, depth_fits, least_and_split_fit, sheet_fault}
use Rattle.sheet.proofs.Answer.{accepted_no_fault, refused_fault}
use Rattle.sheet.proofs.Within.{no_fault}
use Rattle.faults.specs.declared.Sizes.{Sizes}
use Rattle.faults.specs.Faults.{sizes_fault, lent_enough}
use Rattle.faults.proofs.size_faults.sizes_fault.Goals as goal

module _ (z : Sizes) (dirs weights : ℕ) where
  abbrev sheet_fault_of : ℕ
  sheet_fault_of = sheet_fault z.rows z.cols z.depth z.least z.split

  -- a fault by 1, 2 or 19
  stands : sheet_fault_of ≢ 0 → sheet_fault_of ≡ sizes_fault z dirs weights
  unfolding sheet_fault sizes_fault
  stands n = go (sizes_fit z.rows z.cols) (depth_fits z.depth) (least_and_split_fit z.least z.split) _ n
    where
      go : (a b c : Bool) (rest : ℕ) → ◌≢◌ {A = ℕ} (cond a (cond b (cond c 0 19) 2) 1) 0
          → ◌≡◌ {A = ℕ} (cond a (cond b (cond c 0 19) 2) 1) (cond a (cond b (cond c rest 19) 2) 1)
      go true true true rest f = absurd (f refl)
      go true true false rest f = refl
      go true false c rest f = refl
      go false b c rest f = refl

  -- none of these: 3 decides
  lent-decides : {enough : Bool} → sheet_fault_of ≡ 0 → lent_enough z dirs weights ≡ enough
      → cond enough 0 3 ≡ sizes_fault z dirs weights
  unfolding sizes_fault
  lent-decides none e =
      let p = no_fault _ _ _ _ _ none in
      rw (p.0, p.1, p.2, e)

pub returns-in_err-sheet_fault : goal.returns-in_err-sheet_fault
returns-in_err-sheet_fault c =
    let a = c.args in
    let e = sym c.sheet_fault.ensures ∙ c.in_err-sheet_fault.was in
    let p = err_from_is_err_and c.from_residual.result c.from_residual.ensures.1 in
    rw (p.1, p.2) (sym e ∙ ap outcome_of_fault (stands a.sizes a.dirs a.weights (refused_fault _ e)))

pub lent_enough-requires : goal.lent_enough-requires
lent_enough-requires c = (no_fault _ _ _ _ _ (accepted_no_fault _ (sym c.sheet_fault.ensures ∙ c.in_ok-sheet_fault.was))).0

pub returns-then-not-lent_enough : goal.returns-then-not-lent_enough
returns-then-not-lent_enough c =
    rw c.numbered.ensures
    (ap outcome_of_fault
    (lent-decides _ _ _ (accepted_no_fault _ (sym c.sheet_fault.ensures ∙ c.in_ok-sheet_fault.was))
    (sym c.lent_enough.ensures ∙ c.if-not-lent_enough.true)))

pub returns : goal.returns
returns c =
    ap outcome_of_fault
    (lent-decides _ _ _ (accepted_no_fault _ (sym c.sheet_fault.ensures ∙ c.in_ok-sheet_fault.was))
    (sym c.lent_enough.ensures ∙ c.if-not-lent_enough.false))
