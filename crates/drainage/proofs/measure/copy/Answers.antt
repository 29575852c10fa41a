-- `copy` meets its contract: before each turn the places before it are copied.
use mathlib.Core.Path.{◌≡◌, refl, ◌∙◌, ap, ap₂}
use mathlib.Core.List.{List, ◌++◌, append-nil}
use Prim.Native.Nat.{ℕ}
use native.Mathlib.Omega.{arith}
use lib.ListN.{get_or, length, set}
use lib.Seq.{take_all}
use Rattle.std.proofs.Common.{drop_of_length-le}
use Rattle.drainage.proofs.Lists.{filled_none, filled_more, list_take}
use Rattle.drainage.proofs.measure.copy.Goals as goal

pub loop-i-init : goal.loop-i-init
loop-i-init c = filled_none _ _

pub loop-i-preserved : goal.loop-i-preserved
loop-i-preserved c =
    let l = c.loop-i in
    let value = get_or c.args.from.now l.i 0 in
    ap (λ (t : List ℕ). set t l.i value) l.invariant ∙ filled_more _ l.i _ value (omega arith) refl

pub returns : goal.returns
returns c =
    let a = c.args in
    let n = length a.from.now in
    let e : c.loop-i.i ≡ n = omega arith in
    (rw e at c.loop-i.invariant)
    ∙ ap₂ (λ (x y : List ℕ). x ++ y) (list_take n a.from.now (omega arith) ∙ take_all n a.from.now (omega arith))
    (drop_of_length-le a.to.now (omega arith))
    ∙ append-nil a.from.now
