-- `own_values` meets its contract: before each turn the cells before it are written.
use mathlib.Core.Path.{◌∙◌, ap}
use mathlib.Core.List.{List}
use Prim.Native.Nat.{ℕ}
use native.Mathlib.Omega.{arith}
use lib.ListN.{set}
use lib.Seq.{get_or-take, length-take-le}
use Rattle.drainage.specs.Total.{own_value}
use Rattle.drainage.proofs.Lists.{filled_none, filled_more}
use Rattle.drainage.proofs.measure.own_values.Goals as goal

pub loop-c-init : goal.loop-c-init
loop-c-init c = filled_none _ _

pub loop-c-preserved : goal.loop-c-preserved
loop-c-preserved c =
    let l = c.loop-c in
    let a = c.args in
    let whole = length-take-le a.n a.dirs.now c.requires.0 in
    ap (λ (t : List ℕ). set t l.c c.own_value.result) l.invariant
    ∙ filled_more _ l.c _ c.own_value.result (omega arith)
    (c.own_value.ensures ∙ ap (λ (code : ℕ). own_value code a.value) (get_or-take a.n a.dirs.now l.c 0 (omega arith)))
