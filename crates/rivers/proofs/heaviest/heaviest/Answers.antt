-- `rivers::heaviest::heaviest` meets its contract. Invariant: the largest keys of the mouths passed, whatever unit lies
-- at these positions.
use mathlib.Core.Path.{◌≡◌, refl, ◌∙◌}
use mathlib.Core.List.{List, [], ◌∷◌}
use Prim.Native.Nat.{ℕ, zero, suc, ◌-◌, ◌<◌}
use native.Mathlib.Omega.{arith}
use lib.ListN.{get_or}
use Rattle.rivers.proofs.Largest.{passed_stem, passed_skip, passed_with, passed_all}
use Rattle.rivers.proofs.heaviest.heaviest.Goals as goal

pub loop-j-preserved-then-j-s : goal.loop-j-preserved-then-j-s
loop-j-preserved-then-j-s c =
    λ u. passed_stem c.requires.layout u c.loop-j-test.true
    c.if-j-s.true (c.loop-j.invariant u)

pub loop-j-preserved-then-key-top : goal.loop-j-preserved-then-key-top
loop-j-preserved-then-key-top c =
    λ u. passed_skip c.requires.layout u
    c.loop-j-test.true c.key_at-key.ensures
    c.if-j-s.false (omega (arith, c.if-key-top.true))
    (c.loop-j.invariant u)

pub loop-j-preserved : goal.loop-j-preserved
loop-j-preserved c =
    let e = c.with-top.ensures in
    λ u.
    passed_with c.requires.layout u
    c.loop-j-test.true c.key_at-key.ensures
    c.if-j-s.false c.if-key-top.false
    e.met e.first e.second e.third e.fourth
    (c.loop-j.invariant u)

-- each of the four keys by its place
four : (keys : List ℕ) (k : ℕ) → k < 4
    → get_or keys k 0 ≡ get_or (get_or keys 0 0 ∷ get_or keys 1 0 ∷ get_or keys 2 0 ∷ get_or keys 3 0 ∷ []) k 0
four keys zero l = refl
four keys (suc zero) l = refl
four keys (suc (suc zero)) l = refl
four keys (suc (suc (suc zero))) l = refl
four keys (suc (suc (suc (suc k)))) l = absurd (omega arith)

pub returns : goal.returns
returns c =
    let s = c.requires.le_split in
    λ u. passed_all c.requires.layout u c.loop-j-test.false s.0 s.1
    (c.nth.ensures ∙ four c.loop-j.top.keys (c.args.rule.split - 1) (omega (arith, s.0, s.1))) (c.loop-j.invariant u)
