-- `step_of` meets its contract: code by code.
use mathlib.Core.Path.{◌≡◌, sym}
use mathlib.Core.Bool.{false}
use mathlib.Core.Logic.{◌≢◌}
use Prim.Native.Nat.{ℕ}
use lib.Dec.{eqb}
use borrow.Author.Tests.{ne_eqb}
use Rattle.sheet.specs.Direction.{no_step, step_of}
use Rattle.directions.proofs.step_of.Goals as goal

other : {a b : ℕ} → b ≢ a → eqb a b ≡ false
other {a} {b} n = ne_eqb a b (λ e. n (sym e))

-- a byte that is none of the eight codes has the step that stays in place
not_a_step : (b : ℕ) → b ≢ 1 → b ≢ 2 → b ≢ 4 → b ≢ 8 → b ≢ 16 → b ≢ 32 → b ≢ 64 → b ≢ 128 → no_step ≡ step_of b
unfolding step_of
not_a_step b s t u v w x y z = rw (other s, other t, other u, other v, other w, other x, other y, other z)

pub returns-in-1 : goal.returns-in-1
unfolding step_of
returns-in-1 c = rw c.in-1.is c.step_at.ensures

pub returns-in-2 : goal.returns-in-2
unfolding step_of
returns-in-2 c = rw c.in-2.is c.step_at-in-2.ensures

pub returns-in-4 : goal.returns-in-4
unfolding step_of
returns-in-4 c = rw c.in-4.is c.step_at-in-4.ensures

pub returns-in-8 : goal.returns-in-8
unfolding step_of
returns-in-8 c = rw c.in-8.is c.step_at-in-8.ensures

pub returns-in-16 : goal.returns-in-16
unfolding step_of
returns-in-16 c = rw c.in-16.is c.step_at-in-16.ensures

pub returns-in-32 : goal.returns-in-32
unfolding step_of
returns-in-32 c = rw c.in-32.is c.step_at-in-32.ensures

pub returns-in-64 : goal.returns-in-64
unfolding step_of
returns-in-64 c = rw c.in-64.is c.step_at-in-64.ensures

pub returns-in-128 : goal.returns-in-128
unfolding step_of
returns-in-128 c = rw c.in-128.is c.step_at-in-128.ensures

pub returns-in_default : goal.returns-in_default
returns-in_default c =
    let r = c.in_default.in_default-own.rest in
    not_a_step c.args.code r.0.0.0.0.0.0.0.1 r.0.0.0.0.0.0.1 r.0.0.0.0.0.1
    r.0.0.0.0.1 r.0.0.0.1 r.0.0.1 r.0.1 r.1
