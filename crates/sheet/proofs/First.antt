-- The first of n cells that passes a test: what it is, told from the tests, and what it tells of them.
use mathlib.Core.Path.{◌≡◌, refl, sym, ◌∙◌, ap}
use mathlib.Core.Bool.{Bool, true, false, cond}
use mathlib.Core.Logic.{⊎_elim}
use Prim.Native.Nat.{ℕ, zero, suc, ◌+◌, ◌-◌, ◌<◌, ◌≤◌}
use native.Mathlib.Nat.{eq-or-lt_of_le}
use native.Mathlib.Decide.{dec_lt}
use native.Mathlib.Omega.{arith}
use Rattle.sheet.specs.Sheet.{first, first_from}
use Rattle.sheet.specs.Answer.{Found}
use Rattle.std.specs.Prelude.{None, Some}

-- no cell below n passes
abbrev pub NoneBelow : (ℕ → Bool) → ℕ → Type 0
NoneBelow test n = (k : ℕ) → k < n → test k ≡ false

-- k is the first of n cells that passes
pub record FirstAt (test : ℕ → Bool) (n k : ℕ) : Type 0 where
  pub below : k < n
  pub passes : test k ≡ true
  pub none_before : NoneBelow test k

-- ---- from some cell on

pub from_none : (test : ℕ → Bool) (m i : ℕ) → ((k : ℕ) → i ≤ k → k < i + m → test k ≡ false)
    → first_from test i m ≡ None
unfolding first_from
from_none test zero i none = refl
from_none test (suc m) i none =
    rw (none i (omega arith) (omega arith)) (from_none test m (suc i) (λ k h l. none k (omega arith) (omega arith)))

pub from_at : (test : ℕ → Bool) (m i k : ℕ) → i ≤ k → k < i + m → test k ≡ true
    → ((j : ℕ) → i ≤ j → j < k → test j ≡ false) → first_from test i m ≡ Some k
unfolding first_from
from_at test zero i k h l t none = absurd (omega arith)
from_at test (suc m) i k h l t none =
    ⊎_elim (λ e. let q : test i ≡ true = ap test e ∙ t in rw q (ap Some e))
    (λ lt. rw (none i (omega arith) lt)
    (from_at test m (suc i) k lt (omega arith) t (λ j g g'. none j (omega arith) g')))
    (eq-or-lt_of_le h)

none_from : (test : ℕ → Bool) (m i : ℕ) → first_from test i m ≡ None → (k : ℕ) → i ≤ k → k < i + m → test k ≡ false
unfolding first_from
none_from test zero i e k h l = absurd (omega arith)
none_from test (suc m) i e k h l = go (test i) refl e (none_from test m (suc i))
  where
    go : (b : Bool) → test i ≡ b → cond b (Some i) (first_from test (suc i) m) ≡ None
        → (first_from test (suc i) m ≡ None → (k : ℕ) → suc i ≤ k → k < suc i + m → test k ≡ false) → test k ≡ false
    go true t e rest = let z : ◌≡◌ {A = ℕ} 0 1 = cc in absurd (omega arith)
    go false t e rest = ⊎_elim (λ q. ap test (sym q) ∙ t) (λ lt. rest e k lt (omega arith)) (eq-or-lt_of_le h)

-- k is the first of the m cells from i on that passes
record FromAt (test : ℕ → Bool) (m i k : ℕ) : Type 0 where
  least : i ≤ k
  most : k < i + m
  passes : test k ≡ true
  none_before : (j : ℕ) → i ≤ j → j < k → test j ≡ false

at_from : (test : ℕ → Bool) (m i k : ℕ) → first_from test i m ≡ Some k → FromAt test m i k
unfolding first_from
at_from test zero i k e = let z : ◌≡◌ {A = ℕ} 0 1 = cc in absurd (omega arith)
at_from test (suc m) i k e = go (test i) refl e (at_from test m (suc i) k)
  where
    go : (b : Bool) → test i ≡ b → cond b (Some i) (first_from test (suc i) m) ≡ Some k
        → (first_from test (suc i) m ≡ Some k → FromAt test m (suc i) k) → FromAt test (suc m) i k
    go true t e rest =
        let q : i ≡ k = cc in
        record {
          least = omega arith;
          most = omega arith;
          passes = ap test (sym q) ∙ t;
          none_before = λ j h l. absurd
              (omega arith);
        }
    go false t e rest =
        let r = rest e in
        record {
          least = omega arith;
          most = omega arith;
          passes = r.passes;
          none_before = λ j h l. ⊎_elim
              (λ q. ap test (sym q) ∙ t) (λ lt. r.none_before j lt l) (eq-or-lt_of_le h);
        }

from_same : (test test' : ℕ → Bool) (m i : ℕ) → ((k : ℕ) → i ≤ k → k < i + m → test k ≡ test' k)
    → first_from test i m ≡ first_from test' i m
unfolding first_from
from_same test test' zero i same = refl
from_same test test' (suc m) i same =
    rw (
      same i (omega arith) (omega arith),
      from_same test test' m (suc i) (λ k h l. same k (omega arith) (omega arith)),
    )

-- ---- of n cells

pub first_none : (test : ℕ → Bool) (n : ℕ) → NoneBelow test n → first test n ≡ None
unfolding first
first_none test n none = from_none test n 0 (λ k h l. none k (omega arith))

pub first_at_lem : (test : ℕ → Bool) (n k : ℕ) → FirstAt test n k → first test n ≡ Some k
unfolding first
first_at_lem test n k f = from_at test n 0 k (omega arith) (omega arith) f.passes (λ j h l. f.none_before j l)

pub none_first : (test : ℕ → Bool) (n : ℕ) → first test n ≡ None → NoneBelow test n
unfolding first
none_first test n e k l = none_from test n 0 e k (omega arith) (omega arith)

pub at_first : (test : ℕ → Bool) (n k : ℕ) → first test n ≡ Some k → FirstAt test n k
unfolding first
at_first test n k e =
    let f = at_from test n 0 k e in
    record { below = omega arith; passes = f.passes; none_before = λ j l. f.none_before j (omega arith) l }

-- tests that agree on n cells find the same
pub first_same : (test test' : ℕ → Bool) (n : ℕ) → ((k : ℕ) → k < n → test k ≡ test' k) → first test n ≡ first test' n
unfolding first
first_same test test' n same = from_same test test' n 0 (λ k h l. same k (omega arith))

-- with none below i, the first of n is the first from i on
pub first_from_lem : (test : ℕ → Bool) (n i : ℕ) → i ≤ n → NoneBelow test i → first test n ≡ first_from test i (n - i)
first_from_lem test n i l none = go (first_from test i (n - i)) refl
  where
    -- what holds of the cells before k from i on holds of all before k
    before : (k : ℕ) → ((j : ℕ) → i ≤ j → j < k → test j ≡ false) → NoneBelow test k
    before k later j h =
        elim (dec_lt j i) [
          | yes g ↦ none j g
          | no g ↦ later j (omega arith) h
        ]

    go : (r : Found) → first_from test i (n - i) ≡ r → first test n ≡ first_from test i (n - i)
    go None e = first_none test n (before n (λ k g h. none_from test (n - i) i e k g (omega arith))) ∙ sym e
    go (Some k) e =
        let f = at_from test (n - i) i k e in
        first_at_lem test n k
        (record { below = omega (arith, f.most); passes = f.passes; none_before = before k f.none_before }) ∙ sym e
