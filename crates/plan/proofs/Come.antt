-- Work places: the units from a place up to an end have all come, told place by place; and spans stay true as units
-- come.
use mathlib.Core.Path.{◌≡◌, refl, sym, ◌∙◌}
use mathlib.Core.Bool.{Bool, true, false, cond, true≢false}
use mathlib.Core.List.{List, [], ◌∷◌}
use mathlib.Core.Logic.{◌≢◌, ⊎_elim}
use Prim.Native.Nat.{ℕ, zero, suc, ◌+◌, ◌-◌, ◌≤◌, ◌<◌}
use native.Mathlib.Nat.{eq-or-lt_of_le}
use native.Mathlib.Decide.{dec_lt, ℕ_discrete}
use native.Mathlib.Numerals.{add-one}
use native.Mathlib.Omega.{arith}
use borrow.Author.Tests.{lt-ltb, ne_eqb, leb-false}
use lib.Dec.{eqb, leb}
use lib.ListN.{length, get_or, set, replicate, length-set, length-replicate, get_or-replicate}
use lib.Seq.{drop-cons, get_or-set_same, get_or-set_other}
use Rattle.sheet.specs.Flow.{every}
use Rattle.sheet.proofs.Within.{both_true}
use Rattle.plan.specs.Steps.{has_come, Spans, all_come, greatest_span, span_of, missing_in}
use Rattle.std.specs.List.{position_from}
use Rattle.std.specs.Prelude.{None, Some}
use Rattle.sheet.specs.Answer.{Found, Outcome, Accepted, Refused}

-- ---- the units from a place up to an end

-- one of them that has not
pub record NotCome (from end : ℕ) (work : List ℕ) : Type 0 where
  pub place : ℕ
  pub least : from ≤ place
  pub most : place < end
  pub not_come : has_come (get_or work place 0) ≡ false

module _ (end : ℕ) (work : List ℕ) where
  -- there are none
  pub come_end : (from : ℕ) → end ≤ from → all_come from end work ≡ true
  unfolding all_come every
  come_end from h = let none : end - from ≡ 0 = omega arith in rw none

  module _ (most : end ≤ length work) where
    -- the first of them
    come_turn : (from : ℕ) → from < end
        → all_come from end work ≡ cond (has_come (get_or work from 0)) (all_come (suc from) end work) false
    unfolding all_come every
    come_turn from h =
        let more : end - from ≡ suc (end - suc from) = omega arith in
        let there : from < length work = omega arith in
        rw (more, drop-cons work from 0 there)

    pub come_no : (from : ℕ) → from < end → get_or work from 0 ≡ 0 → all_come from end work ≡ false
    come_no from h e = come_turn from h ∙ rw e

    -- some of them
    pub come_skip : (m from : ℕ) → ((t : ℕ) → from ≤ t → t < from + m → has_come (get_or work t 0) ≡ true)
        → all_come (from + m) end work ≡ all_come from end work
    come_skip zero from come = let here : from + 0 ≡ from = omega arith in rw here
    come_skip (suc m) from come =
        let rest = come_skip m (suc from) (λ t g l. come t (omega arith) (omega arith)) in
        let next : from + suc m ≡ suc from + m = omega arith in
        elim (dec_lt from end) [
          | yes h ↦ rw (come_turn from h, come from (omega arith) (omega arith), next) rest
          | no h ↦ come_end (from + suc m) (omega arith) ∙ sym (come_end from (omega arith))
        ]

    -- each of them
    pub come_at : (from t : ℕ) → all_come from end work ≡ true → from ≤ t → t < end → has_come (get_or work t 0) ≡ true
    come_at from t e h l = go (end - from) from e h (omega arith)
      where
        go : (m from : ℕ) → all_come from end work ≡ true → from ≤ t → end ≤ from + m → has_come (get_or work t 0) ≡ true
        go zero from e h k = absurd (omega arith)
        go (suc m) from e h k =
            let b = both_true (has_come (get_or work from 0)) (all_come (suc from) end work)
            (sym (come_turn from (omega arith)) ∙ e) in
            ⊎_elim (λ q. rw q at b.0) (λ lt. go m (suc from) b.1 lt (omega arith)) (eq-or-lt_of_le h)

    -- else one of them has not
    pub come_missing : (from : ℕ) → all_come from end work ≡ false → NotCome from end work
    come_missing from e = go (end - from) from e (omega arith)
      where
        go : (m from : ℕ) → all_come from end work ≡ false → end ≤ from + m → NotCome from end work
        go zero from e k = absurd (true≢false (sym (come_end from (omega arith)) ∙ e))
        go (suc m) from e k =
            elim (dec_lt from end) [
              | yes h ↦ at from h (has_come (get_or work from 0)) refl (sym (come_turn from h) ∙ e)
                  (λ rest. go m (suc from) rest (omega arith))
              | no h ↦ absurd (true≢false (sym (come_end from (omega arith)) ∙ e))
            ]
          where
            at : (from : ℕ) → from < end → (b : Bool) → has_come (get_or work from 0) ≡ b
                → cond b (all_come (suc from) end work) false ≡ false
                → (all_come (suc from) end work ≡ false → NotCome (suc from) end work) → NotCome from end work
            at from h true c e rest =
                let r = rest e in
                record { place = r.place; least = omega arith; most = r.most; not_come = r.not_come }
            at from h false c e rest =
                record { place = from; least = omega arith; most = h; not_come = c }

-- ---- spans

-- a span is some units, and none past the end
pub span_some : (i end : ℕ) → i < end → 0 < span_of i end
unfolding span_of
span_some i end h = go (leb (end - i) greatest_span)
  where
    go : (b : Bool) → 0 < cond b (end - i) greatest_span
    go true = omega arith
    go false = omega arith

span_most : (i end : ℕ) → span_of i end ≤ end - i
unfolding span_of
span_most i end = go (leb (end - i) greatest_span) refl
  where
    go : (b : Bool) → leb (end - i) greatest_span ≡ b → cond b (end - i) greatest_span ≤ end - i
    go true e = omega arith
    go false e = omega (arith, leb-false (end - i) greatest_span e)

-- none has come
pub spans_none : (n : ℕ) → Spans (replicate n 0)
spans_none n = record {
  within = λ j h.
      let l : j < n = omega (arith, length-replicate {A = ℕ} n 0) in
      omega (arith, get_or-replicate {A = ℕ} n j 0 0 l, h);
  come = λ j t h g k.
      let l : j < n = omega (arith, length-replicate {A = ℕ} n 0) in
      absurd (omega (arith, get_or-replicate {A = ℕ} n j 0 0 l));
}

-- one more has, after those up to an end
module _ (work : List ℕ) (i end : ℕ) (before : i < end) (most : end ≤ length work) where
  abbrev after : List ℕ
  after = set work i (span_of i end)

  pub come_here : get_or after i 0 ≡ span_of i end
  come_here = get_or-set_same work i (span_of i end) 0 (omega arith)

  pub come_other : (t : ℕ) → t ≢ i → get_or after t 0 ≡ get_or work t 0
  come_other t n = get_or-set_other work i t (span_of i end) 0 n

  pub has_come_here : has_come (get_or after i 0) ≡ true
  has_come_here = rw come_here (lt-ltb 0 (span_of i end) (span_some i end before))

  come_kept : (t : ℕ) → has_come (get_or work t 0) ≡ true → has_come (get_or after t 0) ≡ true
  come_kept t e =
      elim (ℕ_discrete t i) [
        | yes q ↦ rw q has_come_here
        | no n ↦ rw (come_other t n) e
      ]

  pub spans_set : Spans work → all_come (suc i) end work ≡ true → Spans after
  spans_set s e = record { within = within; come = come }
    where
      same : length after ≡ length work
      same = length-set work i (span_of i end)

      within : (j : ℕ) → j < length after → j + get_or after j 0 ≤ length after
      within j h =
          elim (ℕ_discrete j i) [
            | yes q ↦ rw (same, q, come_here) (omega (arith, span_most i end))
            | no n ↦ rw (same, come_other j n) (s.within j (omega (arith, same)))
          ]

      here : (t : ℕ) → i ≤ t → t < i + span_of i end → has_come (get_or after t 0) ≡ true
      here t g k =
          ⊎_elim (λ q. rw (← q) has_come_here)
          (λ lt. come_kept t (come_at end work most (suc i) t e lt (omega (arith, span_most i end)))) (eq-or-lt_of_le g)

      come : (j t : ℕ) → j < length after → j ≤ t → t < j + get_or after j 0 → has_come (get_or after t 0) ≡ true
      come j t h g k =
          elim (ℕ_discrete j i) [
            | yes q ↦ here t (omega arith) (rw (q, come_here) at k)
            | no n ↦ come_kept t (s.come j t (omega (arith, same)) g (rw (come_other j n) at k))
          ]

-- ---- the first that is missing, as a search for a place that is 0 finds it

abbrev pub missing_at : Found → Outcome
missing_at None = Accepted
missing_at (Some i) = Refused 22 (suc i)

abbrev pub is_zero : ℕ → Bool
is_zero m = eqb m 0

pub missing_found : (place : ℕ) (work : List ℕ) → missing_in place work ≡ missing_at (position_from is_zero place work)
unfolding missing_in
missing_found place [] = refl
missing_found place (zero ∷ work) = refl
missing_found place (suc m ∷ work) =
    rw (add-one place, lt-ltb 0 (suc m) (omega arith), ne_eqb (suc m) 0 (λ e. omega arith)) (missing_found (suc place) work)
