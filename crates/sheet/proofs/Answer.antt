-- Laws of outcomes told from the number of the first check that fails.
use mathlib.Core.Path.{◌≡◌, sym, ◌∙◌, ap}
use mathlib.Core.Logic.{◌≢◌}
use Prim.Native.Nat.{ℕ}
use native.Mathlib.Decide.{ℕ_discrete}
use borrow.Author.Tests.{ne_eqb}
use Rattle.std.specs.Prelude.{Result, Ok, Err}
use Rattle.sheet.specs.declared.Refusal.{Refusal}
use Rattle.sheet.specs.Answer.{Outcome, Accepted, Refused, outcome_of_fault}

pub accepted_not_refused : {refusal : Refusal} → Accepted ≡ Err refusal → ⊥
accepted_not_refused e = cc

pub no_fault_accepted : (fault : ℕ) → fault ≡ 0 → outcome_of_fault fault ≡ Accepted
no_fault_accepted fault e = rw e

pub fault_refused : (fault : ℕ) → fault ≢ 0 → outcome_of_fault fault ≡ Refused fault 0
fault_refused fault n = rw (ne_eqb fault 0 n)

pub accepted_no_fault : (fault : ℕ) → outcome_of_fault fault ≡ Accepted → fault ≡ 0
accepted_no_fault fault e = elim (ℕ_discrete fault 0) [
  | yes z ↦ z
  | no n ↦ absurd (accepted_not_refused (sym e ∙ fault_refused fault n))
]

pub refused_fault : (fault : ℕ) {refusal : Refusal} → outcome_of_fault fault ≡ Err refusal → fault ≢ 0
refused_fault fault e z = accepted_not_refused (sym (no_fault_accepted fault z) ∙ e)

pub refused_by_fault : (fault : ℕ) {refusal : Refusal} → outcome_of_fault fault ≡ Err refusal
    → ◌≡◌ {A = Outcome} (Err refusal) (Refused fault 0)
refused_by_fault fault e = sym e ∙ fault_refused fault (refused_fault fault e)

-- ---- the number and the place of a refusal

abbrev refusal_of : {T : Type 0} → Refusal → Result T Refusal → Refusal
refusal_of other (Ok x) = other
refusal_of other (Err refusal) = refusal

pub same_refusal : {T : Type 0} {r s : Refusal} → ◌≡◌ {A = Result T Refusal} (Err r) (Err s) → r ≡ s
same_refusal {r = r} e = ap (refusal_of r) e

pub same_number : {T : Type 0} {r s : Refusal} → ◌≡◌ {A = Result T Refusal} (Err r) (Err s) → r.number ≡ s.number
same_number e = ap (λ (r : Refusal). r.number) (same_refusal e)

pub same_place : {T : Type 0} {r s : Refusal} → ◌≡◌ {A = Result T Refusal} (Err r) (Err s) → r.place ≡ s.place
same_place e = ap (λ (r : Refusal). r.place) (same_refusal e)

pub same_refused : {T : Type 0} {r s : Refusal} → r.number ≡ s.number → r.place ≡ s.place
    → ◌≡◌ {A = Result T Refusal} (Err r) (Err s)
same_refused {T} {r} {s} n p =
    let e : ◌≡◌ {A = Result T Refusal} (Refused r.number r.place) (Refused s.number s.place) = rw (n, p) in e
