-- The outcome of an inspection, told from what its searches found, and what acceptance tells.
use mathlib.Core.Path.{◌≡◌, refl, sym, ◌∙◌, ap}
use mathlib.Core.Bool.{Bool, true, false, not, true≢false}
use mathlib.Core.List.{List}
use Prim.Native.Nat.{ℕ, ◌+◌, ◌*◌, ◌-◌, ◌<◌}
use native.Mathlib.Decide.{ℕ_discrete}
use native.Mathlib.Omega.{arith}
use lib.Dec.{eqb, ltb}
use lib.ListN.{get_or, take, drop}
use lib.Seq.{get_or-take, get_or-drop}
use borrow.Author.Tests.{ltb-true, lt-ltb, le-ltb, lt-leb, eq-eqb, ne_eqb, not-false}
use Rattle.sheet.specs.Direction.{is_code}
use Rattle.sheet.specs.Sheet.{Grid, cells, dir_at, inside, next, first}
use Rattle.sheet.specs.Water.{reaches_outlet}
use Rattle.sheet.specs.Refusal.{both, bad_code, undrained, refused_at, outcome_on}
use Rattle.sheet.proofs.Cells.{inside_lt}
use Rattle.sheet.proofs.First.{first_same, none_first}
use Rattle.checks.specs.declared.Target.TheVariants.{Inside, Unreached}
use Rattle.checks.specs.Search.{is_target}
use Rattle.drainage.specs.declared.Inspection.{Inspection}
use Rattle.upstream.specs.Work.{ranks_part, sizes_part, rank_of, KeptFrom}
use Rattle.upstream.specs.Search.{Searched, Coded, Drained}
use Rattle.drainage.specs.Inspect.{after_search, InspectionResult}
use Rattle.sheet.specs.Answer.{Found, Accepted, Refused}
use Rattle.std.specs.Prelude.{None, Some}

-- ---- what was looked for is what the definition looks for

-- the part of the work places that has the ranks
pub ranks_part_lem : (n : ℕ) (work : List ℕ) (c : ℕ) → c < n
    → get_or (take (ranks_part * n + n - ranks_part * n) (drop (ranks_part * n) work)) c 0 ≡ rank_of n work c
ranks_part_lem n work c l =
    get_or-take (ranks_part * n + n - ranks_part * n) (drop (ranks_part * n) work) c 0 (omega arith) ∙ get_or-drop
    (ranks_part * n) work c 0

rank_none : (r : ℕ) → eqb r 0 ≡ not (ltb 0 r)
rank_none r = elim (ℕ_discrete r 0) [
  | yes e ↦ eq-eqb r 0 e ∙ ap not (sym (le-ltb 0 r (omega arith)))
  | no d ↦ ne_eqb r 0 d ∙ ap not (sym (lt-ltb 0 r (omega arith)))
]

module _ (G : Grid) where
  abbrev First : (ℕ → Bool) → Found → Type 0
  First test x = first test (cells G) ≡ x

  module _ (reached : List ℕ) where
    pub inside_is : first (is_target G reached Inside) (cells G) ≡ first (inside G) (cells G)
    unfolding is_target
    inside_is = first_same (is_target G reached Inside) (inside G) (cells G) (λ c l. refl)

    pub undrained_is : {work : List ℕ} {queued : ℕ} → Searched G work queued
        → ((c : ℕ) → c < cells G → get_or reached c 0 ≡ rank_of (cells G) work c)
        → first (is_target G reached Unreached) (cells G) ≡ first (undrained G) (cells G)
    unfolding is_target undrained
    undrained_is {work} s ranks =
        first_same (is_target G reached Unreached) (undrained G) (cells G) (λ c l. rw (
          ranks c l,
          rank_none (rank_of (cells G) work c),
          s.reached c l,
        ) (go (inside G c) (reaches_outlet (next G) (cells G) c)))
      where
        go : (a b : Bool) → both a (not (both a b)) ≡ both a (not b)
        go true b = refl
        go false b = refl

  -- ---- the outcomes

  pub refused_4 : {c : ℕ} → First (bad_code G) (Some c) → Refused 4 c ≡ outcome_on G
  unfolding outcome_on
  refused_4 e = rw e

  pub refused_5 : First (bad_code G) None → First (inside G) None → Refused 5 0 ≡ outcome_on G
  unfolding outcome_on
  refused_5 e f = rw (e, f)

  pub refused_later : {x : ℕ} → First (bad_code G) None → First (inside G) (Some x)
      → refused_at 6 (first (undrained G) (cells G)) Accepted ≡ outcome_on G
  unfolding outcome_on
  refused_later e f = rw (e, f)

-- ---- what acceptance tells

not_accepted : {number place : ℕ} → Refused number place ≡ Accepted → ⊥
not_accepted e = let z : ◌≡◌ {A = ℕ} 0 1 = cc in omega arith

accepted_none : (a : Found) → refused_at 6 a Accepted ≡ Accepted → a ≡ None
unfolding refused_at
accepted_none (Some c) e = absurd (not_accepted e)
accepted_none None e = refl

module _ (G : Grid) where
  pub coded_of : First G (bad_code G) None → Coded G
  unfolding bad_code
  coded_of e c l = not-false (is_code (dir_at G c)) (none_first (bad_code G) (cells G) e c l)

  module _ {work : List ℕ} {queued : ℕ} (s : Searched G work queued) (none : First G (undrained G) None) where
    pub all_reach : (c : ℕ) → inside G c ≡ true → reaches_outlet (next G) (cells G) c ≡ true
    unfolding undrained
    all_reach c i =
        let u : both (inside G c) (not (reaches_outlet (next G) (cells G) c)) ≡ false = none_first (undrained G)
        (cells G) none c (inside_lt G c i) in
        not-false _ (rw i at u)

    pub drained_of : Coded G → Drained G work queued
    drained_of coded = record {
      coded = coded;
      searched = s;
      all = λ c i. ltb-true 0 (rank_of (cells G) work c) (s.reached c (inside_lt G c i) ∙ rw i (all_reach c i));
    }

-- ---- the inspection

-- 4 and 5 are told before the search
pub inspected_before : {G : Grid} {work : List ℕ} {r : Inspection} {number place : ℕ}
    → r.outcome ≡ Refused number place → number < 6 → Refused number place
    ≡ outcome_on G → InspectionResult G work work r
inspected_before {number = number} e early o = record {
  outcome = e ∙ o;
  unwritten = λ a. refl;
  searched = λ a. absurd (true≢false (sym a ∙ ap after_search e ∙ lt-leb 6 number early));
  drained = λ a. absurd (not_accepted (sym e ∙ a));
  kept = refl;
}

-- 6 after it
after_search_lem : (a : Found) → after_search (refused_at 6 a Accepted) ≡ true
unfolding refused_at
after_search_lem (Some c) = refl
after_search_lem None = refl

-- a sheet of codes with an inside cell, searched
pub inspected : {G : Grid} {work work' : List ℕ} {r : Inspection} {x : ℕ} → First G (bad_code G) None
    → First G (inside G) (Some x) → Searched G work' r.queued
    → r.outcome ≡ refused_at 6 (first (undrained G) (cells G)) Accepted → KeptFrom (sizes_part * cells G) work work'
    → InspectionResult G work work' r
inspected {G} {r = r} bad some s e kept = record {
  outcome = e ∙ refused_later G bad some;
  unwritten = λ a. absurd
      (true≢false (sym (after_search_lem (first (undrained G) (cells G))) ∙ ap after_search (sym e) ∙ a));
  searched = λ a. s;
  drained = λ a. drained_of G s (none a) (coded_of G bad);
  kept = kept;
}
  where
    none : r.outcome ≡ Accepted → first (undrained G) (cells G) ≡ None
    none a = accepted_none (first (undrained G) (cells G)) (sym e ∙ a)
