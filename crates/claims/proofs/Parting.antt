-- Where two digit lists part, and the digit rule, by recursion and by places; and leading digits.
use mathlib.Core.Path.{◌≡◌, refl, sym, ap}
use mathlib.Core.Bool.{Bool, true, false, cond, true≢false}
use mathlib.Core.List.{List, [], ◌∷◌}
use mathlib.Core.Logic.{◌⊎◌, inl, inr, ◌≢◌, ◌↔◌}
use Prim.Native.Nat.{ℕ, zero, suc, ◌≤◌, ◌<◌}
use native.Mathlib.Omega.{arith}
use lib.ListN.{length, get_or}
use Rattle.sheet.specs.Flow.{every, is_odd}
use Rattle.claims.specs.Parting.{PartAt, RuleAt, Begins, begins_none, begins_on}

abbrev pub all_odd : List ℕ → Bool
all_odd x = every is_odd x

-- there is a first place where both have a digit and these differ
pub data Parted : List ℕ → List ℕ → Type 0 where
  parted_now : {a b : ℕ} {x y : List ℕ} → a ≢ b → Parted (a ∷ x) (b ∷ y)
  parted_on : {a : ℕ} {x y : List ℕ} → Parted x y → Parted (a ∷ x) (a ∷ y)

-- at that place the digit of x is smaller, and the digits of x from there on are all odd
pub data Rule : List ℕ → List ℕ → Type 0 where
  rule_now : {a b : ℕ} {x y : List ℕ} → a < b → all_odd (a ∷ x) ≡ true → Rule (a ∷ x) (b ∷ y)
  rule_on : {a : ℕ} {x y : List ℕ} → Rule x y → Rule (a ∷ x) (a ∷ y)

-- how two labels stand to one another, where W says that water passes and is known under G
pub data Verdict (G W : Type 0) : List ℕ → List ℕ → Type 0 where
  alike : {x : List ℕ} → Verdict G W x x
  less : {a b : ℕ} {x y : List ℕ} → a < b → (G → W ↔ (all_odd (a ∷ x) ≡ true)) → Verdict G W (a ∷ x) (b ∷ y)
  more : {a b : ℕ} {x y : List ℕ} → b < a → ¬ W → Verdict G W (a ∷ x) (b ∷ y)
  on : {a : ℕ} {x y : List ℕ} → Verdict G W x y → Verdict G W (a ∷ x) (a ∷ y)

pub rule_first : {a b : ℕ} {x y : List ℕ} → a ≢ b → Rule (a ∷ x) (b ∷ y) → (a < b) × (all_odd (a ∷ x) ≡ true)
rule_first n (rule_now l o) = (l, o)
rule_first n (rule_on r) = absurd (n refl)

rule_same : {a b : ℕ} {x y : List ℕ} → a ≡ b → Rule (a ∷ x) (b ∷ y) → Rule x y
rule_same e (rule_now l o) = absurd (omega arith)
rule_same e (rule_on r) = r

pub rule_rest : {a : ℕ} {x y : List ℕ} → Rule (a ∷ x) (a ∷ y) → Rule x y
rule_rest r = rule_same refl r

-- equal labels, or labels that part, and then the rule says whether water passes
pub judged : {G W : Type 0} {x y : List ℕ} → Verdict G W x y → (x ≡ y) ⊎ (Parted x y × (G → W ↔ Rule x y))
judged alike = inl refl
judged (less {a = a} {b = b} l f) =
    let n : a ≢ b = omega arith in
    inr (parted_now n, λ g. (λ w. rule_now l ((f g).0 w), λ r. (f g).1 (rule_first n r).1))
judged (more {a = a} {b = b} l f) =
    let n : a ≢ b = omega arith in
    inr (parted_now n, λ g. (λ w. absurd (f w), λ r. let s = (rule_first n r).0 in absurd (omega arith)))
judged (on v) =
    elim (judged v) [
      | inl e ↦ inl (rw e)
      | inr k ↦ inr (
        parted_on k.0,
        λ g. (λ w. rule_on ((k.1 g).0 w), λ r. (k.1 g).1 (rule_rest r)),
      )
    ]

-- labels that part are not equal, and neither begins the other
pub parted_apart : {x y : List ℕ} → Parted x y → x ≢ y
parted_apart (parted_now n) e = n (cc)
parted_apart (parted_on r) e = parted_apart r (cc)

pub begins_not_parted : {x y : List ℕ} → Begins x y → Parted x y → ⊥
begins_not_parted b p = go b p refl
  where
    go : {x y z : List ℕ} → Begins x y → Parted x z → y ≡ z → ⊥
    go begins_none p e = elim p [ ]
    go (begins_on b) (parted_now n) e = n (cc)
    go (begins_on b) (parted_on p) e = go b p (cc)

-- where a label begins another, their first digits are the same, and its rest begins the other's rest
pub begins_first : {a b : ℕ} {w x : List ℕ} → Begins (a ∷ w) (b ∷ x) → a ≡ b
begins_first (begins_on h) = refl

pub begins_rest : {a b : ℕ} {w x : List ℕ} → Begins (a ∷ w) (b ∷ x) → Begins w x
begins_rest (begins_on h) = h

part_next : {a : ℕ} {x y : List ℕ} {i : ℕ} → PartAt x y i → PartAt (a ∷ x) (a ∷ y) (suc i)
part_next {a} {x} {y} {i} p =
    record { in_x = omega (arith, p.in_x); in_y = omega (arith, p.in_y); before = go; differ = p.differ }
  where
    go : (j : ℕ) → j < suc i → get_or (a ∷ x) j 0 ≡ get_or (a ∷ y) j 0
    go zero l = refl
    go (suc j) l = p.before j (omega arith)

pub part_prev : {a b : ℕ} {x y : List ℕ} {i : ℕ} → PartAt (a ∷ x) (b ∷ y) (suc i) → (a ≡ b) × PartAt x y i
part_prev {a} {b} {x} {y} {i} p = (
  p.before 0 (omega arith),
  record {
    in_x = omega (arith, p.in_x);
    in_y = omega (arith, p.in_y);
    before = λ j l. p.before (suc j) (omega arith);
    differ = p.differ;
  },
)

pub parted_at : {x y : List ℕ} → Parted x y → (i : ℕ) × PartAt x y i
parted_at (parted_now n) =
    (0, record { in_x = omega arith; in_y = omega arith; before = λ j l. absurd (omega arith); differ = n })
parted_at (parted_on p) = let r = parted_at p in (suc r.0, part_next r.1)

pub at_parted : (x y : List ℕ) (i : ℕ) → PartAt x y i → Parted x y
at_parted [] y i p = absurd (omega (arith, p.in_x))
at_parted (a ∷ x) [] i p = absurd (omega (arith, p.in_y))
at_parted (a ∷ x) (b ∷ y) zero p = parted_now p.differ
at_parted (a ∷ x) (b ∷ y) (suc i) p = let r = part_prev p in rw r.0 (parted_on (at_parted x y i r.1))

pub all_odd_at : (x : List ℕ) → all_odd x ≡ true → (j : ℕ) → j < length x → is_odd (get_or x j 0) ≡ true
unfolding every
all_odd_at [] h j l = absurd (omega arith)
all_odd_at (a ∷ x) h j l = go (is_odd a) refl j l (all_odd_at x) h
  where
    go : (b : Bool) → is_odd a ≡ b → (j : ℕ) → j < suc (length x)
        → (all_odd x ≡ true → (i : ℕ) → i < length x → is_odd (get_or x i 0) ≡ true)
        → cond b (all_odd x) false ≡ true → is_odd (get_or (a ∷ x) j 0) ≡ true
    go true e zero l f h = e
    go true e (suc j) l f h = f h j (omega arith)
    go false e j l f h = absurd (true≢false (sym h))

pub at_all_odd : (x : List ℕ) → ((j : ℕ) → j < length x → is_odd (get_or x j 0) ≡ true) → all_odd x ≡ true
unfolding every
at_all_odd [] f = refl
at_all_odd (a ∷ x) f = rw (f 0 (omega arith)) (at_all_odd x (λ j l. f (suc j) (omega arith)))

pub rule_at_lem : {x y : List ℕ} → Rule x y → (i : ℕ) → PartAt x y i → RuleAt x y i
rule_at_lem (rule_now {a = a} {x = x} l o) zero p = record { smaller = l; odd = λ j k m. all_odd_at (a ∷ x) o j m }
rule_at_lem (rule_now l o) (suc i) p = let e = (part_prev p).0 in absurd (omega arith)
rule_at_lem (rule_on r) zero p = absurd (p.differ refl)
rule_at_lem (rule_on {a = a} {x = x} r) (suc i) p =
    let s = rule_at_lem r i (part_prev p).1 in
    record { smaller = s.smaller; odd = go s.odd }
  where
    go : ((j : ℕ) → i ≤ j → j < length x → is_odd (get_or x j 0) ≡ true) → (j : ℕ) → suc i ≤ j → j < suc (length x)
        → is_odd (get_or (a ∷ x) j 0) ≡ true
    go f zero l m = absurd (omega arith)
    go f (suc j) l m = f j (omega arith) (omega arith)

pub at_rule : (x y : List ℕ) (i : ℕ) → PartAt x y i → RuleAt x y i → Rule x y
at_rule [] y i p r = absurd (omega (arith, p.in_x))
at_rule (a ∷ x) [] i p r = absurd (omega (arith, p.in_y))
at_rule (a ∷ x) (b ∷ y) zero p r = rule_now r.smaller (at_all_odd (a ∷ x) (λ j l. r.odd j (omega arith) l))
at_rule (a ∷ x) (b ∷ y) (suc i) p r =
    let s = part_prev p in
    rw s.0
    (rule_on
    (at_rule x y i s.1 (record { smaller = r.smaller; odd = λ j l m. r.odd (suc j) (omega arith) (omega arith) })))

pub part_differs : {x y : List ℕ} {i : ℕ} → PartAt x y i → x ≢ y
part_differs {x} {y} {i} p e = p.differ (ap (λ (l : List ℕ). get_or l i 0) e)

-- the place where two digit lists part is the same the other way
pub part_turned : {x y : List ℕ} {i : ℕ} → PartAt x y i → PartAt y x i
part_turned t = record {
  in_x = t.in_y;
  in_y = t.in_x;
  before = λ j l. sym (t.before j l);
  differ = λ e. t.differ (sym e);
}

-- the rule by recursion and at the place where the labels part
pub both_ways : {W : Type 0} {x y : List ℕ} {i : ℕ} → W ↔ Rule x y → PartAt x y i → W ↔ RuleAt x y i
both_ways {W} {x} {y} {i} f p = (λ w. rule_at_lem (f.0 w) i p, λ r. f.1 (at_rule x y i p r))
