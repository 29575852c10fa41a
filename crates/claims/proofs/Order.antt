-- Well-made runs: the order of a river list, from which the digit rule follows.
use mathlib.Core.Path.{◌≡◌}
use mathlib.Core.Bool.{Bool, true, false, true≢false}
use mathlib.Core.Option.{Option, none, some}
use mathlib.Core.List.{[], ◌∷◌, ◌++◌}
use Prim.Native.Nat.{ℕ, suc}
use native.Mathlib.Omega.{arith}
use Rattle.sheet.specs.Water.{Passes, here, there}
use Rattle.sheet.specs.River.{Run, Entry, stem, mouth}
use Rattle.claims.specs.Runs.{Above, Chain, chain_end, chain_stem, chain_mouth}
use Rattle.claims.proofs.Runs.{pass_trans, in_left, in_right, pass_dist, pass_same, Has, In, StemOf, is_stem}
use Rattle.claims.proofs.Runs.{is_under, at_head, in_tail, stem_here, stem_there}
use Rattle.sheet.specs.Answer.{Next}
use Rattle.std.specs.Prelude.{Some}

-- a donor of s past `old` that c's water passes
pub record Under (next : ℕ → Next) (heavier : ℕ → ℕ → Bool) (s : ℕ) (old : Option ℕ) (c : ℕ) : Type 0 where
  pub donor : ℕ
  pub steps : next donor ≡ Some s
  pub above : Above heavier old donor
  pub passed : Passes next c donor

module _ {heavier : ℕ → ℕ → Bool}
    (lighter : (u v w : ℕ) → heavier w v ≡ true → heavier v u ≡ true → heavier w u ≡ true) where
  above_trans : (old : Option ℕ) {v w : ℕ} → heavier w v ≡ true → Above heavier old v → Above heavier old w
  above_trans none h a = tt
  above_trans (some u) {v} {w} h a = lighter u v w h a

module _ {next : ℕ → Next} {heavier : ℕ → ℕ → Bool}
    (lighter : (u v w : ℕ) → heavier w v ≡ true → heavier v u ≡ true → heavier w u ≡ true) where
  pub under : {s : ℕ} {old : Option ℕ} {R : Run} {c : ℕ} → Chain next heavier s old R → In next R c
      → Under next heavier s old c
  under chain_end i = elim i [ ]
  under (chain_stem {t = t} e a w) (at_head is_stem) = record { donor = t; steps = e; above = a; passed = here }
  under (chain_stem {t = t} e a w) (in_tail i) =
      let u = under w i in
      record { donor = t; steps = e; above = a; passed = pass_trans u.passed (there u.steps here) }
  under (chain_mouth {v = v} e a w) (at_head (is_under h)) = record { donor = v; steps = e; above = a; passed = h }
  under {old = old} (chain_mouth e a w) (in_tail i) =
      let u = under w i in
      record { donor = u.donor; steps = u.steps; above = above_trans lighter old u.above a; passed = u.passed }

  -- every cell of the run passes the stem cell before it
  pub chain_passes : {s : ℕ} {old : Option ℕ} {R : Run} {c : ℕ} → Chain next heavier s old R → In next R c
      → Passes next c s
  chain_passes w i = let u = under w i in pass_trans u.passed (there u.steps here)

pub data Ordered (next : ℕ → Next) : Run → Type 0 where
  ordered_end : Ordered next []
  ordered_cons : {e : Entry} {R : Run}
      → ((q p : ℕ) → Has next e q → In next R p → ¬ Passes next q p)
      → ((s q : ℕ) → StemOf (e ∷ []) s → In next R q → Passes next q s)
      → Ordered next R → Ordered next (e ∷ R)

nil_stem : {s : ℕ} → StemOf [] s → ⊥
nil_stem = elim [ ]

no_stem : {v s : ℕ} → StemOf (mouth v ∷ []) s → ⊥
no_stem (stem_there h) = nil_stem h

module _ {next : ℕ → Next} where
  pub ordered_left : (A B : Run) → Ordered next (A ++ B) → Ordered next A
  ordered_left [] B o = ordered_end
  ordered_left (e ∷ A) B (ordered_cons n f o) =
      ordered_cons (λ q p h i. n q p h (in_left B i)) (λ s q h i. f s q h (in_left B i)) (ordered_left A B o)

  pub ordered_right : (A B : Run) → Ordered next (A ++ B) → Ordered next B
  ordered_right [] B o = o
  ordered_right (e ∷ A) B (ordered_cons n f o) = ordered_right A B o

  -- nothing in A passes anything in B
  pub not_back : (A B : Run) {q p : ℕ} → Ordered next (A ++ B) → In next A q → In next B p → ¬ Passes next q p
  not_back [] B o i j = elim i [ ]
  not_back (e ∷ A) B {q} {p} (ordered_cons n f o) (at_head h) j = n q p h (in_right A j)
  not_back (e ∷ A) B (ordered_cons n f o) (in_tail i) j = not_back A B o i j

  -- everything in B passes each stem cell of A
  pub stem_first : (A B : Run) {s q : ℕ} → Ordered next (A ++ B) → StemOf A s → In next B q → Passes next q s
  stem_first [] B o s j = elim s [ ]
  stem_first (stem t ∷ A) B {q = q} (ordered_cons n f o) stem_here j = f t q stem_here (in_right A j)
  stem_first (e ∷ A) B (ordered_cons n f o) (stem_there i) j = stem_first A B o i j

module _ {next : ℕ → Next} {heavier : ℕ → ℕ → Bool}
    (dist : ℕ → ℕ) (falls : (u r : ℕ) → next u ≡ Some r → dist u ≡ suc (dist r))
    (lighter : (u v w : ℕ) → heavier w v ≡ true → heavier v u ≡ true → heavier w u ≡ true)
    (unlike : (u : ℕ) → heavier u u ≡ false) where
  stem_not : {s : ℕ} {R : Run} → Chain next heavier s none R → (q p : ℕ) → Has next (stem s) q → In next R p
      → ¬ Passes next q p
  stem_not {s} w q p is_stem i h =
      let u = under lighter w i in
      let k = pass_dist dist falls (pass_trans h u.passed) in
      omega (arith, falls u.donor s u.steps)

  mouth_not : {s v : ℕ} {R : Run} → next v ≡ Some s → Chain next heavier s (some v) R → (q p : ℕ) → Has next (mouth v) q
      → In next R p → ¬ Passes next q p
  mouth_not {s} {v} e w q p (is_under k) i h =
      let u = under lighter w i in
      let level : dist u.donor ≡ dist v = omega (arith, falls u.donor s u.steps, falls v s e) in
      let same : u.donor ≡ v = pass_same dist falls (pass_trans h u.passed) k level in
      let more : heavier u.donor v ≡ true = u.above in
      let a : heavier v v ≡ true = rw same at more in
      let b : heavier v v ≡ false = unlike v in
      true≢false (cc)

  stem_all : {t : ℕ} {R : Run} → Chain next heavier t none R → (s q : ℕ) → StemOf (stem t ∷ []) s → In next R q
      → Passes next q s
  stem_all w s q stem_here i = chain_passes lighter w i
  stem_all w s q (stem_there m) i = elim m [ ]

  pub chain_ordered : {s : ℕ} {old : Option ℕ} {R : Run} → Chain next heavier s old R → Ordered next R
  chain_ordered chain_end = ordered_end
  chain_ordered (chain_stem e a w) = ordered_cons (stem_not w) (stem_all w) (chain_ordered w)
  chain_ordered (chain_mouth e a w) = ordered_cons (mouth_not e w) (λ s q h i. absurd (no_stem h)) (chain_ordered w)

  pub stem_ordered : {s : ℕ} {R : Run} → Chain next heavier s none R → Ordered next (stem s ∷ R)
  stem_ordered w = ordered_cons (stem_not w) (stem_all w) (chain_ordered w)
