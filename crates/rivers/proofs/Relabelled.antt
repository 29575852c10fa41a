-- Laws of `relabelled` and `cells_labelled`: places one by one, and that a slice is filled position by position.
use mathlib.Core.Path.{◌≡◌, refl, sym, ap, ◌∙◌}
use mathlib.Core.Bool.{Bool, true, false, cond}
use mathlib.Core.List.{List, [], ◌∷◌}
use Prim.Native.Nat.{ℕ, zero, suc, ◌+◌, ◌*◌, ◌-◌, ◌%◌, ◌≤◌, ◌<◌}
use native.Mathlib.Omega.{arith}
use native.Mathlib.Nat.{zero-add, suc-add, add-zero, add-suc}
use native.Mathlib.Numerals.{add-one}
use lib.Dec.{eqb}
use lib.ListN.{length, get_or, set, length-set}
use lib.Seq.{ext_get_or, get_or-set_same, get_or-set_other}
use borrow.Author.Tests.{eqb-true, eqb-false}
use Rattle.sheet.specs.declared.Label.{Label}
use Rattle.sheet.specs.Record.{label_of_numbers, label_places, label_at, place_at, number_in}
use Rattle.sheet.proofs.Slices.{places_enough, label_at_lem, first_in, rest_in, number_same, number_choice, number_twice}
use Rattle.rivers.specs.Labelled.{relabelled_from, relabelled, cells_labelled, stands}

module _ (t : ℕ → Bool) (f : ℕ → ℕ) where
  from_length : (i : ℕ) (l : List ℕ) → length (relabelled_from t f i l) ≡ length l
  unfolding relabelled_from
  from_length i [] = refl
  from_length i (x ∷ l) = ap suc (from_length (suc i) l)

  from_at : (i : ℕ) (l : List ℕ) (c : ℕ) → c < length l
      → get_or (relabelled_from t f i l) c 0 ≡ cond (t (i + c)) (f (i + c)) (get_or l c 0)
  unfolding relabelled_from
  from_at i [] c h = absurd (omega arith)
  from_at i (x ∷ l) zero h = rw (add-zero i)
  from_at i (x ∷ l) (suc c) h = rw (suc-add i c, ← add-suc i c) at (from_at (suc i) l c (omega arith))

  pub relabelled_length : (l : List ℕ) → length (relabelled t f l) ≡ length l
  unfolding relabelled
  relabelled_length l = from_length 0 l

  pub relabelled_at : (l : List ℕ) (c : ℕ) → c < length l → get_or (relabelled t f l) c 0 ≡ cond (t c) (f c) (get_or l c 0)
  unfolding relabelled
  relabelled_at l c h = rw (zero-add c) at (from_at 0 l c h)

  pub relabelled_is : (l m : List ℕ) → length m ≡ length l
      → ((c : ℕ) → c < length l → get_or m c 0 ≡ cond (t c) (f c) (get_or l c 0)) → m ≡ relabelled t f l
  relabelled_is l m q e =
      ext_get_or 0 m (relabelled t f l) (q ∙ sym (relabelled_length l))
      (λ c h. e c (omega arith) ∙ sym (relabelled_at l c (omega arith)))

  pub relabelled_none : (l : List ℕ) → ((c : ℕ) → t c ≡ false) → relabelled t f l ≡ l
  relabelled_none l e = sym (relabelled_is l l refl (λ c h. rw (e c) refl))

-- the same places get the same values
pub relabelled_same : (t s : ℕ → Bool) (f g : ℕ → ℕ) (l : List ℕ) → ((c : ℕ) → t c ≡ s c)
    → ((c : ℕ) → t c ≡ true → f c ≡ g c)
    → relabelled t f l ≡ relabelled s g l
relabelled_same t s f g l e d =
    relabelled_is s g l (relabelled t f l) (relabelled_length t f l)
    (λ c h. relabelled_at t f l c h ∙ go c (t c) refl (get_or l c 0))
  where
    go : (c : ℕ) (b : Bool) → t c ≡ b → (x : ℕ) → cond (t c) (f c) x ≡ cond (s c) (g c) x
    go c true q x = rw (← e c, q) (d c q)
    go c false q x = rw (← e c, q)

-- three times one after another
module _ (t t₁ t₂ t₃ : ℕ → Bool) (f f₁ f₂ f₃ : ℕ → ℕ)
    (e : (c x : ℕ) → cond (t₃ c) (f₃ c) (cond (t₂ c) (f₂ c) (cond (t₁ c) (f₁ c) x)) ≡ cond (t c) (f c) x) where
  pub relabelled_thrice : (l : List ℕ) → relabelled t₃ f₃ (relabelled t₂ f₂ (relabelled t₁ f₁ l)) ≡ relabelled t f l
  relabelled_thrice l =
      let a = relabelled_length t₁ f₁ l in
      let b = relabelled_length t₂ f₂ (relabelled t₁ f₁ l) in
      let d = relabelled_length t₃ f₃ (relabelled t₂ f₂ (relabelled t₁ f₁ l)) in
      relabelled_is t f l (relabelled t₃ f₃ (relabelled t₂ f₂ (relabelled t₁ f₁ l))) (d ∙ b ∙ a)
      (λ c h.
      rw (
        relabelled_at t₃ f₃ (relabelled t₂ f₂ (relabelled t₁ f₁ l)) c (omega arith),
        relabelled_at t₂ f₂ (relabelled t₁ f₁ l) c (omega arith),
        relabelled_at t₁ f₁ l c h,
      )
      (e c (get_or l c 0)))

-- ---- slices of labels

pub labelled_length : (t : ℕ → Bool) (f : ℕ → Label) (l : List ℕ) → length (cells_labelled t f l) ≡ length l
unfolding cells_labelled
labelled_length t f l = relabelled_length _ _ l

-- the same cells get the same labels
pub labelled_same : (t s : ℕ → Bool) (f g : ℕ → Label) (l : List ℕ) → ((c : ℕ) → t c ≡ s c)
    → ((c : ℕ) → t c ≡ true → f c ≡ g c)
    → cells_labelled t f l ≡ cells_labelled s g l
unfolding cells_labelled
labelled_same t s f g l e d =
    relabelled_same _ _ _ _ l (λ i. e (place_at i)) (λ i h. number_same f g i (d (place_at i) h))

-- three times one after another
module _ (t t₁ t₂ t₃ : ℕ → Bool) (f f₁ f₂ f₃ : ℕ → Label)
    (e : (c : ℕ) (x : Label) → cond (t₃ c) (f₃ c) (cond (t₂ c) (f₂ c) (cond (t₁ c) (f₁ c) x)) ≡ cond (t c) (f c) x)
  where
    pub labelled_thrice : (l : List ℕ)
        → cells_labelled t₃ f₃ (cells_labelled t₂ f₂ (cells_labelled t₁ f₁ l)) ≡ cells_labelled t f l
    unfolding cells_labelled
    labelled_thrice l = relabelled_thrice _ _ _ _ _ _ _ _ numbers l
      where
        numbers : (i x : ℕ)
            → cond (t₃ (place_at i)) (number_in f₃ i)
            (cond (t₂ (place_at i)) (number_in f₂ i) (cond (t₁ (place_at i)) (number_in f₁ i) x))
            ≡ cond (t (place_at i)) (number_in f i) x
        numbers i x =
            let old : ℕ → Label = λ c. label_of_numbers x x in
            let once : ℕ → Label = λ c. cond (t₁ c) (f₁ c) (old c) in
            let twice : ℕ → Label = λ c. cond (t₂ c) (f₂ c) (once c) in
            let first = number_choice t₁ f₁ old i ∙ ap (λ (y : ℕ). cond (t₁ (place_at i)) (number_in f₁ i) y)
            (number_twice x i) in
            let second = number_choice t₂ f₂ once i ∙ ap (λ (y : ℕ). cond (t₂ (place_at i)) (number_in f₂ i) y) first in
            let third = number_choice t₃ f₃ twice i ∙ ap (λ (y : ℕ). cond (t₃ (place_at i)) (number_in f₃ i) y) second in
            let same = number_same (λ c. cond (t₃ c) (f₃ c) (twice c)) (λ c. cond (t c) (f c) (old c)) i
            (e (place_at i) (label_of_numbers x x)) in
            let whole = number_choice t f old i ∙ ap (λ (y : ℕ). cond (t (place_at i)) (number_in f i) y)
            (number_twice x i) in
            sym third ∙ same ∙ whole

place_first : (c : ℕ) → place_at (2 * c) ≡ c
unfolding place_at
place_first c = omega arith

place_rest : (c : ℕ) → place_at (2 * c + 1) ≡ c
unfolding place_at
place_rest c = omega arith

-- the label at a place
pub labelled_at : (t : ℕ → Bool) (f : ℕ → Label) (l : List ℕ) (c : ℕ) → c < label_places (length l)
    → label_at (cells_labelled t f l) c ≡ cond (t c) (f c) (label_at l c)
unfolding cells_labelled
labelled_at t f l c h =
    let room : 2 * c + 1 < length l = omega (arith, places_enough (suc c) (length l) h) in
    let first = relabelled_at (λ i. t (place_at i)) (number_in f) l (2 * c) (omega arith) in
    let rest = relabelled_at (λ i. t (place_at i)) (number_in f) l (2 * c + 1) room in
    label_at_lem (cells_labelled t f l) c (rw (labelled_length t f l) h)
    ∙ rw (first, rest, place_first c, place_rest c, label_at_lem l c h) (go (t c))
  where
    go : (b : Bool)
        → label_of_numbers (cond b (number_in f (2 * c)) (get_or l (2 * c) 0))
        (cond b (number_in f (2 * c + 1)) (get_or l (2 * c + 1) 0))
        ≡ cond b (f c) (label_of_numbers (get_or l (2 * c) 0) (get_or l (2 * c + 1) 0))
    go true = rw (first_in f c, rest_in f c)
    go false = refl

-- the numbers of a label set at a place
abbrev label_set : Label → ℕ → List ℕ → List ℕ
label_set p at l = set (set l (2 * at) p.first) (2 * at + 1) p.rest

module _ (p : Label) (at : ℕ) (l : List ℕ) (room : at < label_places (length l)) where
  long : 2 * at + 1 < length l
  long = omega (arith, places_enough (suc at) (length l) room)

  set_length : length (label_set p at l) ≡ length l
  set_length = length-set (set l (2 * at) p.first) (2 * at + 1) p.rest ∙ length-set l (2 * at) p.first

  set_here : (i : ℕ) → place_at i ≡ at → get_or (label_set p at l) i 0 ≡ number_in (λ c. p) i
  unfolding number_in place_at
  set_here i e = go (eqb (i % 2) 0) refl
    where
      go : (even : Bool) → eqb (i % 2) 0 ≡ even → get_or (label_set p at l) i 0 ≡ cond even p.first p.rest
      go true q =
          let is : i ≡ 2 * at = omega (arith, e, eqb-true (i % 2) 0 q) in
          rw is (get_or-set_other (set l (2 * at) p.first) (2 * at + 1) (2 * at) p.rest 0 (λ x. omega arith)
          ∙ get_or-set_same l (2 * at) p.first 0 (omega (arith, long)))
      go false q =
          let odd : i % 2 ≡ 1 = omega (arith, eqb-false (i % 2) 0 q) in
          let is : i ≡ 2 * at + 1 = omega (arith, e, odd) in
          rw is (get_or-set_same (set l (2 * at) p.first) (2 * at + 1) p.rest 0
          (rw (length-set l (2 * at) p.first) long))

  set_other : (i : ℕ) → (place_at i ≡ at → ⊥) → get_or (label_set p at l) i 0 ≡ get_or l i 0
  unfolding place_at
  set_other i n =
      get_or-set_other (set l (2 * at) p.first) (2 * at + 1) i p.rest 0 (λ e. n (omega (arith, e)))
      ∙ get_or-set_other l (2 * at) i p.first 0 (λ e. n (omega (arith, e)))

  labelled_set : (t : ℕ → Bool)
      → cells_labelled t (λ c. p) (label_set p at l) ≡ cells_labelled (λ c. cond (eqb at c) true (t c)) (λ c. p) l
  unfolding cells_labelled
  labelled_set t =
      relabelled_is _ _ l (relabelled (λ i. t (place_at i)) (number_in (λ c. p)) (label_set p at l))
      (relabelled_length _ _ (label_set p at l) ∙ set_length)
      (λ i h. relabelled_at _ _ (label_set p at l) i (rw set_length h) ∙ go i (eqb at (place_at i)) refl (t (place_at i)))
    where
      go : (i : ℕ) (b : Bool) → eqb at (place_at i) ≡ b → (x : Bool)
          → cond x (number_in (λ c. p) i) (get_or (label_set p at l) i 0)
          ≡ cond (cond b true x) (number_in (λ c. p) i) (get_or l i 0)
      go i true q true = refl
      go i true q false = set_here i (sym (eqb-true at (place_at i) q))
      go i false q true = refl
      go i false q false = set_other i (λ e. eqb-false at (place_at i) q (sym e))

less_suc : (hi j : ℕ) → j < hi → hi - j ≡ suc (hi - (j + 1))
less_suc hi j h = omega arith

less_none : (hi j : ℕ) → hi ≤ j → hi - j ≡ 0
less_none hi j h = omega arith

module _ (cell : List ℕ) (p : Label) (hi j : ℕ) (l : List ℕ) where
  pub filled_none : hi ≤ j → cells_labelled (stands cell j (hi - j)) (λ c. p) l ≡ l
  unfolding stands cells_labelled
  filled_none h = relabelled_none _ _ l (λ i. rw (less_none hi j h))

  pub filled_more : j < hi → get_or cell j 0 < label_places (length l)
      → cells_labelled (stands cell (j + 1) (hi - (j + 1))) (λ c. p) (label_set p (get_or cell j 0) l)
      ≡ cells_labelled (stands cell j (hi - j)) (λ c. p) l
  unfolding stands
  filled_more h a = rw (less_suc hi j h) (rw (add-one j) (labelled_set p (get_or cell j 0) l a _))

-- ---- slices of numbers

module _ (x at : ℕ) (l : List ℕ) (room : at < length l) where
  relabelled_set : (t : ℕ → Bool)
      → relabelled t (λ c. x) (set l at x) ≡ relabelled (λ c. cond (eqb at c) true (t c)) (λ c. x) l
  relabelled_set t =
      relabelled_is _ _ l (relabelled t (λ c. x) (set l at x))
      (relabelled_length _ _ (set l at x) ∙ length-set l at x)
      (λ i h. relabelled_at _ _ (set l at x) i (rw (length-set l at x) h) ∙ go i (eqb at i) refl (t i))
    where
      go : (i : ℕ) (b : Bool) → eqb at i ≡ b → (y : Bool)
          → cond y x (get_or (set l at x) i 0) ≡ cond (cond b true y) x (get_or l i 0)
      go i true q true = refl
      go i true q false = rw (← eqb-true at i q) (get_or-set_same l at x 0 room)
      go i false q true = refl
      go i false q false = get_or-set_other l at i x 0 (λ e. eqb-false at i q (sym e))

module _ (cell : List ℕ) (x hi j : ℕ) (l : List ℕ) where
  pub numbered_none : hi ≤ j → relabelled (stands cell j (hi - j)) (λ c. x) l ≡ l
  unfolding stands
  numbered_none h = relabelled_none _ _ l (λ i. rw (less_none hi j h))

  pub numbered_more : j < hi → get_or cell j 0 < length l
      → relabelled (stands cell (j + 1) (hi - (j + 1))) (λ c. x) (set l (get_or cell j 0) x)
      ≡ relabelled (stands cell j (hi - j)) (λ c. x) l
  unfolding stands
  numbered_more h a = rw (less_suc hi j h) (rw (add-one j) (relabelled_set x (get_or cell j 0) l a _))

-- ---- twice one after another

pub relabelled_twice : (t t₁ t₂ : ℕ → Bool) (f f₁ f₂ : ℕ → ℕ)
    → ((c x : ℕ) → cond (t₂ c) (f₂ c) (cond (t₁ c) (f₁ c) x) ≡ cond (t c) (f c) x) → (l : List ℕ)
    → relabelled t₂ f₂ (relabelled t₁ f₁ l) ≡ relabelled t f l
relabelled_twice t t₁ t₂ f f₁ f₂ e l =
    ap (λ (m : List ℕ). relabelled t₂ f₂ (relabelled t₁ f₁ m)) (sym (relabelled_none (λ c. false) f l (λ c. refl)))
    ∙ relabelled_thrice t (λ c. false) t₁ t₂ f f f₁ f₂ e l

pub labelled_twice : (t t₁ t₂ : ℕ → Bool) (f f₁ f₂ : ℕ → Label)
    → ((c : ℕ) (x : Label) → cond (t₂ c) (f₂ c) (cond (t₁ c) (f₁ c) x) ≡ cond (t c) (f c) x) → (l : List ℕ)
    → cells_labelled t₂ f₂ (cells_labelled t₁ f₁ l) ≡ cells_labelled t f l
unfolding cells_labelled
labelled_twice t t₁ t₂ f f₁ f₂ e l =
    ap (λ (m : List ℕ). cells_labelled t₂ f₂ (cells_labelled t₁ f₁ m))
    (sym (relabelled_none (λ c. false) (number_in f) l (λ c. refl)))
    ∙ labelled_thrice t (λ c. false) t₁ t₂ f f f₁ f₂ e l
