-- Units in rising dictionary order, each told by its basin and then its digits: putting one more among them, and that
-- such a list is fixed by its members.
use mathlib.Core.Path.{◌≡◌, refl, sym, ◌∙◌}
use mathlib.Core.Bool.{Bool, true, false, cond, true≢false}
use mathlib.Core.List.Memᴰ
use mathlib.Core.List.{List, [], ◌∷◌, Memᴰ}
use mathlib.Core.Logic.{◌⊎◌, inl, inr}
use Prim.Native.Nat.{ℕ, zero, suc, ◌<◌}
use native.Mathlib.Omega.{arith}
use lib.ListN.{length, get_or, take}
use Rattle.claims.specs.Dictionary.{is_before}
use Rattle.claims.proofs.Dictionary.{before_irreflexive, before_transitive, Compared, before, same, after, compared}
use Rattle.index.specs.Units.{with_unit}
use Rattle.index.proofs.ListPlaces.{at_place}

-- each unit stands before all that follow
pub data UnitsRise : List (List ℕ) → Type 0 where
  rise_none : UnitsRise []
  rise_on : {x : List ℕ} {xs : List (List ℕ)} → ((y : List ℕ) → Memᴰ y xs → is_before x y ≡ true) → UnitsRise xs
      → UnitsRise (x ∷ xs)

pub rise_before : {x : List ℕ} {xs : List (List ℕ)} → UnitsRise (x ∷ xs) → (y : List ℕ) → Memᴰ y xs
    → is_before x y ≡ true
rise_before (rise_on b w) = b

pub rise_after : {x : List ℕ} {xs : List (List ℕ)} → UnitsRise (x ∷ xs) → UnitsRise xs
rise_after (rise_on b w) = w

-- the units at two places
pub rise_at : {xs : List (List ℕ)} → UnitsRise xs → (i k : ℕ) → i < k → k < length xs
    → is_before (get_or xs i []) (get_or xs k []) ≡ true
rise_at rise_none i k l h = absurd (omega arith)
rise_at (rise_on {xs = xs} b w) i zero l h = absurd (omega arith)
rise_at (rise_on {xs = xs} b w) zero (suc k) l h = b (get_or xs k []) (at_place [] xs k (omega arith))
rise_at (rise_on {xs = xs} b w) (suc i) (suc k) l h = rise_at w i k (omega arith) (omega arith)

-- the first k units
take_mem : {A : Type 0} {y : A} (k : ℕ) (xs : List A) → Memᴰ y (take k xs) → Memᴰ y xs
take_mem zero xs m = absurd (Memᴰ.not-nil m)
take_mem (suc k) [] m = m
take_mem (suc k) (x ∷ xs) m = elim (Memᴰ.cases_cons m) [
  | inl e ↦ Memᴰ.head e
  | inr j ↦ Memᴰ.tail (take_mem k xs j)
]

pub take_rise : (k : ℕ) {xs : List (List ℕ)} → UnitsRise xs → UnitsRise (take k xs)
take_rise zero w = rise_none
take_rise (suc k) rise_none = rise_none
take_rise (suc k) (rise_on {xs = xs} b w) = rise_on (λ y m. b y (take_mem k xs m)) (take_rise k w)

pub not_both : (x y : List ℕ) → is_before x y ≡ true → is_before y x ≡ true → ⊥
not_both x y e f = true≢false (sym (before_transitive x y x e f) ∙ before_irreflexive x)

-- ---- one unit more

pub with_mem : (x z : List ℕ) (ys : List (List ℕ)) → Memᴰ z (with_unit x ys) → (z ≡ x) ⊎ Memᴰ z ys
unfolding with_unit
with_mem x z [] m = Memᴰ.cases_cons m
with_mem x z (y ∷ ys) m = go (is_before x y) (is_before y x) m (with_mem x z ys)
  where
    later : (z ≡ y) ⊎ Memᴰ z (with_unit x ys)
        → (Memᴰ z (with_unit x ys) → (z ≡ x) ⊎ Memᴰ z ys) → (z ≡ x) ⊎ Memᴰ z (y ∷ ys)
    later (inl e) f = inr (Memᴰ.head e)
    later (inr k) f = elim (f k) [ inl e ↦ inl e | inr j ↦ inr (Memᴰ.tail j) ]

    go : (s t : Bool) → Memᴰ z (cond s (x ∷ y ∷ ys) (cond t (y ∷ with_unit x ys) (y ∷ ys)))
        → (Memᴰ z (with_unit x ys) → (z ≡ x) ⊎ Memᴰ z ys) → (z ≡ x) ⊎ Memᴰ z (y ∷ ys)
    go true t k f = Memᴰ.cases_cons k
    go false true k f = later (Memᴰ.cases_cons k) f
    go false false k f = inr k

pub with_new : (x : List ℕ) (ys : List (List ℕ)) → Memᴰ x (with_unit x ys)
unfolding with_unit
with_new x [] = Memᴰ.head refl
with_new x (y ∷ ys) = go (is_before x y) refl (is_before y x) refl (with_new x ys)
  where
    neither : is_before x y ≡ false → is_before y x ≡ false → Compared x y → Memᴰ x (y ∷ ys)
    neither e f (before h) = absurd (true≢false (sym h ∙ e))
    neither e f (same h) = Memᴰ.head h
    neither e f (after h) = absurd (true≢false (sym h ∙ f))

    go : (s : Bool) → is_before x y ≡ s → (t : Bool) → is_before y x ≡ t → Memᴰ x (with_unit x ys)
        → Memᴰ x (cond s (x ∷ y ∷ ys) (cond t (y ∷ with_unit x ys) (y ∷ ys)))
    go true e t f m = Memᴰ.head refl
    go false e true f m = Memᴰ.tail m
    go false e false f m = neither e f (compared x y)

pub with_old : (x z : List ℕ) (ys : List (List ℕ)) → Memᴰ z ys → Memᴰ z (with_unit x ys)
unfolding with_unit
with_old x z [] m = absurd (Memᴰ.not-nil m)
with_old x z (y ∷ ys) m = go (is_before x y) (is_before y x) (with_old x z ys)
  where
    later : (z ≡ y) ⊎ Memᴰ z ys → (Memᴰ z ys → Memᴰ z (with_unit x ys))
        → Memᴰ z (y ∷ with_unit x ys)
    later (inl e) f = Memᴰ.head e
    later (inr k) f = Memᴰ.tail (f k)

    go : (s t : Bool) → (Memᴰ z ys → Memᴰ z (with_unit x ys))
        → Memᴰ z (cond s (x ∷ y ∷ ys) (cond t (y ∷ with_unit x ys) (y ∷ ys)))
    go true t f = Memᴰ.tail m
    go false true f = later (Memᴰ.cases_cons m) f
    go false false f = m

pub with_rise : (x : List ℕ) (ys : List (List ℕ)) → UnitsRise ys → UnitsRise (with_unit x ys)
unfolding with_unit
with_rise x [] w = rise_on (λ y m. absurd (Memᴰ.not-nil m)) rise_none
with_rise x (y ∷ ys) (rise_on b w) = go (is_before x y) refl (is_before y x) refl (with_rise x ys w)
  where
    past : is_before x y ≡ true → (z : List ℕ) → (z ≡ y) ⊎ Memᴰ z ys → is_before x z ≡ true
    past e z (inl q) = rw q e
    past e z (inr k) = before_transitive x y z e (b z k)

    beyond : is_before y x ≡ true → (z : List ℕ) → (z ≡ x) ⊎ Memᴰ z ys → is_before y z ≡ true
    beyond f z (inl q) = rw q f
    beyond f z (inr k) = b z k

    go : (s : Bool) → is_before x y ≡ s → (t : Bool) → is_before y x ≡ t → UnitsRise (with_unit x ys)
        → UnitsRise (cond s (x ∷ y ∷ ys) (cond t (y ∷ with_unit x ys) (y ∷ ys)))
    go true e t f r = rise_on (λ z m. past e z (Memᴰ.cases_cons m)) (rise_on b w)
    go false e true f r = rise_on (λ z m. beyond f z (with_mem x z ys m)) r
    go false e false f r = rise_on b w

-- ---- a rising list is fixed by its members

pub same_units : (xs ys : List (List ℕ)) → UnitsRise xs → UnitsRise ys
    → ((z : List ℕ) → Memᴰ z xs → Memᴰ z ys) → ((z : List ℕ) → Memᴰ z ys → Memᴰ z xs) → xs ≡ ys
same_units [] [] v w f g = refl
same_units [] (y ∷ ys) v w f g = absurd (Memᴰ.not-nil (g y (Memᴰ.head refl)))
same_units (x ∷ xs) [] v w f g = absurd (Memᴰ.not-nil (f x (Memᴰ.head refl)))
same_units (x ∷ xs) (y ∷ ys) (rise_on b v) (rise_on d w) f g = all (same_units xs ys v w)
  where
    heads : x ≡ y
    heads = go (Memᴰ.cases_cons (f x (Memᴰ.head refl))) (Memᴰ.cases_cons (g y (Memᴰ.head refl)))
      where
        go : (x ≡ y) ⊎ Memᴰ x ys → (y ≡ x) ⊎ Memᴰ y xs → x ≡ y
        go (inl e) n = e
        go (inr k) (inl e) = sym e
        go (inr k) (inr j) = absurd (not_both x y (b y j) (d x k))

    past : {u t z : List ℕ} {us ts : List (List ℕ)} → u ≡ t
        → ((k : List ℕ) → Memᴰ k us → is_before u k ≡ true) → Memᴰ z us → Memᴰ z (t ∷ ts) → Memᴰ z ts
    past {u = u} {z = z} e h m n = elim (Memᴰ.cases_cons n) [
      | inl q ↦ absurd (true≢false (sym (h z m) ∙ rw (q ∙ sym e) (before_irreflexive u)))
      | inr j ↦ j
    ]

    all : (((z : List ℕ) → Memᴰ z xs → Memᴰ z ys) →
        ((z : List ℕ) → Memᴰ z ys → Memᴰ z xs) → xs ≡ ys)
        → x ∷ xs ≡ y ∷ ys
    all r =
        let e = r (λ z m. past heads b m (f z (Memᴰ.tail m)))
        (λ z m. past (sym heads) d m (g z (Memᴰ.tail m))) in
        λ i. heads i ∷ e i
