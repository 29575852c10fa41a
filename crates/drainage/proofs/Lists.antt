-- Laws of lists of the values of a function, and of slices whose first places are written with one.
use mathlib.Core.Path.{◌≡◌, refl, sym, ◌∙◌, ap, ap₂}
use mathlib.Core.List.{List, [], ◌∷◌, ◌++◌, append_assoc, append-nil}
use Prim.Native.Nat.{ℕ, zero, suc, ◌+◌, ◌-◌, ◌<◌, ◌≤◌}
use native.Mathlib.Nat.{suc-add}
use native.Mathlib.Numerals.{add-one}
use native.Mathlib.Omega.{arith}
use lib.ListN.{get_or, length, set, take, drop, length-append, length-drop, take-append-drop, get_or-append}
use lib.Seq.{ext_get_or, get_or-take, set_at, drop-cons, drop_at, length-take-le, take_all, take_at, drop-length, drop-drop}
use borrow.Rule.Slice.PartMut.{put_mid, post_of, Post-is}
use Rattle.sheet.specs.Label.{list_from}
use Rattle.sheet.specs.Refusal.{written}
use Rattle.sheet.proofs.Lists.{length_list, list_at}
use Rattle.upstream.specs.Work.{KeptFrom}

-- ---- the values of a function

-- two functions that agree on as many cells, from i and from j on
pub list_alike : (f g : ℕ → ℕ) (m i j : ℕ) → ((k : ℕ) → k < m → f (i + k) ≡ g (j + k)) → list_from f i m ≡ list_from g j m
unfolding list_from
list_alike f g zero i j h = refl
list_alike f g (suc m) i j h =
    ap₂ (λ (x : ℕ) (l : List ℕ). x ∷ l) (here (h 0 (omega arith))) (list_alike f g m (suc i) (suc j) later)
  where
    here : f (i + 0) ≡ g (j + 0) → f i ≡ g j
    here e = ap f (let z : i ≡ i + 0 = omega arith in z) ∙ e ∙ ap g (let z : j + 0 ≡ j = omega arith in z)

    later : (k : ℕ) → k < m → f (suc i + k) ≡ g (suc j + k)
    later k l =
        ap f (let z : suc i + k ≡ i + suc k = omega arith in z)
        ∙ h (suc k) (omega arith)
        ∙ ap g (let z : j + suc k ≡ suc j + k = omega arith in z)

pub list_same : (f g : ℕ → ℕ) (n : ℕ) → ((c : ℕ) → c < n → f c ≡ g c) → list_from f 0 n ≡ list_from g 0 n
list_same f g n h =
    list_alike f g n 0 0
    (λ k l. ap f (let z : 0 + k ≡ k = omega arith in z) ∙ h k l ∙ ap g (let z : k ≡ 0 + k = omega arith in z))

-- the values at a cells, then at the next b
pub list_split : (f : ℕ → ℕ) (i a b : ℕ) → list_from f i (a + b) ≡ list_from f i a ++ list_from f (i + a) b
unfolding list_from
list_split f i zero b =
    rw (let z : 0 + b ≡ b = omega arith in z, let z : i + 0 ≡ i = omega arith in z) refl
list_split f i (suc a) b =
    let e : suc i + a ≡ i + suc a = omega arith in
    ap (λ (k : ℕ). list_from f i k) (suc-add a b)
    ∙ ap (λ (l : List ℕ). f i ∷ l)
    (list_split f (suc i) a b ∙ ap (λ (x : ℕ). list_from f (suc i) a ++ list_from f x b) e)

list_more : (f : ℕ → ℕ) (i m : ℕ) → list_from f i (suc m) ≡ list_from f i m ++ (f (i + m) ∷ [])
unfolding list_from
list_more f i zero = let e : i ≡ i + 0 = omega arith in ap (λ (x : ℕ). f x ∷ []) e
list_more f i (suc m) =
    let e : suc i + m ≡ i + suc m = omega arith in
    ap (λ (l : List ℕ). f i ∷ l) (list_more f (suc i) m ∙ ap (λ (x : ℕ). list_from f (suc i) m ++ (f x ∷ [])) e)

-- those of a list are its first elements
pub list_take : (n : ℕ) (l : List ℕ) → n ≤ length l → list_from (λ c. get_or l c 0) 0 n ≡ take n l
list_take n l h =
    let long : length (take n l) ≡ n = length-take-le n l h in
    ext_get_or 0 (list_from (λ c. get_or l c 0) 0 n) (take n l) (length_list (λ c. get_or l c 0) 0 n ∙ sym long)
    (λ i k.
    let k' : i < n = omega (arith, length_list (λ c. get_or l c 0) 0 n) in
    list_at (λ c. get_or l c 0) 0 n i k' ∙ ap (λ (c : ℕ). get_or l c 0) (let z : 0 + i ≡ i = omega arith in z) ∙ sym
    (get_or-take n l i 0 k'))

-- ---- a loop that writes them

-- the first k places hold the values of f, and the others are as before
abbrev pub filled : (ℕ → ℕ) → ℕ → List ℕ → List ℕ
filled f k old = list_from f 0 k ++ drop k old

pub filled_none : (f : ℕ → ℕ) (old : List ℕ) → old ≡ filled f 0 old
unfolding list_from
filled_none f old = refl

pub filled_more : (f : ℕ → ℕ) (k : ℕ) (old : List ℕ) (v : ℕ) → k < length old → v ≡ f k
    → set (filled f k old) k v ≡ filled f (k + 1) old
filled_more f k old v l e =
    rw (
      drop-cons old k 0 l,
      set_at (list_from f 0 k) (get_or old k 0) (drop (suc k) old) v k (length_list f 0 k),
      add-one k,
      list_more f 0 k,
      append_assoc,
      e,
    )
    (ap (λ (x : ℕ). list_from f 0 k ++ (f x ∷ drop (suc k) old)) (let z : k ≡ 0 + k = omega arith in z))

pub filled_long : (f : ℕ → ℕ) (k : ℕ) (old : List ℕ) → k ≤ length old → length (filled f k old) ≡ length old
filled_long f k old l = omega (arith, length-append (list_from f 0 k) (drop k old), length_list f 0 k, length-drop k old)

pub filled_at : (f : ℕ → ℕ) (k : ℕ) (old : List ℕ) (c : ℕ) → c < k → get_or (filled f k old) c 0 ≡ f c
filled_at f k old c l =
    get_or-append (list_from f 0 k) (drop k old) 0 c (omega (arith, length_list f 0 k)) ∙ list_at f 0 k c l ∙ ap f
    (let z : 0 + c ≡ c = omega arith in z)

pub filled_kept : (f : ℕ → ℕ) (k : ℕ) (old : List ℕ) → KeptFrom k old (filled f k old)
filled_kept f k old = drop_at (list_from f 0 k) (drop k old) k (length_list f 0 k)

pub filled_written : (f : ℕ → ℕ) (n : ℕ) (old : List ℕ) → filled f n old ≡ written (list_from f 0 n) old
filled_written f n old = ap (λ (k : ℕ). list_from f 0 n ++ drop k old) (sym (length_list f 0 n))

-- the next places written as a part of the slice: the values of g at the first cells are those of f there
pub filled_part : (f g : ℕ → ℕ) (first count : ℕ) (old totals : List ℕ) → first + count ≤ length old
    → totals ≡ filled f first old → ((k : ℕ) → k < count → g k ≡ f (first + k))
    → put_mid first (length totals - first) totals
    (written (list_from g 0 count) (take (length totals - first) (drop first totals))) ≡ filled f (first + count) old
filled_part f g first count old totals room e same =
    let long : length totals ≡ length old = ap length e ∙ filled_long f first old (omega arith) in
    let whole : take (length totals - first) (drop first totals) ≡ drop first totals = take_all
    (length totals - first) (drop first totals) (omega (arith, length-drop first totals)) in
    let kept : drop first totals ≡ drop first old = ap (drop first) e ∙ filled_kept f first old in
    let front : take first totals ≡ list_from f 0 first = ap (take first) e ∙ take_at (list_from f 0 first)
    (drop first old) first (length_list f 0 first) in
    let rest : post_of first (length totals - first) totals ≡ [] = Post-is first (length totals) totals
    (omega arith) ∙ drop-length totals in
    let alike : list_from g 0 count ≡ list_from f first count = list_alike g f count 0 first
    (λ k l. ap g (let z : 0 + k ≡ k = omega arith in z) ∙ same k l) in
    rw (
      rest,
      append-nil,
      whole,
      kept,
      front,
      length_list g 0 count,
      alike,
      drop-drop count first old,
      list_split f 0 first count,
      append_assoc,
    )
    (ap (λ (k : ℕ). list_from f 0 first ++ (list_from f k count ++ drop (first + count) old))
    (let z : first ≡ 0 + first = omega arith in z))

-- a slice from its places
pub written_from_lem : (f : ℕ → ℕ) (n : ℕ) (old new : List ℕ) → n ≤ length new → ((c : ℕ) → c < n → get_or new c 0 ≡ f c)
    → KeptFrom n old new → new ≡ written (list_from f 0 n) old
written_from_lem f n old new l values kept =
    let long : length (take n new) ≡ n = length-take-le n new l in
    let front : take n new ≡ list_from f 0 n =
    ext_get_or 0 (take n new) (list_from f 0 n) (long ∙ sym (length_list f 0 n))
    (λ c h. let h' : c < n = omega arith in get_or-take n new c 0 h' ∙ values c h' ∙ sym
    (list_at f 0 n c h' ∙ ap f (let z : 0 + c ≡ c = omega arith in z))) in
    sym (take-append-drop n new) ∙ ap₂ (λ (a b : List ℕ). a ++ b) front kept ∙ filled_written f n old
