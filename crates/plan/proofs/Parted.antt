-- Labels that part: two of them, by digits and by padded numbers; and those of an index that rises, of which every two
-- part exactly if neighbours do.
use mathlib.Core.Path.{◌≡◌, refl, sym, ap, ◌∙◌}
use mathlib.Core.Bool.{Bool, true, false, cond, not, true≢false, ◌&&◌}
use mathlib.Core.List.{List, [], ◌∷◌}
use mathlib.Core.Logic.{◌⊎◌, inl, inr, ◌≢◌, ◌↔◌}
use Prim.Native.Nat.{ℕ, zero, suc, ◌+◌, ◌-◌, ◌≤◌, ◌<◌}
use native.Mathlib.Numerals.{add-one}
use native.Mathlib.Omega.{arith}
use lib.Dec.{eqb, ltb}
use lib.ListN.{length, get_or, drop, drop_of_length-le}
use lib.Seq.{drop-cons}
use borrow.Author.Tests.{eq-eqb, ne_eqb, eqb-true, eqb-false}
use Rattle.std.specs.List.{list_all, range_with_len}
use Rattle.sheet.specs.declared.Label.{Label}
use Rattle.sheet.specs.Record.{digits_of, no_digits}
use Rattle.sheet.specs.Flow.{every, part_from, part_at, is_label}
use Rattle.sheet.proofs.Within.{both_true}
use Rattle.claims.specs.Dictionary.{is_before}
use Rattle.claims.specs.Parting.{Begins, begins_none, begins_on}
use Rattle.claims.proofs.Dictionary.{Earlier, earlier_end, earlier_now, earlier_on, before_earlier}
use Rattle.claims.proofs.Dictionary.{before_transitive, before_asymmetric}
use Rattle.claims.proofs.Parting.{Parted, parted_now, parted_on, begins_not_parted}
use Rattle.lookup.specs.Lookup.{greatest_depth, begins, stands_before, rising_from, is_rising}
use Rattle.lookup.specs.Padded.{padded, padded_end}
use Rattle.lookup.proofs.Begins.{begins_agrees, begins_between}
use Rattle.lookup.proofs.PaddedOrder.{not_past_padded}
use Rattle.plan.specs.Plan.{of_one_basin, units_of_one, parts, all_part}
use Rattle.plan.proofs.UnitsOfOne.{before_of_one}
use Rattle.sheet.specs.Answer.{Found}
use Rattle.std.specs.Prelude.{None, Some}

-- ---- two labels, by digits

-- the test finds a place where they part exactly if there is one
parted_found : {x y : List ℕ} → Parted x y → (i : ℕ) → (k : ℕ) × (part_from i x y ≡ Some k)
unfolding part_from
parted_found (parted_now {a = a} {b = b} n) i = (i, rw (ne_eqb a b n))
parted_found (parted_on {a = a} p) i = let r = parted_found p (suc i) in (r.0, rw (eq-eqb a a refl) r.1)

found_parted : (x y : List ℕ) (i k : ℕ) → part_from i x y ≡ Some k → Parted x y
unfolding part_from
found_parted [] y i k e = let z : ◌≡◌ {A = ℕ} 0 1 = cc in absurd (omega arith)
found_parted (a ∷ x) [] i k e = let z : ◌≡◌ {A = ℕ} 0 1 = cc in absurd (omega arith)
found_parted (a ∷ x) (b ∷ y) i k e = go (eqb a b) refl (found_parted x y (suc i) k) e
  where
    go : (t : Bool) → eqb a b ≡ t → (part_from (suc i) x y ≡ Some k → Parted x y)
        → cond t (part_from (suc i) x y) (Some i) ≡ Some k → Parted (a ∷ x) (b ∷ y)
    go true q f h = rw (← eqb-true a b q) (parted_on (f h))
    go false q f h = parted_now (eqb-false a b q)

module _ (p q : Label) where
  parts_parted : parts p q ≡ true → Parted (digits_of p) (digits_of q)
  unfolding parts part_at
  parts_parted e = go (part_from 0 (digits_of p) (digits_of q)) refl
    where
      go : (f : Found) → part_from 0 (digits_of p) (digits_of q) ≡ f → Parted (digits_of p) (digits_of q)
      go None g = absurd (true≢false (sym (rw g at e)))
      go (Some k) g = found_parted (digits_of p) (digits_of q) 0 k g

  parted_parts : Parted (digits_of p) (digits_of q) → parts p q ≡ true
  unfolding parts part_at
  parted_parts d = let r = parted_found d 0 in rw r.1

  pub parts_agree : (parts p q ≡ true) ↔ Parted (digits_of p) (digits_of q)
  parts_agree = (parts_parted, parted_parts)

-- of two that do not part one begins the other
begun_or_parted : {x y : List ℕ} → Earlier x y → Begins x y ⊎ Parted x y
begun_or_parted earlier_end = inl begins_none
begun_or_parted (earlier_now {a = a} {b = b} l) = let n : a ≢ b = omega arith in inr (parted_now n)
begun_or_parted (earlier_on e) =
    elim (begun_or_parted e) [ inl b ↦ inl (begins_on b) | inr d ↦ inr (parted_on d) ]

-- of two labels in their order the first begins the other exactly if they do not part
parts_begins : (p q : Label) → is_before (digits_of p) (digits_of q) ≡ true
    → parts p q ≡ not (begins (digits_of p) (digits_of q))
parts_begins p q e = go (begins (digits_of p) (digits_of q)) refl (parts p q) refl
  where
    go : (s : Bool) → begins (digits_of p) (digits_of q) ≡ s → (t : Bool) → parts p q ≡ t → t ≡ not s
    go true b true d =
        absurd (begins_not_parted ((begins_agrees (digits_of p) (digits_of q)).0 b) (parts_parted p q d))
    go true b false d = refl
    go false b true d = refl
    go false b false d =
        elim (begun_or_parted (before_earlier (digits_of p) (digits_of q) e)) [
          | inl g ↦ absurd (true≢false (sym ((begins_agrees (digits_of p) (digits_of q)).1 g) ∙ b))
          | inr g ↦ absurd (true≢false (sym (parted_parts p q g) ∙ d))
        ]

-- so exactly if the other is less than the end of those that begin with the first
pub parts_padded : (p q : Label) → is_label greatest_depth p ≡ true → is_label greatest_depth q ≡ true
    → is_before (digits_of p) (digits_of q) ≡ true → parts p q ≡ not (ltb (padded q) (padded_end p))
parts_padded p q e f b =
    let n = rw (before_asymmetric (digits_of p) (digits_of q) b) at (not_past_padded q p f e) in
    parts_begins p q b ∙ ap not n

-- ---- an index that rises

-- what stands after a label that parts from p, itself after p, parts from p
parts_past : (p q z : Label) → parts p q ≡ true → is_before (digits_of p) (digits_of q) ≡ true
    → is_before (digits_of q) (digits_of z) ≡ true → parts p z ≡ true
parts_past p q z e b c = go (begins (digits_of p) (digits_of z)) refl
  where
    go : (t : Bool) → begins (digits_of p) (digits_of z) ≡ t → parts p z ≡ true
    go true g =
        let h = begins_between (digits_of p) (digits_of q) (digits_of z) b c g in
        absurd (begins_not_parted ((begins_agrees (digits_of p) (digits_of q)).0 h) (parts_parted p q e))
    go false g = parts_begins p z (before_transitive (digits_of p) (digits_of q) (digits_of z) b c) ∙ ap not g

-- the label p, then q and the labels after it rise
first_rises : (p q : Label) (labels : List Label) → rising_from (of_one_basin p) (units_of_one (q ∷ labels)) ≡ true
    → (is_before (digits_of p) (digits_of q) ≡ true) × (rising_from (of_one_basin q) (units_of_one labels) ≡ true)
unfolding units_of_one rising_from
first_rises p q labels e =
    let b = both_true (stands_before (of_one_basin p) (of_one_basin q)) (rising_from (of_one_basin q) (units_of_one labels)) e in
    (sym (before_of_one p q) ∙ b.0, b.1)

-- where p parts from q, it parts from all labels after q
rest_part : (p q : Label) (labels : List Label) → parts p q ≡ true → is_before (digits_of p) (digits_of q) ≡ true
    → rising_from (of_one_basin q) (units_of_one labels) ≡ true → every (parts p) labels ≡ true
unfolding every
rest_part p q [] e b r = refl
rest_part p q (z ∷ labels) e b r =
    let f = first_rises q z labels r in
    let next = parts_past p q z e b f.0 in
    rw next
    (rest_part p z labels next (before_transitive (digits_of p) (digits_of q) (digits_of z) b f.0) f.1)

-- each label parts from the next; p stands before the first of these
unfoldable pub neighbours_part_from : Label → List Label → Bool
unfolding parts
neighbours_part_from p [] = true
neighbours_part_from p (q ∷ labels) = let rest = neighbours_part_from q labels in cond (parts p q) rest false

unfoldable pub neighbours_part : List Label → Bool
unfolding neighbours_part_from
neighbours_part [] = true
neighbours_part (p ∷ labels) = neighbours_part_from p labels

from_neighbours : (p : Label) (labels : List Label) → rising_from (of_one_basin p) (units_of_one labels) ≡ true
    → neighbours_part_from p labels ≡ all_part (p ∷ labels)
unfolding neighbours_part_from all_part every
from_neighbours p [] e = refl
from_neighbours p (q ∷ labels) e =
    let f = first_rises p q labels e in
    go (parts p q) refl (λ h. rest_part p q labels h f.0 f.1) (from_neighbours q labels f.1)
  where
    go : (t : Bool) → parts p q ≡ t → (parts p q ≡ true → every (parts p) labels ≡ true)
        → neighbours_part_from q labels ≡ all_part (q ∷ labels)
        → cond t (neighbours_part_from q labels) false
        ≡ cond (cond t (every (parts p) labels) false) (all_part (q ∷ labels)) false
    go true d f h = rw (f d) h
    go false d f h = refl

-- every two labels part exactly if neighbours do
pub neighbours_part_lem : (index : List Label) → is_rising (units_of_one index) ≡ true → neighbours_part index ≡ all_part index
unfolding neighbours_part units_of_one is_rising all_part
neighbours_part_lem [] e = refl
neighbours_part_lem (p ∷ labels) e = from_neighbours p labels e

-- ---- from place to place

pub parted_start : (labels : List Label)
    → neighbours_part_from (get_or labels 0 no_digits) (drop 1 labels) ≡ neighbours_part labels
unfolding neighbours_part neighbours_part_from
parted_start [] = refl
parted_start (p ∷ labels) = refl

module _ (labels : List Label) (i : ℕ) where
  pub parted_end : (p : Label) → length labels ≤ i → neighbours_part_from p (drop i labels) ≡ true
  unfolding neighbours_part_from
  parted_end p h = rw drop_of_length-le

  pub parted_no : (p : Label) → i < length labels → parts p (get_or labels i no_digits) ≡ false
      → neighbours_part_from p (drop i labels) ≡ false
  unfolding neighbours_part_from
  parted_no p h e = rw (drop-cons labels i no_digits, e)

  pub parted_turn : (p : Label) → i < length labels → parts p (get_or labels i no_digits) ≡ true
      → neighbours_part_from (get_or labels (i + 1 - 1) no_digits) (drop (i + 1) labels)
      ≡ neighbours_part_from p (drop i labels)
  unfolding neighbours_part_from
  parted_turn p h e =
      let back : i + 1 - 1 ≡ i = omega arith in rw (back, add-one i, drop-cons labels i no_digits, e)

-- ---- told over the places of the labels but the first

module _ (labels : List Label) (test : ℕ → Bool)
    (agrees : (k : ℕ) → 1 ≤ k → k < length labels
    → test k ≡ parts (get_or labels (k - 1) no_digits) (get_or labels k no_digits)) where
  one_place : (i : ℕ) (r : Bool) → 1 ≤ i → i < length labels
      → r ≡ neighbours_part_from (get_or labels (i + 1 - 1) no_digits) (drop (i + 1) labels) → (b : Bool)
      → parts (get_or labels (i - 1) no_digits) (get_or labels i no_digits) ≡ b
      → (test i && r) ≡ neighbours_part_from (get_or labels (i - 1) no_digits) (drop i labels)
  one_place i r some place rest true e =
      rw (agrees i some place, e, rest) (parted_turn labels i (get_or labels (i - 1) no_digits) place e)
  one_place i r some place rest false e =
      rw (agrees i some place, e) (sym (parted_no labels i (get_or labels (i - 1) no_digits) place e))

  from_place : (i n : ℕ) → 1 ≤ i → n ≡ length labels - i
      → list_all test (range_with_len i n) ≡ neighbours_part_from (get_or labels (i - 1) no_digits) (drop i labels)
  from_place i zero some h = sym (parted_end labels i (get_or labels (i - 1) no_digits) (omega arith))
  from_place i (suc n) some h =
      one_place i _ some (omega arith) (from_place (i + 1) n (omega arith) (omega arith)) _ refl

  pub parted_places : list_all test (range_with_len 1 (length labels - 1)) ≡ neighbours_part labels
  parted_places = from_place 1 (length labels - 1) (omega arith) refl ∙ parted_start labels
