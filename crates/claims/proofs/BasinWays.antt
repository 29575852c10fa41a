-- Two rules for where water goes, of which the second is the first in a basin and leads nowhere outside it: what passes
-- what, outlets and donors are the same in the basin.
use mathlib.Core.Path.{◌≡◌, refl, sym, ◌∙◌, ap}
use mathlib.Core.Bool.{Bool, true, false, cond, true≢false}
use mathlib.Core.List.{List, [], ◌∷◌, Memᴰ}
use Prim.Native.Nat.{ℕ, zero, suc}
use lib.Dec.{eqb}
use borrow.Author.Tests.{eqb-true, ne_eqb}
use Rattle.sheet.specs.Water.{onward, passes, way_end}
use Rattle.sheet.specs.River.{insert, ends_on, donors_below}
use Rattle.claims.proofs.Counts.{not-true}
use Rattle.claims.proofs.Heavier.{donors_only}
use Rattle.sheet.specs.Answer.{Next}
use Rattle.std.specs.Prelude.{None, Some}

pub record Agree (is_in : ℕ → Bool) (next next' : ℕ → Next) : Type 0 where
  pub stays : (q r : ℕ) → next q ≡ Some r → is_in q ≡ is_in r
  pub same : (q : ℕ) → is_in q ≡ true → next' q ≡ next q
  pub nowhere : (q : ℕ) → is_in q ≡ false → next' q ≡ None

onward_same : {A : Type 0} (x : Next) (a : A) (f g : ℕ → A) → ((r : ℕ) → x ≡ Some r → f r ≡ g r)
    → onward x a f ≡ onward x a g
unfolding onward
onward_same None a f g h = refl
onward_same (Some r) a f g h = h r refl

insert_same : (h h' : ℕ → ℕ → Bool) (u : ℕ) (vs : List ℕ) → ((v : ℕ) → Memᴰ v vs → h' u v ≡ h u v)
    → insert h' u vs ≡ insert h u vs
unfolding insert
insert_same h h' u [] e = refl
insert_same h h' u (v ∷ vs) e =
    rw (e v (Memᴰ.head refl), insert_same h h' u vs (λ w m. e w (Memᴰ.tail m)))

ends_true : (x : Next) (c : ℕ) → ends_on x c ≡ true → x ≡ Some c
unfolding ends_on
ends_true None c h = absurd (true≢false (sym h))
ends_true (Some r) c h = rw (eqb-true r c h)

module _ {is_in : ℕ → Bool} {next next' : ℕ → Next} (A : Agree is_in next next') where
  -- the next cell lies in the basin
  goes_on : (q r : ℕ) → is_in q ≡ true → next q ≡ Some r → is_in r ≡ true
  goes_on q r i e = sym (A.stays q r e) ∙ i

  pub passes_same : (n q p : ℕ) → is_in q ≡ true → passes next' n q p ≡ passes next n q p
  unfolding passes
  passes_same zero q p i = refl
  passes_same (suc n) q p i =
      rw (A.same q i) (ap (λ (b : Bool). cond (eqb q p) true b)
      (onward_same (next q) false (λ r. passes next' n r p) (λ r. passes next n r p)
      (λ r e. passes_same n r p (goes_on q r i e))))

  pub way_end_same : (n q : ℕ) → is_in q ≡ true → way_end next' n q ≡ way_end next n q
  unfolding way_end
  way_end_same zero q i = refl
  way_end_same (suc n) q i =
      rw (A.same q i)
      (onward_same (next q) q (λ r. way_end next' n r) (λ r. way_end next n r)
      (λ r e. way_end_same n r (goes_on q r i e)))

  -- water of other cells passes none of the basin
  pub passes_none : (n q p : ℕ) → is_in q ≡ false → is_in p ≡ true → passes next n q p ≡ false
  unfolding passes onward
  passes_none zero q p i j = ne_eqb q p (λ e. true≢false (sym j ∙ ap is_in (sym e) ∙ i))
  passes_none (suc n) q p i j =
      rw (ne_eqb q p (λ e. true≢false (sym j ∙ ap is_in (sym e) ∙ i)))
      (go (next q) (λ r e. passes_none n r p (sym (A.stays q r e) ∙ i) j))
    where
      go : (x : Next) → ((r : ℕ) → x ≡ Some r → passes next n r p ≡ false)
          → onward x false (λ r. passes next n r p) ≡ false
      go None h = refl
      go (Some r) h = h r refl

  pub way_end_in : (n q : ℕ) → is_in q ≡ true → is_in (way_end next n q) ≡ true
  unfolding way_end onward
  way_end_in zero q i = i
  way_end_in (suc n) q i = go (next q) (λ r e. way_end_in n r (goes_on q r i e))
    where
      go : (x : Next) → ((r : ℕ) → x ≡ Some r → is_in (way_end next n r) ≡ true)
          → is_in (onward x q (λ r. way_end next n r)) ≡ true
      go None h = i
      go (Some r) h = h r refl

  module _ (h h' : ℕ → ℕ → Bool)
      (order : (u v : ℕ) → is_in u ≡ true → is_in v ≡ true → h' u v ≡ h u v) where
    pub donor_in : (n c u : ℕ) → is_in c ≡ true → Memᴰ u (donors_below next h n c) → is_in u ≡ true
    donor_in n c u i m = A.stays u c (donors_only next h n c u m).1 ∙ i

    pub donors_same : (n c : ℕ) → is_in c ≡ true → donors_below next' h' n c ≡ donors_below next h n c
    unfolding donors_below ends_on
    donors_same zero c i = refl
    donors_same (suc n) c i =
        rw (donors_same n c i) (go (donors_below next h n c) (λ v m. donor_in n c v i m) (is_in n) refl)
      where
        go : (r : List ℕ) → ((v : ℕ) → Memᴰ v r → is_in v ≡ true) → (b : Bool) → is_in n ≡ b
            → cond (ends_on (next' n) c) (insert h' n r) r ≡ cond (ends_on (next n) c) (insert h n r) r
        go r k true j = rw (A.same n j, insert_same h h' n r (λ v m. order n v j (k v m)))
        go r k false j =
            let none : ends_on (next n) c ≡ false = not-true (ends_on (next n) c)
            (λ e. true≢false (sym i ∙ sym (A.stays n c (ends_true (next n) c e)) ∙ j)) in
            rw (A.nowhere n j, none)
