-- Cells that share leading digits drain through each other to exactly one of them.
use mathlib.Core.Path.{◌≡◌, refl, sym, ◌∙◌}
use mathlib.Core.Bool.{Bool, true, false, cond}
use mathlib.Core.Option.{Option}
use mathlib.Core.List.{List, [], ◌∷◌}
use mathlib.Core.Logic.{inl, inr}
use Prim.Native.Nat.{ℕ, zero, suc}
use native.Mathlib.Omega.{arith}
use Rattle.sheet.specs.Water.{Passes, Drains, DrainsTo, here, there, drained, drains_on}
use Rattle.sheet.specs.Unit.{finished, taken}
use Rattle.sheet.specs.Label.{place_of, label, Place}
use Rattle.sheet.specs.River.{Run, river, Network, stem, mouth}
use Rattle.claims.specs.Demand.{Shares, OneOutlet}
use Rattle.claims.specs.Parting.{Begins, begins_none, begins_on}
use Rattle.claims.specs.Runs.{Chain, chain_end, chain_stem, chain_mouth, Headed, headed_none, headed_stem}
use Rattle.claims.specs.Lawful.{Lawful}
use Rattle.claims.proofs.Runs.{has_stem, in_none, in_cons, pass_both, In, is_stem, is_under, at_head, in_tail}
use Rattle.claims.proofs.Rivers.{river_headed, river_passes, river_covers}
use Rattle.claims.proofs.Parts.{join_cut, spot_part, place_spot, place_headed, place_holds, place_pair, Pair}
use Rattle.claims.proofs.Parts.{pair_same, pair_odd, pair_even, pair_more}
use Rattle.claims.proofs.DigitRule.{first_stem, unit_outlet, label_on}
use Rattle.sheet.specs.Answer.{Next}
use Rattle.std.specs.Prelude.{Some}

module _ {next : ℕ → Next} where
  pub drains_passes : {S : ℕ → Type 0} {x c : ℕ} → Drains next S x c → Passes next x c
  drains_passes (drained s) = here
  drains_passes (drains_on s e d) = there e (drains_passes d)

  pub drains_map : {S S' : ℕ → Type 0} → ((x : ℕ) → S x → S' x) → {x c : ℕ} → Drains next S x c → Drains next S' x c
  drains_map f (drained {c = c} s) = drained (f c s)
  drains_map f (drains_on {x = x} s e d) = drains_on (f x s) e (drains_map f d)

  drains_more : {S : ℕ → Type 0} {x c s : ℕ} → Drains next S x c → next c ≡ Some s → S s → Drains next S x s
  drains_more (drained a) e b = drains_on a e (drained b)
  drains_more (drains_on a e d) f b = drains_on a e (drains_more d f b)

  mouth_drains : {S : ℕ → Type 0} {c v : ℕ} → Passes next c v → ((x : ℕ) → Passes next x v → S x) → Drains next S c v
  mouth_drains {v = v} here f = drained (f v here)
  mouth_drains (there {q = q} e h) f = drains_on (f q (there e h)) e (mouth_drains h f)

  pub chain_drains : {heavier : ℕ → ℕ → Bool} {S : ℕ → Type 0} {s c : ℕ} {old : Option ℕ} {R : Run}
      → Chain next heavier s old R
      → ((x : ℕ) → In next R x → S x) → S s → In next R c → Drains next S c s
  chain_drains chain_end f b i = elim i [ ]
  chain_drains (chain_stem {t = t} e a w) f b (at_head is_stem) = drains_on (f t (at_head is_stem)) e (drained b)
  chain_drains (chain_stem {t = t} e a w) f b (in_tail i) = drains_more
      (chain_drains w (λ x j. f x (in_tail j)) (f t (at_head is_stem)) i) e b
  chain_drains (chain_mouth e a w) f b (at_head (is_under h)) =
      drains_more (mouth_drains h (λ x k. f x (at_head (is_under k)))) e b
  chain_drains (chain_mouth e a w) f b (in_tail i) = chain_drains w (λ x j. f x (in_tail j)) b i

  -- there is at most one such cell
  pub one_outlet : (dist : ℕ → ℕ) → ((u r : ℕ) → next u ≡ Some r → dist u ≡ suc (dist r))
      → {S : ℕ → Type 0} {c d : ℕ} → DrainsTo next S c → DrainsTo next S d → c ≡ d
  one_outlet dist falls {c = c} {d = d} a b = pass_both dist falls (drains_passes (b.drains c a.among))
      (drains_passes (a.drains d b.among))

begins_head : {a b : ℕ} {w x : List ℕ} → Begins (a ∷ w) (b ∷ x) → a ≡ b
begins_head (begins_on h) = refl

begins_tail : {a b : ℕ} {w x : List ℕ} → Begins (a ∷ w) (b ∷ x) → Begins w x
begins_tail (begins_on h) = h

begins_not : {a : ℕ} {w : List ℕ} → Begins (a ∷ w) [] → ⊥
begins_not = elim [ ]

-- the outlet of the unit that the digits w name, c being a cell of it
unfoldable pub outlet_at : Network → List ℕ → Run → ℕ → ℕ
unfolding place_of first_stem
outlet_at N [] R c = first_stem R c
outlet_at N (a ∷ w) R c = outlet_at N w (place_of N R c).unit c

-- cells of the run whose label begins with w
pub record SharesIn (N : Network) (d : ℕ) (R : Run) (w : List ℕ) (x : ℕ) : Type 0 where
  pub held : In N.next R x
  pub begins : Begins w (label N d R x)

module _ {next : ℕ → Next} where
  -- a cell that the part of another holds goes on in that part, and so does one with the same digit
  pair_held : {q : ℕ} {h m : Place} → Pair next q h m → In next h.unit q → h ≡ m
  pair_held pair_same i = refl
  pair_held (pair_odd l o f n) i = absurd (n i)
  pair_held {q} (pair_even l o n) i = absurd (n q i here)
  pair_held {q} (pair_more l n) i = absurd (n q i here)

  pair_digit : {q : ℕ} {h m : Place} → Pair next q h m → h.digit ≡ m.digit → h ≡ m
  pair_digit pair_same e = refl
  pair_digit (pair_odd l o f n) e = absurd (omega arith)
  pair_digit (pair_even l o n) e = absurd (omega arith)
  pair_digit (pair_more l n) e = absurd (omega arith)

module _ {N : Network} {heavier : ℕ → ℕ → Bool} (O : Lawful N heavier) where
  all_drain : (d : ℕ) (R : Run) (c : ℕ) → Headed N.next heavier R → In N.next R c
      → DrainsTo N.next (SharesIn N d R []) (first_stem R c)
  unfolding first_stem
  all_drain d [] c headed_none i = absurd (in_none i)
  all_drain d (mouth v ∷ R) c h i = elim h [ ]
  all_drain d (stem s ∷ R) c (headed_stem w) i = record {
    among = record { held = at_head is_stem; begins = begins_none };
    drains = λ x k. elim (in_cons k.held) [
      | inl h ↦ rw (has_stem h) (drained (record { held = at_head is_stem; begins = begins_none }))
      | inr h ↦ chain_drains w (λ y j. record { held = in_tail j; begins = begins_none })
          (record { held = at_head is_stem; begins = begins_none }) h
    ];
  }

  -- what the part holds is in the run
  place_part : (R : Run) (c t : ℕ) → In N.next R c → In N.next (place_of N R c).unit t → In N.next R t
  place_part R c t i j = rw (join_cut (taken N R) R) at (spot_part O (place_spot O R c i) t j)

  -- the cells of a part that share w are those of the run that share the part's digit and w
  part_up : (d : ℕ) (R : Run) (a : ℕ) (w : List ℕ) (c : ℕ) → Headed N.next heavier R → In N.next R c
      → finished N R ≡ false
      → a ≡ (place_of N R c).digit → (x : ℕ) → SharesIn N d (place_of N R c).unit w x → SharesIn N (suc d) R (a ∷ w) x
  part_up d R a w c u i f e x k =
      let j : In N.next R x = place_part R c x i k.held in
      let same : place_of N R c ≡ place_of N R x = pair_held (place_pair O R c x u i j) k.held in
      record { held = j; begins = rw (label_on N d R x f, ← same, e) (begins_on k.begins) }

  part_down : (d : ℕ) (R : Run) (a : ℕ) (w : List ℕ) (c : ℕ) → Headed N.next heavier R → In N.next R c
      → finished N R ≡ false
      → a ≡ (place_of N R c).digit → (x : ℕ) → SharesIn N (suc d) R (a ∷ w) x → SharesIn N d (place_of N R c).unit w x
  part_down d R a w c u i f e x k =
      let b = rw (label_on N d R x f) at k.begins in
      let same : place_of N R c ≡ place_of N R x = pair_digit (place_pair O R c x u i k.held)
      (sym e ∙ begins_head b) in
      record { held = rw same (place_holds O R x k.held); begins = rw same (begins_tail b) }

  label_off : (d : ℕ) (R : Run) (c : ℕ) → finished N R ≡ true → label N (suc d) R c ≡ []
  unfolding label
  label_off d R c e = rw e

  part_outlet : (d : ℕ) (R : Run) (a : ℕ) (w : List ℕ) (c o : ℕ) → Headed N.next heavier R → In N.next R c
      → finished N R ≡ false
      → a ≡ (place_of N R c).digit → DrainsTo N.next (SharesIn N d (place_of N R c).unit w) o → DrainsTo N.next
      (SharesIn N (suc d) R (a ∷ w)) o
  part_outlet d R a w c o u i f e t = record {
    among = part_up d R a w c u i f e o t.among;
    drains = λ x k. drains_map (part_up d R a w c u i f e) (t.drains x (part_down d R a w c u i f e x k));
  }

  pub outlet_at_lem : (w : List ℕ) (d : ℕ) (R : Run) (c : ℕ) → Headed N.next heavier R → SharesIn N d R w c
      → DrainsTo N.next (SharesIn N d R w) (outlet_at N w R c)
  unfolding outlet_at label
  outlet_at_lem [] d R c u k = all_drain d R c u k.held
  outlet_at_lem (a ∷ w) zero R c u k = absurd (begins_not k.begins)
  outlet_at_lem (a ∷ w) (suc d) R c u k =
      go (finished N R) refl (λ j. outlet_at_lem w d (place_of N R c).unit c (place_headed O R c u k.held) j)
    where
      go : (b : Bool) → finished N R ≡ b
          → (SharesIn N d (place_of N R c).unit w c → DrainsTo N.next (SharesIn N d (place_of N R c).unit w)
          (outlet_at N w (place_of N R c).unit c))
          → DrainsTo N.next (SharesIn N (suc d) R (a ∷ w)) (outlet_at N w (place_of N R c).unit c)
      go true f r = absurd (begins_not (rw (label_off d R c f) at k.begins))
      go false f r =
          let e : a ≡ (place_of N R c).digit = begins_head (rw (label_on N d R c f) at k.begins) in
          part_outlet d R a w c _ u k.held f e (r (part_down d R a w c u k.held f e c k))

  -- for a whole label it is the outlet that `unit_outlet` works out
  pub outlet_at_label : (d : ℕ) (R : Run) (c : ℕ) → outlet_at N (label N d R c) R c ≡ unit_outlet N d R c
  unfolding outlet_at label unit_outlet
  outlet_at_label zero R c = refl
  outlet_at_label (suc d) R c = go (finished N R) (outlet_at_label d (place_of N R c).unit c)
    where
      go : (b : Bool)
          → outlet_at N (label N d (place_of N R c).unit c) (place_of N R c).unit c ≡ unit_outlet N d
          (place_of N R c).unit c
          → outlet_at N (cond b [] ((place_of N R c).digit ∷ label N d (place_of N R c).unit c)) R c ≡ cond b
          (first_stem R c) (unit_outlet N d (place_of N R c).unit c)
      go true e = refl
      go false e = e

-- the digits of a cell of the river from an outlet
abbrev pub digits_in : Network → ℕ → ℕ → ℕ → List ℕ
digits_in N outlet depth c = label N depth (river N outlet) c

pub begins_all : (x : List ℕ) → Begins x x
begins_all [] = begins_none
begins_all (a ∷ x) = begins_on (begins_all x)

module _ {N : Network} {heavier : ℕ → ℕ → Bool} (O : Lawful N heavier) (inside : ℕ → Type 0) (outlet depth : ℕ)
    (drain : (c : ℕ) → inside c → Passes N.next c outlet)
    (upstream : (c : ℕ) → Passes N.next c outlet → inside c) where
  share_in : (w : List ℕ) (x : ℕ) → Shares inside (digits_in N outlet depth) w x → SharesIn N depth (river N outlet) w x
  share_in w x k = record { held = river_covers O outlet x (drain x k.is_inside_lem); begins = k.begins }

  share_out : (w : List ℕ) (x : ℕ) → SharesIn N depth (river N outlet) w x → Shares inside (digits_in N outlet depth) w x
  share_out w x k = record { is_inside_lem = upstream x (river_passes O outlet x k.held); begins = k.begins }

  unit_drains : (w : List ℕ) (c : ℕ) → Shares inside (digits_in N outlet depth) w c
      → DrainsTo N.next (Shares inside (digits_in N outlet depth) w) (outlet_at N w (river N outlet) c)
  unit_drains w c k =
      let t = outlet_at_lem O w depth (river N outlet) c (river_headed O outlet) (share_in w c k) in
      record {
        among = share_out w _ t.among;
        drains = λ x j. drains_map (share_out w)
            (t.drains x (share_in w x j));
      }

  pub unit_outlet_lem : (w : List ℕ) (c : ℕ) → Shares inside (digits_in N outlet depth) w c
      → OneOutlet N.next inside (digits_in N outlet depth) w
  unit_outlet_lem w c k = record {
    cell = outlet_at N w (river N outlet) c;
    drains = unit_drains w c k;
    only = λ t h. one_outlet O.dist O.falls h (unit_drains w c k);
  }

  -- the outlet of the unit that a label names
  pub named_outlet : (p : ℕ) → inside p
      → DrainsTo N.next (Shares inside (digits_in N outlet depth) (digits_in N outlet depth p))
      (unit_outlet N depth (river N outlet) p)
  named_outlet p i =
      rw (outlet_at_label O depth (river N outlet) p) at
      (unit_drains (digits_in N outlet depth p) p
      (record { is_inside_lem = i; begins = begins_all (digits_in N outlet depth p) }))
