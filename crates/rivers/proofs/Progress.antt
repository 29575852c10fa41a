-- What is still to do of a unit, position by position: the run under way, and the parts after it.
use mathlib.Core.Path.{◌≡◌, refl, sym, ap, ◌∙◌}
use mathlib.Core.Bool.{Bool, true, false}
use mathlib.Core.List.{List, [], ◌∷◌, ◌++◌}
use Prim.Native.Nat.{ℕ, suc, ◌+◌, ◌-◌, ◌*◌, ◌≤◌, ◌<◌}
use native.Mathlib.Omega.{arith}
use lib.Dec.{leb}
use lib.ListN.{length, get_or}
use borrow.Author.Tests.{le-leb, lt-leb}
use Rattle.sheet.specs.River.{Network, heavier, Run, Entry, stem, mouth, river}
use Rattle.sheet.specs.Unit.{Parts, last, part, parts, taken, finished, prepend, cut_at}
use Rattle.sheet.specs.Label.{holds}
use Rattle.claims.specs.Runs.{MouthOf, mouth_here, mouth_there, Headed}
use Rattle.claims.proofs.Order.{Ordered, ordered_right}
use Rattle.claims.proofs.Rivers.{headed_ordered, river_headed}
use Rattle.claims.proofs.Parts.{join, join_cut, AllHeaded, all_last, all_cut, parts_headed}
use Rattle.claims.proofs.Mouths.{chosen, cuts_cut, taken_few}
use Rattle.rivers.specs.Layout.{Laid, laid_end, laid_stem, laid_mouth, Layout}
use Rattle.rivers.specs.UnitAt.{NetworkOf, UnitAt}
use Rattle.rivers.specs.Cut.{key_at, CutOf}
use Rattle.rivers.specs.Labelled.{unit_labelled, stands}
use Rattle.rivers.proofs.Positions.{laid_le, laid_append, goes_stem, goes_mouth, goes_end, unit_stands}
use Rattle.rivers.proofs.Largest.{key_is}
use Rattle.rivers.proofs.Labelling.{parts_labelled, unit_parts, parts_last, parts_part}

-- the river whose mouth stands at position j is a unit
unfoldable pub river_unit : {cell size area : List ℕ} {count split least : ℕ} → Layout cell size count
    → NetworkOf cell size area split least → (j : ℕ) → j < length cell
    → UnitAt cell size area split least (j + get_or size j 0) j (j + get_or size j 0)
river_unit {cell} Y n j h =
    record {
      of = n;
      run = river n.network (get_or cell j 0);
      headed = river_headed n.lawful (get_or cell j 0);
      laid = n.laid_out.rivers j h;
      before_end = omega arith;
      end_within = Y.within j h;
    }

-- the cells at its positions are those that it holds
pub river_stands : {cell size area : List ℕ} {count split least : ℕ} (Y : Layout cell size count)
    (n : NetworkOf cell size area split least) (j : ℕ) → j < length cell → (c : ℕ)
    → holds n.network (river n.network (get_or cell j 0)) c ≡ stands cell j (get_or size j 0) c
unfolding river_unit
river_stands {size = size} Y n j h c =
    let e : j + get_or size j 0 - j ≡ get_or size j 0 = omega arith in
    sym (rw e at (unit_stands Y (river_unit Y n j h) c))

-- the parts with a run more at the start of the first
pub prepends : Run → Parts → Parts
prepends [] P = P
prepends (e ∷ A) P = prepend e (prepends A P)

prepends_more : (A : Run) (e : Entry) (P : Parts) → prepends (A ++ (e ∷ [])) P ≡ prepends A (prepend e P)
unfolding prepends
prepends_more [] e P = refl
prepends_more (a ∷ A) e P = ap (prepend a) (prepends_more A e P)

prepends_part : (A : Run) (v : ℕ) (P : Parts) → prepends A (part [] v P) ≡ part A v P
unfolding prepends prepend
prepends_part [] v P = refl
prepends_part (a ∷ A) v P = ap (prepend a) (prepends_part A v P)

prepends_last : (A : Run) → prepends A (last []) ≡ last A
unfolding prepends prepend
prepends_last [] = refl
prepends_last (a ∷ A) = ap (prepend a) (prepends_last A)

-- what `label_run` knows of the unit R of the network N at position j: the run that began at `start` gets `digit` after
-- those gathered, and what is still to do makes of the labels what the whole makes of those at entry
pub record Progress (N : Network) (R : Run) (cell size : List ℕ) (end hi digits : ℕ) (gathered whole labels : List ℕ)
    (digit start j : ℕ) : Type 0 where
  pub begun : Run
  pub left : Run
  pub laid_begun : Laid cell size end start j begun
  pub laid_left : Laid cell size end j hi left
  pub of_unit : (v : ℕ) → MouthOf left v → MouthOf R v
  pub todo : Parts
  pub todo_is : todo ≡ prepends begun (cut_at (taken N R) left)
  pub ordered : Ordered N.next (join todo)
  pub headed : AllHeaded N.next (heavier N) todo
  pub used : ℕ
  pub digit_is : digit ≡ suc used
  pub few : used + 2 * chosen (taken N R) left ≤ 8
  pub rest : parts_labelled N digits gathered used todo labels ≡ whole

module _ {cell size area : List ℕ} {count split least end lo hi : ℕ} (Y : Layout cell size count)
    (u : UnitAt cell size area split least end lo hi) where
  pub progress_none : {digits : ℕ} {gathered labels : List ℕ} → (digits ≡ 0 → ⊥)
      → finished u.of.network u.run ≡ false → split ≤ 4
      → Progress u.of.network u.run cell size end hi (digits - 1) gathered
      (unit_labelled u.of.network u.run digits gathered labels) labels 1 lo lo
  unfolding prepends parts
  progress_none {digits} {gathered} {labels} d f s =
      let o : Ordered u.of.network.next u.run = headed_ordered u.of.lawful u.headed in
      let cuts = cuts_cut (taken u.of.network u.run) u.run in
      record {
        begun = [];
        left = u.run;
        laid_begun = laid_end;
        laid_left = u.laid;
        of_unit = λ v m. m;
        todo = cut_at (taken u.of.network u.run) u.run;
        todo_is = refl;
        ordered = rw (join_cut (taken u.of.network u.run) u.run) o;
        headed = parts_headed u.of.lawful u.headed;
        used = 0;
        digit_is = refl;
        few = omega (arith, taken_few u.of.network u.run o, u.of.laid_out.split_is);
        rest = unit_parts u.of.network u.run digits gathered labels d f;
      }

  module _ {digits digit start j : ℕ} {gathered whole labels : List ℕ} where
    pub progress_stem : j < hi → j + get_or size j 0 ≡ end
        → Progress u.of.network u.run cell size end hi digits gathered whole labels digit start j
        → Progress u.of.network u.run cell size end hi digits gathered whole labels digit start (j + 1)
    unfolding cut_at chosen
    progress_stem h q p =
        let g = goes_stem h q p.laid_left in
        record {
          begun = p.begun ++ (stem (get_or cell j 0) ∷ []);
          left = g.rest;
          laid_begun = laid_append p.laid_begun (laid_stem q laid_end);
          laid_left = g.laid;
          of_unit = λ v m. p.of_unit v (rw g.is (mouth_there m));
          todo = p.todo;
          todo_is = rw g.is at p.todo_is ∙ sym (prepends_more p.begun (stem (get_or cell j 0)) _);
          ordered = p.ordered;
          headed = p.headed;
          used = p.used;
          digit_is = p.digit_is;
          few = rw g.is at p.few;
          rest = p.rest;
        }

    module _ {done : Bool} {cut k : ℕ} (by : CutOf u.of.network u.run done cut) (h : j < hi)
        (q : j + get_or size j 0 ≡ end → ⊥) (key : k ≡ key_at cell area j)
        (p : Progress u.of.network u.run cell size end hi digits gathered whole labels digit start j) where
      -- the mouth at position j is taken if its key is not below the cut
      taken_at : taken u.of.network u.run (get_or cell j 0) ≡ leb cut k
      taken_at =
          let g = goes_mouth h q p.laid_left in
          rw (key, key_is u j h) (by.takes (get_or cell j 0) (p.of_unit (get_or cell j 0) (rw g.is mouth_here)))

      pub progress_skip : k < cut
          → Progress u.of.network u.run cell size end hi digits gathered whole labels digit start
          (j + get_or size j 0)
      unfolding cut_at chosen
      progress_skip l =
          let g = goes_mouth h q p.laid_left in
          let out : taken u.of.network u.run (get_or cell j 0) ≡ false = taken_at ∙ lt-leb cut k l in
          record {
            begun = p.begun ++ (mouth (get_or cell j 0) ∷ []);
            left = g.rest;
            laid_begun = laid_append p.laid_begun (laid_mouth q laid_end);
            laid_left = g.laid;
            of_unit = λ v m. p.of_unit v (rw g.is (mouth_there m));
            todo = p.todo;
            todo_is = rw (g.is, out) at p.todo_is ∙ sym (prepends_more p.begun (mouth (get_or cell j 0)) _);
            ordered = p.ordered;
            headed = p.headed;
            used = p.used;
            digit_is = p.digit_is;
            few = rw (g.is, out) at p.few;
            rest = p.rest;
          }

      module _ (l : cut ≤ k) where
        -- the run under way and the parts after the mouth
        after : (left : Run) → p.left ≡ mouth (get_or cell j 0) ∷ left
            → p.todo ≡ part p.begun (get_or cell j 0) (cut_at (taken u.of.network u.run) left)
        unfolding cut_at
        after left e =
            let in-it : taken u.of.network u.run (get_or cell j 0) ≡ true = taken_at ∙ le-leb cut k l in
            rw (e, in-it) at p.todo_is ∙ prepends_part p.begun (get_or cell j 0) _

        -- a digit for the run, one for the tributary and one for the next run are left
        pub progress_room : digit + 2 ≤ 9
        unfolding chosen
        progress_room =
            let g = goes_mouth h q p.laid_left in
            let in-it : taken u.of.network u.run (get_or cell j 0) ≡ true = taken_at ∙ le-leb cut k l in
            let f = rw (g.is, in-it) at p.few in
            omega (arith, p.digit_is)

        -- the run under way is a unit
        pub progress_unit : UnitAt cell size area split least end start j
        progress_unit =
            let g = goes_mouth h q p.laid_left in
            record {
              of = u.of;
              run = p.begun;
              headed = first_headed (rw (after g.rest g.is) at p.headed);
              laid = p.laid_begun;
              before_end = omega (arith, u.before_end);
              end_within = u.end_within;
            }
          where
            first_headed : {A : Run} {v : ℕ} {P : Parts}
                → AllHeaded u.of.network.next (heavier u.of.network) (part A v P) → Headed
                u.of.network.next (heavier u.of.network) A
            first_headed (all_cut a b) = a

        pub progress_take : {first second : List ℕ}
            → ((w : UnitAt cell size area split least end start j) → first ≡ unit_labelled w.of.network
            w.run digits (gathered ++ (digit ∷ [])) labels)
            → ((n : NetworkOf cell size area split least)
            → second ≡ unit_labelled n.network (river n.network (get_or cell j 0)) digits
            (gathered ++ ((digit + 1) ∷ [])) first)
            → Progress u.of.network u.run cell size end hi digits gathered whole second (digit + 2)
            (j + get_or size j 0) (j + get_or size j 0)
        unfolding chosen prepends progress_unit
        progress_take {first} {second} f s =
            let g = goes_mouth h q p.laid_left in
            let e = after g.rest g.is in
            let in-it : taken u.of.network u.run (get_or cell j 0) ≡ true = taken_at ∙ le-leb cut k l in
            let o = rw e at p.ordered in
            let few = rw (g.is, in-it) at p.few in
            let by_one : digit + 1 ≡ suc (suc p.used) = omega (arith, p.digit_is) in
            let first_is : first ≡ unit_labelled u.of.network p.begun digits
            (gathered ++ (suc p.used ∷ [])) labels =
            f progress_unit ∙ ap
            (λ (a : ℕ). unit_labelled u.of.network p.begun digits (gathered ++ (a ∷ [])) labels) p.digit_is in
            let second_is : second ≡ unit_labelled u.of.network (river u.of.network (get_or cell j 0)) digits
            (gathered ++ (suc (suc p.used) ∷ [])) first =
            s u.of ∙ ap
            (λ (a : ℕ). unit_labelled u.of.network (river u.of.network (get_or cell j 0)) digits
            (gathered ++ (a ∷ [])) first) by_one in
            record {
              begun = [];
              left = g.rest;
              laid_begun = laid_end;
              laid_left = g.laid;
              of_unit = λ v m. p.of_unit v (rw g.is (mouth_there m));
              todo = cut_at (taken u.of.network u.run) g.rest;
              todo_is = refl;
              ordered = ordered_right (mouth (get_or cell j 0) ∷ []) _ (ordered_right p.begun _ o);
              headed = rest_headed (rw e at p.headed);
              used = suc (suc p.used);
              digit_is = omega (arith, p.digit_is);
              few = omega arith;
              rest =
                  rw (second_is, first_is)
                  (parts_part u.of.lawful digits gathered p.used p.begun (get_or cell j 0) _ labels o)
                  ∙ rw e at p.rest;
            }
          where
            rest_headed : {A : Run} {v : ℕ} {P : Parts}
                → AllHeaded u.of.network.next (heavier u.of.network) (part A v P) → AllHeaded
                u.of.network.next (heavier u.of.network) P
            rest_headed (all_cut a b) = b

    -- the last run
    module _ (h : hi ≤ j)
        (p : Progress u.of.network u.run cell size end hi digits gathered whole labels digit start j) where
      only : p.todo ≡ last p.begun
      unfolding cut_at
      only = rw (goes_end Y u.before_end u.end_within h p.laid_left) at p.todo_is ∙ prepends_last p.begun

      pub progress_last_room : digit ≤ 9
      progress_last_room = omega (arith, p.digit_is, p.few)

      pub progress_last_unit : UnitAt cell size area split least end start hi
      progress_last_unit =
          let same : j ≡ hi = omega (arith, laid_le p.laid_left) in
          record {
            of = u.of;
            run = p.begun;
            headed = last_headed (rw only at p.headed);
            laid = rw same at p.laid_begun;
            before_end = u.before_end;
            end_within = u.end_within;
          }
        where
          last_headed : {A : Run} → AllHeaded u.of.network.next (heavier u.of.network) (last A)
              → Headed u.of.network.next (heavier u.of.network) A
          last_headed (all_last a) = a

      pub progress_last : {final : List ℕ}
          → ((w : UnitAt cell size area split least end start hi) → final ≡ unit_labelled w.of.network
          w.run digits (gathered ++ (digit ∷ [])) labels)
          → final ≡ whole
      unfolding progress_last_unit
      progress_last f =
          f progress_last_unit
          ∙ ap (λ (a : ℕ). unit_labelled u.of.network p.begun digits (gathered ++ (a ∷ [])) labels) p.digit_is
          ∙ sym (parts_last u.of.network digits gathered p.used p.begun labels)
          ∙ rw only at p.rest
