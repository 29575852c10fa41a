-- Where every mouth is counted, labels do not depend on the test for it: with least 1 they are those of document 01.
-- Those of a sheet of depth 18 or less are one number.
use mathlib.Core.Path.{◌≡◌, refl, sym, ◌∙◌, ap, fun_ext}
use mathlib.Core.Bool.{Bool, true, cond}
use mathlib.Core.List.{[], ◌∷◌}
use Prim.Native.Nat.{ℕ, zero, suc}
use native.Mathlib.Omega.{arith}
use Rattle.sheet.specs.Sheet.{Sheet, inside}
use Rattle.sheet.specs.River.{Network, network, heavier, donors, Run, stem, mouth, upstream, river_within, river}
use Rattle.sheet.specs.Unit.{finished, taken, Parts, last, part, prepend, cut_at, parts}
use Rattle.sheet.specs.Record.{number, label_of_numbers, record_of}
use Rattle.sheet.specs.Label.{passes_in, holds, place_in, place_of, label, outlet_of, label_digits}
use Rattle.sheet.specs.Refusal.{Lent, outcome, lent_after}
use Rattle.sheet.proofs.Records.{record_one_number}
use Rattle.claims.specs.Demand.{AllCounted, Inside}
use Rattle.claims.specs.Lawful.{Lawful}
use Rattle.claims.specs.Runs.{MouthOf, mouth_here, mouth_there, Headed}
use Rattle.claims.specs.AsBefore.{every_mouth, digits_by, AsBefore, number_label, OneNumber}
use Rattle.claims.proofs.Runs.{In}
use Rattle.claims.proofs.Rivers.{mouth_goes, river_headed, river_covers}
use Rattle.claims.proofs.Parts.{place_headed, place_holds}
use Rattle.claims.proofs.Basins.{lawful}
use Rattle.claims.proofs.Units.{digits_in}
use Rattle.claims.proofs.Written.{the_forest, in_own_basin, at_most_depth, label_written, label_from_outlet}
use Rattle.claims.proofs.Theorems.{counts}
use Rattle.sheet.specs.Answer.{Accepted}
use Rattle.std.specs.Prelude.{Some}

-- the network with every mouth counted
abbrev all : Network → Network
all N = record { cells = N.cells; next = N.next; area = N.area; counted = λ v. true; split = N.split }

-- ---- what does not depend on which mouths are counted

module _ (N : Network) where
  river_same : (n m : ℕ) → river_within (all N) n m ≡ river_within N n m
  unfolding river_within donors
  river_same zero m = refl
  river_same (suc n) m = ap (λ (f : ℕ → Run). stem m ∷ upstream f (donors N m)) (fun_ext (river_same n))

  holds_same : (R : Run) (c : ℕ) → holds (all N) R c ≡ holds N R c
  unfolding holds passes_in
  holds_same [] c = refl
  holds_same (stem s ∷ R) c = rw (holds_same R c)
  holds_same (mouth v ∷ R) c = rw (holds_same R c)

  place_in_same : (k : ℕ) (P : Parts) (c : ℕ) → place_in (all N) k P c ≡ place_in N k P c
  unfolding place_in passes_in river
  place_in_same k (last R) c = refl
  place_in_same k (part R v P) c =
      rw (holds_same R c, place_in_same (suc (suc k)) P c, river_same N.cells v)

-- ---- runs whose mouths are all counted

abbrev Counted : Network → Run → Type 0
Counted N R = (v : ℕ) → MouthOf R v → N.counted v ≡ true

module _ (N : Network) where
  finished_same : (R : Run) → Counted N R → finished (all N) R ≡ finished N R
  unfolding finished
  finished_same [] h = refl
  finished_same (stem s ∷ R) h = finished_same R (λ v m. h v (mouth_there m))
  finished_same (mouth v ∷ R) h = rw (h v mouth_here)

  cut_same : (R rest : Run) → Counted N rest → cut_at (taken (all N) R) rest ≡ cut_at (taken N R) rest
  unfolding cut_at taken
  cut_same R [] h = refl
  cut_same R (stem s ∷ rest) h = ap (prepend (stem s)) (cut_same R rest (λ v m. h v (mouth_there m)))
  cut_same R (mouth v ∷ rest) h = rw (h v mouth_here, cut_same R rest (λ u m. h u (mouth_there m)))

  place_same : (R : Run) (c : ℕ) → Counted N R → place_of (all N) R c ≡ place_of N R c
  unfolding place_of parts
  place_same R c h = place_in_same N 0 (cut_at (taken (all N) R) R) c ∙ ap (λ (P : Parts). place_in N 0 P c)
      (cut_same R R h)

module _ {N : Network} (O : Lawful N (heavier N)) (counts : (v s : ℕ) → N.next v ≡ Some s → N.counted v ≡ true) where
  run_counted : (R : Run) → Headed N.next (heavier N) R → Counted N R
  run_counted R w v m = let g = mouth_goes w m in counts v g.0 g.1

  label_same : (d : ℕ) (R : Run) (c : ℕ) → Headed N.next (heavier N) R → In N.next R c
      → label (all N) d R c ≡ label N d R c
  unfolding label
  label_same zero R c w i = refl
  label_same (suc d) R c w i =
      let h = run_counted R w in
      rw (
        finished_same N R h,
        place_same N R c h,
        label_same d (place_of N R c).unit c (place_headed O R c w i) (place_holds O R c i),
      )

-- ---- accepted sheets

module _ (S : Sheet) (L : Lent) (accepted : outcome S L ≡ Accepted) where
  -- the digits by the network of the sheet, and by that in which every mouth is counted
  digits_same : AllCounted S.least → (c : ℕ) → Inside S c
      → digits_in (network S) (outlet_of S.grid c) S.depth c ≡ digits_by (every_mouth S.split S) S c
  unfolding network every_mouth digits_by river
  digits_same one c i =
      let F = the_forest S L accepted in
      let O = lawful F in
      let o = outlet_of S.grid c in
      let same =
      label_same O (λ v s e. counts S L accepted one v (F.from_inside v s e)) S.depth (river (network S) o) c
      (river_headed O o) (river_covers O o c (in_own_basin S L accepted c i).comes) in
      rw (river_same (network S) (network S).cells o) (sym same)

  pub as_before : AsBefore S (lent_after S L).labels
  as_before = record {
    same_labels = λ one four c i.
        label_from_outlet S L accepted c i
        ∙ ap record_of (digits_same one c i ∙ ap (λ (k : ℕ). digits_by (every_mouth k S) S c) four);
  }

  inside_number : (c : ℕ) → Inside S c → number_label S c ≡ number (label_digits S c)
  unfolding number_label
  inside_number c i = go (inside S.grid c) i
    where
      go : (b : Bool) → b ≡ true → cond b (number (label_digits S c)) 0 ≡ number (label_digits S c)
      go b e = rw e

  pub one_number : OneNumber S (lent_after S L).labels
  one_number = record {
    same_number = λ few c i.
        label_written S L accepted c i
        ∙ record_one_number (label_digits S c) (omega (arith, at_most_depth S L accepted c))
        ∙ ap (λ (m : ℕ). label_of_numbers m 0) (sym (inside_number c i));
  }
