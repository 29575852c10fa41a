-- Two networks that agree on the cells of a basin give them the same rivers, units and labels.
use mathlib.Core.Path.{◌≡◌, refl, ◌∙◌, ap}
use mathlib.Core.Bool.{Bool, true, false, cond}
use mathlib.Core.List.{List, [], ◌∷◌, Memᴰ}
use Prim.Native.Nat.{ℕ, zero, suc}
use Rattle.sheet.specs.Area.{heavier_by}
use Rattle.sheet.specs.River.{Network, donors, Entry, stem, mouth, Run, upstream, river_within, river}
use Rattle.sheet.specs.Unit.{finished, rank, taken, Parts, last, part, prepend, cut_at, parts}
use Rattle.sheet.specs.Label.{passes_in, holds, Place, placed, place_in, place_of, label}
use Rattle.claims.specs.Runs.{MouthOf, mouth_here, mouth_there}
use Rattle.claims.proofs.BasinWays.{Agree, passes_same, donors_same, donor_in}
use Rattle.sheet.specs.Answer.{Next}

upstream_same : (f g : ℕ → Run) (us : List ℕ) → ((u : ℕ) → Memᴰ u us → f u ≡ g u) → upstream f us ≡ upstream g us
unfolding upstream
upstream_same f g [] h = refl
upstream_same f g (u ∷ []) h = h u (Memᴰ.head refl)
upstream_same f g (u ∷ w ∷ us) h =
    ap (λ (R : Run). mouth u ∷ R) (upstream_same f g (w ∷ us) (λ x m. h x (Memᴰ.tail m)))

-- ---- runs and parts whose mouths lie in the basin

abbrev MouthsIn : (ℕ → Bool) → Run → Type 0
MouthsIn is_in R = (v : ℕ) → MouthOf R v → is_in v ≡ true

data PartsIn (is_in : ℕ → Bool) : Parts → Type 0 where
  last_in : {R : Run} → MouthsIn is_in R → PartsIn is_in (last R)
  part_in : {R : Run} {v : ℕ} {P : Parts} → MouthsIn is_in R → is_in v ≡ true → PartsIn is_in P
      → PartsIn is_in (part R v P)

module _ (is_in : ℕ → Bool) where
  none_in : MouthsIn is_in []
  none_in v m = absurd (no m)
    where
      no : {v : ℕ} → MouthOf [] v → ⊥
      no = elim [ ]

  stem_in : (s : ℕ) (R : Run) → MouthsIn is_in R → MouthsIn is_in (stem s ∷ R)
  stem_in s R h v (mouth_there m) = h v m

  mouth_in : (v : ℕ) → is_in v ≡ true → (R : Run) → MouthsIn is_in R → MouthsIn is_in (mouth v ∷ R)
  mouth_in v i R h u mouth_here = i
  mouth_in v i R h u (mouth_there m) = h u m

  upstream_in : (f : ℕ → Run) (us : List ℕ) → ((u : ℕ) → Memᴰ u us → is_in u ≡ true)
      → ((u : ℕ) → Memᴰ u us → MouthsIn is_in (f u)) → MouthsIn is_in (upstream f us)
  unfolding upstream
  upstream_in f [] i h = none_in
  upstream_in f (u ∷ []) i h = h u (Memᴰ.head refl)
  upstream_in f (u ∷ w ∷ us) i h =
      mouth_in u (i u (Memᴰ.head refl)) (upstream f (w ∷ us))
      (upstream_in f (w ∷ us) (λ x m. i x (Memᴰ.tail m)) (λ x m. h x (Memᴰ.tail m)))

  prepend_in : (e : Entry) → ((R : Run) → MouthsIn is_in R → MouthsIn is_in (e ∷ R)) → {P : Parts} → PartsIn is_in P
      → PartsIn is_in (prepend e P)
  unfolding prepend
  prepend_in e more (last_in {R = R} h) = last_in (more R h)
  prepend_in e more (part_in {R = R} h i k) = part_in (more R h) i k

  cut_in : (test : ℕ → Bool) (R : Run) → MouthsIn is_in R → PartsIn is_in (cut_at test R)
  unfolding cut_at
  cut_in test [] h = last_in none_in
  cut_in test (stem s ∷ R) h = prepend_in (stem s) (stem_in s) (cut_in test R (λ v m. h v (mouth_there m)))
  cut_in test (mouth v ∷ R) h = go (test v) (h v mouth_here) (cut_in test R (λ u m. h u (mouth_there m)))
    where
      go : (b : Bool) → is_in v ≡ true → PartsIn is_in (cut_at test R)
          → PartsIn is_in (cond b (part [] v (cut_at test R)) (prepend (mouth v) (cut_at test R)))
      go true i k = part_in none_in i k
      go false i k = prepend_in (mouth v) (mouth_in v i) k

-- ---- networks that agree on the basin

module _ {is_in : ℕ → Bool} {next next' : ℕ → Next} (A : Agree is_in next next') (cells split : ℕ) (area area' : ℕ → ℕ)
    (counted counted' : ℕ → Bool) (areas : (c : ℕ) → is_in c ≡ true → area' c ≡ area c)
    (counts : (c : ℕ) → is_in c ≡ true → counted' c ≡ counted c) where
  abbrev N : Network
  N = record { cells = cells; next = next; area = area; counted = counted; split = split }

  abbrev N' : Network
  N' = record { cells = cells; next = next'; area = area'; counted = counted'; split = split }

  heavier_same : (u v : ℕ) → is_in u ≡ true → is_in v ≡ true → heavier_by area' u v ≡ heavier_by area u v
  unfolding heavier_by
  heavier_same u v i j = rw (areas u i, areas v j)

  all_donors : (c : ℕ) → is_in c ≡ true → donors N' c ≡ donors N c
  unfolding donors
  all_donors c i = donors_same A (heavier_by area) (heavier_by area') heavier_same cells c i

  each_donor : (c u : ℕ) → is_in c ≡ true → Memᴰ u (donors N c) → is_in u ≡ true
  unfolding donors
  each_donor c u i m = donor_in A (heavier_by area) (heavier_by area') heavier_same cells c u i m

  within_same : (k m : ℕ) → is_in m ≡ true → river_within N' k m ≡ river_within N k m
  unfolding river_within
  within_same zero m i = refl
  within_same (suc k) m i =
      rw (all_donors m i) (ap (λ (R : Run). stem m ∷ R)
      (upstream_same (river_within N' k) (river_within N k) (donors N m) (λ u h. within_same k u (each_donor m u i h))))

  within_in : (k m : ℕ) → is_in m ≡ true → MouthsIn is_in (river_within N k m)
  unfolding river_within
  within_in zero m i = none_in is_in
  within_in (suc k) m i =
      stem_in is_in m (upstream (river_within N k) (donors N m))
      (upstream_in is_in (river_within N k) (donors N m) (λ u h. each_donor m u i h)
      (λ u h. within_in k u (each_donor m u i h)))

  river_same : (m : ℕ) → is_in m ≡ true → river N' m ≡ river N m
  unfolding river
  river_same m i = within_same cells m i

  river_in : (m : ℕ) → is_in m ≡ true → MouthsIn is_in (river N m)
  unfolding river
  river_in m i = within_in cells m i

  finished_same : (R : Run) → MouthsIn is_in R → finished N' R ≡ finished N R
  unfolding finished
  finished_same [] h = refl
  finished_same (stem s ∷ R) h = finished_same R (λ v m. h v (mouth_there m))
  finished_same (mouth v ∷ R) h = rw (counts v (h v mouth_here), finished_same R (λ u m. h u (mouth_there m)))

  rank_same : (R : Run) (v : ℕ) → MouthsIn is_in R → is_in v ≡ true
      → rank (heavier_by area') R v ≡ rank (heavier_by area) R v
  unfolding rank
  rank_same [] v h i = refl
  rank_same (stem s ∷ R) v h i = rank_same R v (λ u m. h u (mouth_there m)) i
  rank_same (mouth w ∷ R) v h i =
      rw (heavier_same w v (h w mouth_here) i, rank_same R v (λ u m. h u (mouth_there m)) i)

  taken_same : (R : Run) (v : ℕ) → MouthsIn is_in R → is_in v ≡ true → taken N' R v ≡ taken N R v
  unfolding taken
  taken_same R v h i = rw (counts v i, rank_same R v h i)

  cut_same : (R rest : Run) → MouthsIn is_in R → MouthsIn is_in rest
      → cut_at (taken N' R) rest ≡ cut_at (taken N R) rest
  unfolding cut_at
  cut_same R [] h k = refl
  cut_same R (stem s ∷ rest) h k = ap (prepend (stem s)) (cut_same R rest h (λ v m. k v (mouth_there m)))
  cut_same R (mouth v ∷ rest) h k =
      rw (taken_same R v h (k v mouth_here), cut_same R rest h (λ u m. k u (mouth_there m)))

  passes_in_same : (c v : ℕ) → is_in c ≡ true → passes_in N' c v ≡ passes_in N c v
  unfolding passes_in
  passes_in_same c v i = passes_same A cells c v i

  holds_same : (R : Run) (c : ℕ) → is_in c ≡ true → holds N' R c ≡ holds N R c
  unfolding holds
  holds_same [] c i = refl
  holds_same (stem s ∷ R) c i = rw (holds_same R c i)
  holds_same (mouth v ∷ R) c i = rw (passes_in_same c v i, holds_same R c i)

  place_in_same : (k c : ℕ) → is_in c ≡ true → {P : Parts} → PartsIn is_in P → place_in N' k P c ≡ place_in N k P c
  unfolding place_in
  place_in_same k c i (last_in h) = refl
  place_in_same k c i (part_in {R = R} {v = v} h j w) =
      rw (holds_same R c i, passes_in_same c v i, river_same v j, place_in_same (suc (suc k)) c i w)

  unit_in : (k c : ℕ) {P : Parts} → PartsIn is_in P → MouthsIn is_in (place_in N k P c).unit
  unfolding place_in
  unit_in k c (last_in h) = h
  unit_in k c (part_in {R = R} {v = v} {P = P} h j w) =
      go (holds N R c) (passes_in N c v) (place_in N (suc (suc k)) P c) (unit_in (suc (suc k)) c w)
    where
      go : (a b : Bool) (later : Place) → MouthsIn is_in later.unit
          → MouthsIn is_in (cond a (placed (suc k) R) (cond b (placed (suc (suc k)) (river N v)) later)).unit
      go true b later l = h
      go false true later l = river_in v j
      go false false later l = l

  place_same : (R : Run) (c : ℕ) → MouthsIn is_in R → is_in c ≡ true → place_of N' R c ≡ place_of N R c
  unfolding place_of parts
  place_same R c h i =
      rw (cut_same R R h h) (place_in_same 0 c i (cut_in is_in (taken N R) R h))

  place_unit_in : (R : Run) (c : ℕ) → MouthsIn is_in R → MouthsIn is_in (place_of N R c).unit
  unfolding place_of parts
  place_unit_in R c h = unit_in 0 c (cut_in is_in (taken N R) R h)

  label_same : (depth : ℕ) (R : Run) (c : ℕ) → MouthsIn is_in R → is_in c ≡ true
      → label N' depth R c ≡ label N depth R c
  unfolding label
  label_same zero R c h i = refl
  label_same (suc depth) R c h i =
      rw (
        finished_same R h,
        place_same R c h i,
        label_same depth (place_of N R c).unit c (place_unit_in R c h) i,
      )

  -- the digits of a cell of the basin, from the river of a cell of it on
  pub digits_same : (depth o c : ℕ) → is_in o ≡ true → is_in c ≡ true
      → label N' depth (river N' o) c ≡ label N depth (river N o) c
  digits_same depth o c j i =
      ap (λ (R : Run). label N' depth R c) (river_same o j) ∙ label_same depth (river N o) c (river_in o j) i
