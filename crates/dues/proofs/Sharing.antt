-- The loops of the levy: cells weighed one by one, and dues written one after the other.
use mathlib.Core.Path.{◌≡◌, refl, sym, ap, ◌∙◌}
use mathlib.Core.List.{List, [], ◌∷◌}
use Prim.Native.Nat.{ℕ, zero, suc, ◌+◌, ◌*◌, ◌-◌, ◌≤◌, ◌<◌}
use native.Mathlib.Nat.{zero-add}
use native.Mathlib.Numerals.{add-one}
use native.Mathlib.Omega.{arith}
use lib.ListN.{length, length-map, get_or, set, take, drop, length-set, length-take, drop_of_length-le}
use lib.Seq.{sets, drop-cons, drop-drop, get_or-take, get_or-drop}
use Rattle.sheet.specs.Area.{row_weight}
use Rattle.sheet.specs.Refusal.{written}
use Rattle.sheet.proofs.Lists.{written_whole}
use Rattle.claims.specs.Bounds.{sum, most_area}
use Rattle.index.specs.Units.{UnitEntry}
use Rattle.index.specs.Steps.{groups_of, Group}
use Rattle.index.proofs.Groups.{groups_past, one_more}
use Rattle.index.proofs.Room.{groups_few}
use Rattle.dues.specs.Levy.{if_levied}
use Rattle.dues.specs.Steps.{Weighed, Shared, part_weights, counts_of, group_weights, dues_by}
use Rattle.dues.proofs.Shares.{owed, owed_none, owed_more, dues_length, product_most}
use Rattle.sheet.specs.Answer.{Counted}
use Rattle.std.specs.Prelude.{Err, Ok}

sum_split : (f : ℕ → ℕ) (m : ℕ) (cs : List ℕ) → sum f cs ≡ sum f (take m cs) + sum f (drop m cs)
unfolding sum
sum_split f zero cs = omega arith
sum_split f (suc m) [] = omega arith
sum_split f (suc m) (c ∷ cs) = omega (arith, sum_split f m cs)

sum_from : (f : ℕ → ℕ) (cs : List ℕ) (j : ℕ) → j < length cs
    → sum f (drop j cs) ≡ f (get_or cs j 0) + sum f (drop (j + 1) cs)
unfolding sum
sum_from f cs j l = rw (add-one j, drop-cons cs j 0 l) refl

sum_past : (f : ℕ → ℕ) (cs : List ℕ) (j : ℕ) → length cs ≤ j → sum f (drop j cs) ≡ 0
unfolding sum
sum_past f cs j l = rw (drop_of_length-le cs l) refl

-- ---- cells weighed one by one

-- the first j cells of a list weigh so much: what is left of it weighs the rest
abbrev pub WeighedTo : (ℕ → ℕ) → List ℕ → ℕ → ℕ → Type 0
WeighedTo f cs j weight = weight + sum f (drop j cs) ≡ sum f cs

module _ (f : ℕ → ℕ) (cs : List ℕ) (j weight : ℕ) where
  pub weighed_more : WeighedTo f cs j weight → j < length cs → WeighedTo f cs (j + 1) (weight + f (get_or cs j 0))
  weighed_more h l = omega (arith, h, sum_from f cs j l)

  pub weighed_all : WeighedTo f cs j weight → length cs ≤ j → weight ≡ sum f cs
  weighed_all h l = omega (arith, h, sum_past f cs j l)

  -- several cells at once
  pub weighed_part : (m : ℕ) → WeighedTo f cs j weight
      → WeighedTo f cs (j + m) (weight + sum f (take m (drop j cs)))
  weighed_part m h = omega (arith, h, sum_split f m (drop j cs), ap (sum f) (drop-drop m j cs))

-- a part of a list of cells
pub part_weighed : {cols : ℕ} {weights cells : List ℕ} (j m : ℕ) → Weighed cols weights cells → j + m ≤ length cells
    → Weighed cols weights (take m (drop j cells))
part_weighed {cols} {weights} {cells} j m w l = record {
  some = w.some;
  rows = λ k b.
      let n : k < m = omega (arith, length-take m (drop j cells)) in
      rw (get_or-take m (drop j cells) k 0 n, get_or-drop j cells k 0) (w.rows (j + k) (omega arith));
  small =
      let f = row_weight cols weights in
      omega (arith, w.small, sum_split f j cells, sum_split f m (drop j cells));
}

-- ---- dues written one after the other

module _ (total whole cols : ℕ) (weights cells labels basins D : List ℕ) where
  abbrev f : ℕ → ℕ
  f = row_weight cols weights

  -- the groups of the cells from a position on, and their weights
  abbrev groups_from : ℕ → List UnitEntry
  groups_from first = groups_of (drop first cells) labels basins

  abbrev weights_from : ℕ → List ℕ
  weights_from first = group_weights f (drop first cells) labels basins

  -- the dues of the groups before position `first` are written, at the places before `at`: their cells weigh `weight`.
  -- D was lent, and D' is what the slice holds
  pub record Sharing (D' : List ℕ) (at first weight together : ℕ) : Type 0 where
    pub within : first ≤ length cells
    pub left : at + length (groups_from first) ≡ length (groups_from 0)
    pub weighed : WeighedTo f cells first weight
    pub together_is : together ≡ owed total whole weight
    pub same_length : length D' ≡ length D
    pub to_do : sets D' at (dues_by total whole weight (weights_from first))
        ≡ sets D 0 (dues_by total whole 0 (weights_from 0))

  module _ (s : Shared total whole cols weights cells labels basins D) where
    pub sharing_starts : Sharing D 0 0 0 0
    sharing_starts = record {
      within = omega arith;
      left = omega arith;
      weighed = zero-add (sum f cells);
      together_is = sym (owed_none total whole);
      same_length = refl;
      to_do = refl;
    }

    module _ {D' : List ℕ} {at first weight together last : ℕ} (h : Sharing D' at first weight together)
        (g : Group cells labels basins first last) where
      abbrev count : ℕ
      count = last + 1 - first

      -- the cells of the group
      abbrev part : List ℕ
      part = take count (drop first cells)

      ends : first + count ≡ last + 1
      ends = omega (arith, g.from)

      pub weight_most : weight + sum f part ≤ most_area
      weight_most = omega (arith, weighed_part f cells first weight count h.weighed, s.weighed.small)

      pub product_fits : total * (weight + sum f part) ≤ 6553600000000000000
      product_fits = product_most s.total_most weight_most

      pub together_more : together ≤ owed total whole (weight + sum f part)
      together_more = rw h.together_is (owed_more total whole s.whole_some weight (sum f part))

      pub place_left : at < length D'
      place_left = omega (arith, h.left, h.same_length, s.room, one_more cells labels basins g)

      -- a unit has a cell, so that there are no more places than cells
      pub place_few : at < length cells
      place_few = omega (arith, h.left, one_more cells labels basins g, groups_few cells labels basins)

      to_do_at : dues_by total whole weight (weights_from first)
          ≡ (owed total whole (weight + sum f part) - together)
          ∷ dues_by total whole (weight + sum f part) (weights_from (last + 1))
      unfolding part_weights dues_by
      to_do_at =
          let same : last - first + 1 ≡ count = omega (arith, g.from) in
          rw (h.together_is, g.is, same, drop-drop count first cells, ends) refl

      pub sharing_goes_on : Sharing (set D' at (owed total whole (weight + sum f part) - together)) (at + 1)
          (last + 1) (weight + sum f part) (owed total whole (weight + sum f part))
      sharing_goes_on = record {
        within = omega (arith, g.to);
        left = omega (arith, h.left, one_more cells labels basins g);
        weighed = rw ends at (weighed_part f cells first weight count h.weighed);
        together_is = refl;
        same_length = length-set D' at _ ∙ h.same_length;
        to_do = rw (add-one at) (rw to_do_at at h.to_do);
      }

    parts_length : (ns cs : List ℕ) → length (part_weights f ns cs) ≡ length ns
    unfolding part_weights
    parts_length [] cs = refl
    parts_length (n ∷ ns) cs = ap suc (parts_length ns (drop n cs))

    pub sharing_ends : {D' : List ℕ} {at first weight together : ℕ} → Sharing D' at first weight together
        → length cells ≤ first → D' ≡ written (dues_by total whole 0 (group_weights f cells labels basins)) D
    unfolding part_weights dues_by
    sharing_ends {first = first} h l =
        rw (groups_past cells labels basins first l) at h.to_do
        ∙ written_whole (dues_by total whole 0 (group_weights f cells labels basins)) D
        (omega (
          arith,
          dues_length total whole 0 (group_weights f cells labels basins),
          parts_length (counts_of (groups_of cells labels basins)) cells,
          length-map (groups_of cells labels basins) (λ (e : UnitEntry). e.count),
          s.room,
        ))

  -- without cells no due is written
  pub no_cells : (answer : Counted) → length cells ≡ 0
      → D ≡ if_levied answer (dues_by total whole 0 (group_weights f cells labels basins)) D
  unfolding part_weights dues_by
  no_cells answer e =
      rw (groups_past cells labels basins 0 (omega (arith, e))) (go answer)
    where
      go : (x : Counted) → D ≡ if_levied x [] D
      go (Ok units) = refl
      go (Err refusal) = refl
