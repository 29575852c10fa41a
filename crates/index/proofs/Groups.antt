-- Laws of groups of cells: a cell after those of a group is of the group if it is of its unit, else it begins the next.
use mathlib.Core.Path.{◌≡◌, refl, sym, ap, ◌∙◌}
use mathlib.Core.Bool.{Bool, true, false, cond}
use mathlib.Core.List.{List, [], ◌∷◌}
use Prim.Native.Nat.{ℕ, suc, ◌+◌, ◌-◌, ◌≤◌, ◌<◌}
use native.Mathlib.Numerals.{add-one}
use native.Mathlib.Omega.{arith}
use lib.ListN.{length, get_or, drop, drop_of_length-le}
use lib.Seq.{drop-cons}
use Rattle.sheet.specs.declared.UnitName.{UnitName}
use Rattle.sheet.specs.Record.{same_unit, unit_at}
use Rattle.index.specs.Units.{UnitEntry, unit_entry}
use Rattle.index.specs.Groups.{with_cell, grouped}
use Rattle.index.specs.Steps.{groups_of, Group}
use Rattle.index.proofs.UnitNames.{same_is, same_not}

-- m cells of one unit in front of groups, as cells put there one by one
pub led : UnitName → ℕ → ℕ → List UnitEntry → List UnitEntry
led unit cell m [] = unit_entry unit cell m ∷ []
led unit cell m (e ∷ es) =
    cond (same_unit unit e.unit) (unit_entry unit cell (m + e.count) ∷ es) (unit_entry unit cell m ∷ e ∷ es)

led_one : (unit : UnitName) (cell : ℕ) (es : List UnitEntry) → with_cell unit cell es ≡ led unit cell 1 es
unfolding led with_cell
led_one unit cell [] = refl
led_one unit cell (e ∷ es) = let more : suc e.count ≡ 1 + e.count = omega arith in rw more

led_more : (unit : UnitName) (c d m : ℕ) (es : List UnitEntry) → led unit c m (led unit d 1 es) ≡ led unit c (m + 1) es
unfolding led
led_more unit c d m [] = rw (same_is unit unit refl)
led_more unit c d m (e ∷ es) = go (same_unit unit e.unit)
  where
    go : (same : Bool)
        → led unit c m (cond same (unit_entry unit d (1 + e.count) ∷ es) (unit_entry unit d 1 ∷ e ∷ es))
        ≡ cond same (unit_entry unit c (m + 1 + e.count) ∷ es) (unit_entry unit c (m + 1) ∷ e ∷ es)
    go true = let more : m + (1 + e.count) ≡ m + 1 + e.count = omega arith in rw (same_is unit unit refl, more)
    go false = rw (same_is unit unit refl)

led_other : (unit other : UnitName) (c d m : ℕ) (es : List UnitEntry) → same_unit unit other ≡ false
    → led unit c m (with_cell other d es) ≡ unit_entry unit c m ∷ with_cell other d es
unfolding led with_cell
led_other unit other c d m [] h = rw h
led_other unit other c d m (e ∷ es) h = go (same_unit other e.unit)
  where
    go : (same : Bool)
        → led unit c m (cond same (unit_entry other d (suc e.count) ∷ es) (unit_entry other d 1 ∷ e ∷ es))
        ≡ unit_entry unit c m ∷ cond same (unit_entry other d (suc e.count) ∷ es) (unit_entry other d 1 ∷ e ∷ es)
    go true = rw h
    go false = rw h

module _ (cells labels basins : List ℕ) where
  abbrev position_unit : ℕ → UnitName
  position_unit j = unit_at basins labels (get_or cells j 0)

  groups_at : (j : ℕ) → j < length cells
      → groups_of (drop j cells) labels basins
      ≡ with_cell (position_unit j) (get_or cells j 0) (groups_of (drop (j + 1) cells) labels basins)
  unfolding grouped
  groups_at j l = rw (add-one, drop-cons cells j 0)

  pub groups_past : (j : ℕ) → length cells ≤ j → groups_of (drop j cells) labels basins ≡ []
  unfolding grouped
  groups_past j l = rw (drop_of_length-le cells l)

  -- the cells at positions first to last are of one unit
  pub record Run (first last : ℕ) : Type 0 where
    pub from : first ≤ last
    pub to : last < length cells
    pub is : groups_of (drop first cells) labels basins
        ≡ led (position_unit first) (get_or cells first 0) (last - first + 1)
        (groups_of (drop (last + 1) cells) labels basins)

  pub run_starts : (first : ℕ) → first < length cells → Run first first
  run_starts first l =
      let one : first - first + 1 ≡ 1 = omega arith in
      record {
        from = omega arith;
        to = l;
        is = groups_at first l ∙ led_one _ _ _ ∙ (rw one refl);
      }

  pub run_goes_on : {first last : ℕ} → Run first last → last + 1 < length cells
      → position_unit (last + 1) ≡ position_unit first → Run first (last + 1)
  run_goes_on {first} {last} r l same =
      let longer : last - first + 1 + 1 ≡ last + 1 - first + 1 = omega (arith, r.from) in
      record {
        from = omega (arith, r.from);
        to = l;
        is = r.is ∙ (rw (groups_at (last + 1) l, same, led_one, led_more, longer) refl);
      }

  pub run_ends : {first last : ℕ} → Run first last → length cells ≤ last + 1 → Group cells labels basins first last
  unfolding led
  run_ends {first} {last} r l =
      record { from = r.from; to = r.to; is = r.is ∙ (rw (groups_past (last + 1) l)) }

  pub next_begins : {first last : ℕ} → Run first last → last + 1 < length cells
      → (position_unit (last + 1) ≡ position_unit first → ⊥) → Group cells labels basins first last
  next_begins {first} {last} r l other = record {
    from = r.from;
    to = r.to;
    is = r.is ∙ (rw (groups_at (last + 1) l)
        (led_other (position_unit first) (position_unit (last + 1)) (get_or cells first 0) (get_or cells (last + 1) 0)
        (last - first + 1) (groups_of (drop (last + 1 + 1) cells) labels basins)
        (same_not (position_unit first) (position_unit (last + 1)) (λ e. other (sym e)))));
  }

  pub one_more : {first last : ℕ} → Group cells labels basins first last
      → length (groups_of (drop first cells) labels basins) ≡ length (groups_of (drop (last + 1) cells) labels basins) + 1
  one_more {first} {last} g =
      ap length g.is ∙ sym (add-one (length (groups_of (drop (last + 1) cells) labels basins)))
