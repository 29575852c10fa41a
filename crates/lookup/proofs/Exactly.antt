-- A lookup hands back exactly the basin's labels that begin with the leading digits.
use mathlib.Core.Path.{◌≡◌, refl, sym, ap, ◌∙◌}
use mathlib.Core.Bool.{Bool, true, false, cond, true≢false}
use mathlib.Core.List.{List}
use Prim.Native.Nat.{ℕ, ◌+◌, ◌≤◌, ◌<◌}
use native.Mathlib.Omega.{arith}
use mathlib.Core.Logic.{◌↔◌}
use lib.Dec.{eqb, ltb, leb}
use lib.ListN.{length}
use borrow.Author.Tests.{lt-ltb, le-ltb, ltb-true, ltb-false, eqb-true, eq-eqb, leb-true}
use Rattle.sheet.specs.declared.Label.{Label}
use Rattle.sheet.specs.declared.UnitName.{UnitName}
use Rattle.sheet.specs.Record.{digits_of, basin_and_digits, units_in}
use Rattle.sheet.specs.Flow.{every, is_label}
use Rattle.sheet.proofs.Units.{units_most}
use Rattle.sheet.proofs.Within.{both_true}
use Rattle.std.specs.Prelude.{Ok}
use Rattle.sheet.specs.Answer.{Refused}
use Rattle.lookup.specs.Answer.{LookupAnswer, PartFrom}
use Rattle.lookup.specs.Lookup.{
  greatest_depth,
  begins,
  stands_before,
  begins_with,
  is_rising,
  counted,
  start_of,
  length_of,
  part_found,
  lookup_answer,
  lookup_values,
}
use Rattle.lookup.specs.Exactly.{entry_at, BeginsSo, Exactly}
use Rattle.lookup.proofs.Begins.{begins_agrees, begins_not_before, begins_between, past_after}
use Rattle.lookup.proofs.Counted.{either, counted_either, counted_most, rising_counted}
use Rattle.lookup.proofs.Rising.{stands_transitive}

-- ---- a unit that begins so is of that basin, and its label begins with the leading digits

begins_so : (leading m : UnitName) → (begins_with leading m ≡ true) ↔ BeginsSo leading m
unfolding begins_with basin_and_digits begins
begins_so leading m = (
  λ e.
      let rest = begins (digits_of leading.label) (digits_of m.label) in
      let b = both_true (eqb leading.basin m.basin) rest e in
      record {
        basin = sym (eqb-true leading.basin m.basin b.0);
        digits = (begins_agrees (digits_of leading.label) (digits_of m.label)).0 b.1;
      },
  λ h.
      rw (
        eq-eqb leading.basin m.basin (sym h.basin),
        (begins_agrees (digits_of leading.label) (digits_of m.label)).1 h.digits,
      ),
)

-- ---- the two tests: an entry stands before the leading digits in their basin; it does so or begins with them

abbrev pub ahead : UnitName → UnitName → Bool
ahead leading m = stands_before m leading

abbrev pub not_past : UnitName → UnitName → Bool
not_past leading m = either (ahead leading) (begins_with leading) m

pub begins_not_ahead : (leading m : UnitName) → begins_with leading m ≡ true → ahead leading m ≡ false
unfolding begins_with stands_before
begins_not_ahead leading m e = begins_not_before (basin_and_digits leading) (basin_and_digits m) e

ahead_closed : (leading m k : UnitName) → stands_before m k ≡ true → ahead leading k ≡ true → ahead leading m ≡ true
ahead_closed leading m k h e = stands_transitive m k leading h e

past_stands : (leading m : UnitName) → ahead leading m ≡ false → begins_with leading m ≡ false
    → stands_before leading m ≡ true
unfolding begins_with stands_before
past_stands leading m e f = past_after (basin_and_digits leading) (basin_and_digits m) e f

between : (leading m k : UnitName) → stands_before leading m ≡ true → stands_before m k ≡ true
    → begins_with leading k ≡ true → begins_with leading m ≡ true
unfolding begins_with stands_before
between leading m k e f b = begins_between (basin_and_digits leading) (basin_and_digits m) (basin_and_digits k) e f b

not_past_closed : (leading m k : UnitName) → stands_before m k ≡ true → not_past leading k ≡ true
    → not_past leading m ≡ true
not_past_closed leading m k h e =
    go (ahead leading m) refl (begins_with leading m) refl (ahead leading k) refl (begins_with leading k) refl e
  where
    go : (s : Bool) → ahead leading m ≡ s → (t : Bool) → begins_with leading m ≡ t → (u : Bool) → ahead leading k ≡ u
        → (v : Bool) → begins_with leading k ≡ v → cond u true v ≡ true → cond s true t ≡ true
    go true p t q u r v s e = refl
    go false p true q u r v s e = refl
    go false p false q true r v s e = absurd (true≢false (sym (ahead_closed leading m k h r) ∙ p))
    go false p false q false r true s e =
        absurd (true≢false (sym (between leading m k (past_stands leading m p q) h s) ∙ q))
    go false p false q false r false s e = absurd (true≢false (sym e))

pub not_past_counted : (leading : UnitName) (units : List UnitName)
    → counted (not_past leading) units ≡ start_of leading units + length_of leading units
unfolding start_of length_of
not_past_counted leading units =
    counted_either (ahead leading) (begins_with leading) units (begins_not_ahead leading)

-- ---- a rising list

module _ (leading : UnitName) (units : List UnitName) (rises : is_rising units ≡ true) where
  pub ahead_at : (i : ℕ) → i < length units → ahead leading (entry_at units i) ≡ ltb i (start_of leading units)
  unfolding start_of
  ahead_at i l = rising_counted (ahead leading) (ahead_closed leading) units rises i l

  pub not_past_at : (i : ℕ) → i < length units
      → not_past leading (entry_at units i) ≡ ltb i (start_of leading units + length_of leading units)
  not_past_at i l =
      rising_counted (not_past leading) (not_past_closed leading) units rises i l
      ∙ rw (not_past_counted leading units)

  part_within : start_of leading units + length_of leading units ≤ length units
  part_within = omega (arith, counted_most (not_past leading) units, not_past_counted leading units)

  part_begins : (i : ℕ) → i < length units → start_of leading units ≤ i
      → i < start_of leading units + length_of leading units → begins_with leading (entry_at units i) ≡ true
  part_begins i l low high =
      let a = ahead_at i l ∙ le-ltb i (start_of leading units) low in
      let p = not_past_at i l ∙ lt-ltb i (start_of leading units + length_of leading units) high in
      rw a at p

  begins_part : (i : ℕ) → i < length units → begins_with leading (entry_at units i) ≡ true
      → (start_of leading units ≤ i) × (i < start_of leading units + length_of leading units)
  begins_part i l b =
      let a = begins_not_ahead leading (entry_at units i) b in
      let n : not_past leading (entry_at units i) ≡ true = rw (a, b) in
      let p = sym (not_past_at i l) ∙ n in (
        ltb-false i (start_of leading units) (sym (ahead_at i l) ∙ a),
        ltb-true i (start_of leading units + length_of leading units) p,
      )

  past_at : (i : ℕ) → start_of leading units + length_of leading units ≤ i → i < length units
      → stands_before leading (entry_at units i) ≡ true
  past_at i low l =
      let a = ahead_at i l ∙ le-ltb i (start_of leading units) (omega arith) in
      let p = not_past_at i l ∙ le-ltb i (start_of leading units + length_of leading units) low in
      past_stands leading (entry_at units i) a (rw a at p)

  pub rising_exactly : Exactly leading units (start_of leading units) (length_of leading units)
  unfolding stands_before
  rising_exactly = record {
    within = part_within;
    exactly = λ i l. let b = begins_so leading (entry_at units i) in
        (λ h. b.0 (part_begins i l h.0 h.1), λ h. begins_part i l (b.1 h));
    ahead = λ i l. ahead_at i (omega (arith, part_within)) ∙ lt-ltb i (start_of leading units) l;
    past = past_at;
  }

-- ---- the answer of a lookup

-- what is known where a part is handed back
pub record FoundBy (leading : UnitName) (labels : List Label) (basins : List ℕ) (start count : ℕ) : Type 0 where
  pub basins_enough : length labels ≤ length basins
  pub leading_label : is_label greatest_depth leading.label ≡ true
  pub entries : every (is_label greatest_depth) labels ≡ true
  pub rises : is_rising (units_in basins labels) ≡ true
  pub start_is : start_of leading (units_in basins labels) ≡ start
  pub count_is : length_of leading (units_in basins labels) ≡ count

pub found_by : (leading : UnitName) (labels : List Label) (basins : List ℕ) (start count : ℕ)
    → lookup_answer leading labels basins ≡ PartFrom start count → FoundBy leading labels basins start count
unfolding lookup_answer
found_by leading labels basins start count e =
    go (leb (length labels) (length basins)) refl (is_label greatest_depth leading.label) refl
    (every (is_label greatest_depth) labels) refl (is_rising (units_in basins labels)) refl e
  where
    go : (b : Bool) → leb (length labels) (length basins) ≡ b → (f : Bool)
        → is_label greatest_depth leading.label ≡ f → (g : Bool) → every (is_label greatest_depth) labels ≡ g
        → (h : Bool) → is_rising (units_in basins labels) ≡ h
        → cond b (cond f (cond g (cond h (Ok (part_found leading (units_in basins labels))) (Refused 16 0)) (Refused 11 0))
        (Refused 11 0)) (Refused 3 0) ≡ PartFrom start count → FoundBy leading labels basins start count
    go true b true f true g true h e =
        record {
          basins_enough = leb-true (length labels) (length basins) b;
          leading_label = f;
          entries = g;
          rises = h;
          start_is = ap (λ (answer : LookupAnswer). (lookup_values answer).start) e;
          count_is = ap (λ (answer : LookupAnswer). (lookup_values answer).length) e;
        }
    go true b true f true g false h e = let z : ◌≡◌ {A = ℕ} 0 1 = cc in absurd (omega arith)
    go true b true f false g h k e = let z : ◌≡◌ {A = ℕ} 0 1 = cc in absurd (omega arith)
    go true b false f g h k j e = let z : ◌≡◌ {A = ℕ} 0 1 = cc in absurd (omega arith)
    go false b f g h k j i e = let z : ◌≡◌ {A = ℕ} 0 1 = cc in absurd (omega arith)

pub found_exactly : (leading : UnitName) (labels : List Label) (basins : List ℕ) (start count : ℕ)
    → lookup_answer leading labels basins ≡ PartFrom start count → Exactly leading (units_in basins labels) start count
found_exactly leading labels basins start count e =
    let f = found_by leading labels basins start count e in
    rw (← f.start_is, ← f.count_is) (rising_exactly leading (units_in basins labels) f.rises)

-- the part lies among the labels
pub found_within : (leading : UnitName) (labels : List Label) (basins : List ℕ) (start count : ℕ)
    → lookup_answer leading labels basins ≡ PartFrom start count → start + count ≤ length labels
found_within leading labels basins start count e =
    omega (arith, (found_exactly leading labels basins start count e).within, units_most basins labels)
