-- What lines do to the weights: the statements of specs/Weights, proved; and the weights of a state that is reached.
use mathlib.Core.Path.{◌≡◌, refl, sym, ap, ◌∙◌, subst}
use mathlib.Core.Bool.{Bool, true, false, cond, true≢false}
use mathlib.Core.List.{List, ◌++◌}
use Prim.Native.Nat.{ℕ, zero, suc, ◌+◌, ◌<◌}
use native.Mathlib.Decide.{ℕ_discrete}
use native.Mathlib.Omega.{arith}
use lib.Dec.{ltb}
use lib.ListN.{length, drop, replicate, set, get_or, get_or-replicate, get_or-append, length-replicate, length-set}
use lib.Seq.{get_or-set_same, get_or-set_other}
use Rattle.std.proofs.Common.{Some, None}
use Rattle.names.specs.Names.{NamesLine}
use Rattle.lines.specs.declared.columns.Columns.{Columns}
use Rattle.lines.specs.declared.values.Values.{Values}
use Rattle.lines.specs.Values.{first_value, ValuesLine}
use Rattle.names.specs.Columns.{weight_columns, cell_columns}
use Rattle.names.specs.Names.{names_line, size_names_line}
use Rattle.lines.specs.Values.{values_line}
use Rattle.sheet.specs.Refusal.{weight_fits}
use Rattle.faults.specs.declared.Sizes.{Sizes}
use Rattle.faults.specs.Faults.{sizes_in, cell_in, sizes_fault, weight_fault, cell_fault}
use Rattle.faults.proofs.FaultLaws.{weight_good}
use Rattle.intake.specs.declared.Stage.{Stage}
use Rattle.intake.specs.declared.Stage.TheVariants.{WaitingForSizeNames, WaitingForSizes}
use Rattle.intake.specs.declared.Stage.TheVariants.{WaitingForWeightOrCellNames, WaitingForWeight}
use Rattle.intake.specs.declared.Stage.TheVariants.{WaitingForCellNames, TakingCells, Ended}
use Rattle.intake.specs.declared.Intake.{Intake}
use Rattle.intake.specs.Intake.{LentSheet, After, keep, accept, unless, sizes_written, weight_written}
use Rattle.intake.specs.Intake.{on_size_names, on_sizes, on_cell_names, on_weight_or_cell_names, after_weights, on_weight}
use Rattle.intake.specs.Intake.{cell_written, on_cells, state_fault, line_in, line_after, end_in, end_taken}
use Rattle.intake.specs.Weights.{OwnWeight, OnesSet, writes_weights, WeightsAfter}
use Rattle.intake.proofs.StateLaws.{waits_for_row}
use Rattle.intake.proofs.LineLaws.{unless_none, unless_some, accepted_not_refused, sizes_accepted}
use Rattle.intake.proofs.LineLaws.{sizes_none, weight_accepted, weight_fits_lem, line_good, line_none}
use Rattle.intake.proofs.Laws.{fault_of, Reached, at_start, by_line, by_end}
use Rattle.intake.proofs.Laws.{Holds, weight_or_names, weight_of_row, names, cells, ended}
use Rattle.sheet.specs.Answer.{Accepted}

-- ---- what is done to the weights

module _ (z : Sizes) (row : ℕ) (line : List ℕ) (lent : LentSheet) where
  abbrev after : After
  after = line_after (record { stage = WaitingForWeight z row }) line lent

  written : (v : Values) → values_line weight_columns line ≡ Some v → weight_fits (first_value v) ≡ true
      → row < length lent.weights → OwnWeight row line lent (weight_written row (first_value v) lent)
  unfolding weight_written
  written v is fits l = record {
    values = v;
    line_is = is;
    fits = fits;
    own = get_or-set_same lent.weights row (first_value v) 0 l;
    others = λ other n. get_or-set_other lent.weights row other (first_value v) 0 n;
    as_long = simp length-set;
    dirs_kept = refl;
  }

  own_row : after.taken.outcome ≡ Accepted → OwnWeight row line lent after.lent
  unfolding line_in
  own_row e =
      let i : Intake = record { stage = WaitingForWeight z row } in
      let good = line_none i line lent e in
      read good (values_line weight_columns line) refl (line_good i line lent good)
    where
      within : fault_of (WaitingForWeight z row) lent ≡ 0 → row < length lent.weights
      within good = let w = waits_for_row z row _ _ refl good in omega (arith, w.0, w.1)

      read : fault_of (WaitingForWeight z row) lent ≡ 0 → (v : ValuesLine) → values_line weight_columns line ≡ v
          → after ≡ on_weight z row v lent → OwnWeight row line lent after.lent
      read good None is a = absurd (accepted_not_refused (sym e ∙ ap (λ (b : After). b.taken.outcome) a))
      read good (Some v) is a =
          let fits = weight_fits_lem z row v lent (sym (ap (λ (b : After). b.taken.outcome) a) ∙ e) in
          subst (λ (b : After). OwnWeight row line lent b.lent) (sym (a ∙ weight_accepted z row v lent fits))
          (written v is fits (within good))

module _ (c : Columns) (line : List ℕ) (lent : LentSheet) where
  abbrev after_sizes : After
  after_sizes = line_after (record { stage = WaitingForSizes c }) line lent

  sizes_one : after_sizes.taken.outcome ≡ Accepted → OnesSet lent after_sizes
  unfolding line_in sizes_written state_fault
  sizes_one e = read (values_line c line) (line_good _ line lent refl)
    where
      read : (v : ValuesLine) → after_sizes ≡ on_sizes c v lent → OnesSet lent after_sizes
      read None a = absurd (accepted_not_refused (sym e ∙ ap (λ (b : After). b.taken.outcome) a))
      read (Some v) a =
          let none = sizes_none c v lent refl (sym (ap (λ (b : After). b.taken.outcome) a) ∙ e) in
          subst (λ (b : After). OnesSet lent b) (sym (a ∙ sizes_accepted c v lent refl none))
          (record { sizes = sizes_in c v; stage_is = refl; weights_are = refl })

-- a test that is not passed writes nothing
unless_kept : (fault : ℕ) (stage : Stage) (lent : LentSheet) (next : After) → next.lent.weights ≡ lent.weights
    → (unless fault stage lent next).lent.weights ≡ lent.weights
unless_kept zero stage lent next e = ap (λ (a : After). a.lent.weights) (unless_none stage lent next refl) ∙ e
unless_kept (suc n) stage lent next e =
    ap (λ (a : After). a.lent.weights) (unless_some {fault = suc n} stage lent next (λ z. omega arith))

cells_kept : (z : Sizes) (c : Columns) (v : ValuesLine) (lent : LentSheet)
    → (on_cells z c v lent).lent.weights ≡ lent.weights
unfolding on_cells cell_written
cells_kept z c None lent = refl
cells_kept z c (Some v) lent =
    unless_kept (cell_fault z (cell_in c v) lent.dirs) (TakingCells z c) lent
    (accept (TakingCells z c) (cell_written z (cell_in c v) lent)) refl

line_in_kept : (stage : Stage) (line : List ℕ) (lent : LentSheet) → writes_weights stage ≡ false
    → (line_in stage line lent).lent.weights ≡ lent.weights
unfolding line_in
line_in_kept WaitingForSizeNames line lent e = refl
line_in_kept (WaitingForSizes c) line lent e = absurd (true≢false e)
line_in_kept (WaitingForWeightOrCellNames z) line lent e = refl
line_in_kept (WaitingForWeight z row) line lent e = absurd (true≢false e)
line_in_kept (WaitingForCellNames z) line lent e = refl
line_in_kept (TakingCells z c) line lent e = cells_kept z c (values_line c line) lent
line_in_kept (Ended z) line lent e = refl

pub weights_after : WeightsAfter
unfolding line_after
weights_after = record {
  sizes_one = sizes_one;
  own_row = own_row;
  no_other = λ i line lent e. unless_kept (fault_of i.stage lent) i.stage lent (line_in i.stage line lent)
      (line_in_kept i.stage line lent e);
}

-- ---- the weights of a state that is reached: those of the rows of its sheet are from 1 to 1000

-- the rows of the sheet that a stage holds
abbrev held_rows : Stage → ℕ
held_rows WaitingForSizeNames = 0
held_rows (WaitingForSizes c) = 0
held_rows (WaitingForWeightOrCellNames z) = z.rows
held_rows (WaitingForWeight z row) = z.rows
held_rows (WaitingForCellNames z) = z.rows
held_rows (TakingCells z c) = z.rows
held_rows (Ended z) = z.rows

abbrev Weighed : ℕ → List ℕ → Type 0
Weighed rows weights = (row : ℕ) → row < rows → weight_fits (get_or weights row 0) ≡ true

abbrev Good : After → Type 0
Good a = Weighed (held_rows a.taken.intake.stage) a.lent.weights

unless_good : (fault : ℕ) (stage : Stage) (lent : LentSheet) (next : After)
    → Weighed (held_rows stage) lent.weights → (fault ≡ 0 → Good next) → Good (unless fault stage lent next)
unless_good zero stage lent next h g = subst Good (sym (unless_none stage lent next refl)) (g refl)
unless_good (suc n) stage lent next h g =
    subst Good (sym (unless_some {fault = suc n} stage lent next (λ e. omega arith))) h

-- all weights 1
ones : (rows : ℕ) (weights : List ℕ) → Weighed rows (replicate rows 1 ++ drop rows weights)
unfolding weight_fits
ones rows weights row l =
    let first : get_or (replicate rows 1 ++ drop rows weights) row 0 ≡ 1 = get_or-append (replicate rows 1)
    (drop rows weights) 0 row (omega (arith, length-replicate {A = ℕ} rows 1)) ∙ get_or-replicate rows row 1 0 l in
    ap weight_fits first

-- one of them set
one_set : (rows row weight : ℕ) (weights : List ℕ) → row < length weights → weight_fits weight ≡ true
    → Weighed rows weights → Weighed rows (set weights row weight)
one_set rows row weight weights within fits h other l =
    elim (ℕ_discrete other row) [
      | yes e ↦ rw e (ap weight_fits (get_or-set_same weights row weight 0 within) ∙ fits)
      | no d ↦ ap weight_fits (get_or-set_other weights row other weight 0 d) ∙ h other l
    ]

sizes_good : (c : Columns) (v : ValuesLine) (lent : LentSheet) → Good (on_sizes c v lent)
unfolding on_sizes sizes_written
sizes_good c None lent = λ row l. absurd (omega arith)
sizes_good c (Some v) lent =
    let z : Sizes = sizes_in c v in
    unless_good (sizes_fault z (length lent.dirs) (length lent.weights)) (WaitingForSizes c) lent
    (accept (WaitingForWeightOrCellNames z) (sizes_written z lent)) (λ row l. absurd (omega arith))
    (λ e. ones z.rows lent.weights)

cell_names_good : (stage : Stage) (z : Sizes) (n : NamesLine) (lent : LentSheet) → held_rows stage ≡ z.rows
    → Weighed z.rows lent.weights → Good (keep lent (on_cell_names stage z n))
unfolding on_cell_names
cell_names_good stage z (Some c) lent is h = h
cell_names_good stage z None lent is h = rw is h

weight_line_good : (z : Sizes) (row : ℕ) (v : ValuesLine) (lent : LentSheet) → row < length lent.weights
    → Weighed z.rows lent.weights → Good (on_weight z row v lent)
unfolding on_weight weight_written
weight_line_good z row None lent l h = h
weight_line_good z row (Some v) lent l h =
    unless_good (weight_fault (first_value v)) (WaitingForWeight z row) lent
    (accept (after_weights z (row + 1)) (weight_written row (first_value v) lent)) h
    (λ e. rw (rows (ltb (row + 1) z.rows))
    (one_set z.rows row (first_value v) lent.weights l (weight_good (first_value v) e) h))
  where
    rows : (t : Bool) → held_rows (cond t (WaitingForWeight z (row + 1)) (WaitingForCellNames z)) ≡ z.rows
    rows true = refl
    rows false = refl

cells_good : (z : Sizes) (c : Columns) (v : ValuesLine) (lent : LentSheet) → Weighed z.rows lent.weights
    → Good (on_cells z c v lent)
unfolding on_cells cell_written
cells_good z c None lent h = h
cells_good z c (Some v) lent h =
    unless_good (cell_fault z (cell_in c v) lent.dirs) (TakingCells z c) lent
    (accept (TakingCells z c) (cell_written z (cell_in c v) lent)) h (λ e. h)

line_in_good : (stage : Stage) (line : List ℕ) (lent : LentSheet) → Weighed (held_rows stage) lent.weights
    → fault_of stage lent ≡ 0 → Good (line_in stage line lent)
unfolding line_in
line_in_good WaitingForSizeNames line lent h good = go (size_names_line line)
  where
    go : (n : NamesLine) → Good (keep lent (on_size_names n))
    go (Some c) row l = absurd (omega arith)
    go None row l = absurd (omega arith)
line_in_good (WaitingForSizes c) line lent h good = sizes_good c (values_line c line) lent
line_in_good (WaitingForWeightOrCellNames z) line lent h good = go (names_line weight_columns line)
  where
    go : (n : NamesLine) → Good (keep lent (on_weight_or_cell_names z n (names_line cell_columns line)))
    go (Some c) = h
    go None = cell_names_good (WaitingForWeightOrCellNames z) z (names_line cell_columns line) lent refl h
line_in_good (WaitingForWeight z row) line lent h good =
    let w = waits_for_row z row (length lent.dirs) (length lent.weights) refl good in
    weight_line_good z row (values_line weight_columns line) lent (omega (arith, w.0, w.1)) h
line_in_good (WaitingForCellNames z) line lent h good =
    cell_names_good (WaitingForCellNames z) z (names_line cell_columns line) lent refl h
line_in_good (TakingCells z c) line lent h good = cells_good z c (values_line c line) lent h
line_in_good (Ended z) line lent h good = h

end_rows : (s : Stage) → held_rows (end_in s).intake.stage ≡ held_rows s
unfolding end_in
end_rows WaitingForSizeNames = refl
end_rows (WaitingForSizes c) = refl
end_rows (WaitingForWeightOrCellNames z) = refl
end_rows (WaitingForWeight z row) = refl
end_rows (WaitingForCellNames z) = refl
end_rows (TakingCells z c) = refl
end_rows (Ended z) = refl

reached_good : {i : Intake} {lent : LentSheet} → Reached i lent → Weighed (held_rows i.stage) lent.weights
unfolding line_after end_taken
reached_good (at_start lent) = λ row l. absurd (omega arith)
reached_good (by_line {i} {lent} r line e) =
    unless_good (fault_of i.stage lent) i.stage lent (line_in i.stage line lent) (reached_good r)
    (line_in_good i.stage line lent (reached_good r))
reached_good (by_end {i} {lent} r e) = rw (end_rows i.stage) (reached_good r)

held_rows_lem : {s : Stage} {z : Sizes} → Holds s z → held_rows s ≡ z.rows
held_rows_lem weight_or_names = refl
held_rows_lem weight_of_row = refl
held_rows_lem names = refl
held_rows_lem cells = refl
held_rows_lem ended = refl

pub reached_weights : {i : Intake} {lent : LentSheet} {z : Sizes} → Reached i lent → Holds i.stage z
    → (row : ℕ) → row < z.rows → weight_fits (get_or lent.weights row 0) ≡ true
reached_weights r h row l = reached_good r row (rw (held_rows_lem h) l)
