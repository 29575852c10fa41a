-- The numbers that the intake and labelling can refuse a file with, and the places that labelling gives.
use mathlib.Core.Path.{◌≡◌, refl, ap}
use mathlib.Core.Bool.{Bool, true, false, cond, false≢true}
use mathlib.Core.List.{List, [], ◌∷◌}
use Prim.Native.Nat.{ℕ, ◌+◌, ◌<◌, ◌≤◌}
use native.Mathlib.Omega.{arith}
use borrow.Author.Tests.{eqb-true, le-leb}
use lib.Dec.{eqb, ltb}
use lib.ListN.{length}
use Rattle.sheet.specs.Sheet.{Grid, Sheet, cells, inside, first}
use Rattle.sheet.specs.Refusal.{Lent, bad_code, undrained, refused_at}
use Rattle.sheet.specs.Refusal.{refused_if_none, sizes_fit, depth_fits, least_and_split_fit, slices_fit, weights_fit, outcome_on}
use Rattle.sheet.specs.Refusal.{sheet_fault, outcome_from17, outcome_from3, outcome}
use Rattle.sheet.proofs.Within.{within_yes}
use Rattle.sheet.proofs.First.{at_first}
use Rattle.sheet.proofs.Cells.{cells_most}
use Rattle.sheet.proofs.Weights.{all_fit}
use Rattle.lines.specs.declared.columns.Columns.{Columns}
use Rattle.lines.specs.declared.values.Values.{Values}
use Rattle.names.specs.Columns.{weight_columns, cell_columns}
use Rattle.names.specs.Names.{names_line, size_names_line}
use Rattle.lines.specs.Values.{first_value, values_line}
use Rattle.faults.specs.declared.Sizes.{Sizes}
use Rattle.faults.specs.declared.Cell.{Cell}
use Rattle.faults.specs.Faults.{Test, first_failing, sizes_in, cell_in, sizes_tests, sizes_fault, row_tests, row_fault}
use Rattle.faults.specs.Faults.{weight_tests, weight_fault, cell_tests, cell_fault}
use Rattle.faults.proofs.FaultLaws.{Fits}
use Rattle.intake.specs.declared.Stage.{Stage}
use Rattle.intake.specs.declared.Stage.TheVariants.{WaitingForSizeNames, WaitingForSizes}
use Rattle.intake.specs.declared.Stage.TheVariants.{WaitingForWeightOrCellNames, WaitingForWeight}
use Rattle.intake.specs.declared.Stage.TheVariants.{WaitingForCellNames, TakingCells, Ended}
use Rattle.intake.specs.declared.Intake.{Intake}
use Rattle.intake.specs.declared.Taken.{Taken}
use Rattle.intake.specs.Intake.{LentSheet, After, accept, refuse, unless, sizes_written, weight_written, cell_written}
use Rattle.intake.specs.Intake.{on_size_names, on_sizes, on_cell_names, on_weight_or_cell_names, after_weights, on_weight}
use Rattle.intake.specs.Intake.{on_cells, state_fault, line_in, line_after, end_in, end_taken}
use Rattle.intake.proofs.Weights.{reached_weights}
use Rattle.intake.proofs.Laws.{Reached, at_start, by_line, by_end, Holds, ended, reached_sizes}
use Rattle.labelling.specs.FromIntake.{sheet_of}
use Rattle.intake.specs.Takes.{Takes, takes_none, takes_line}
use Rattle.report.specs.Conditions.{one_of, line_numbers, end_numbers, sheet_numbers}
use Rattle.report.specs.Conditions.{FileEnded}
use Rattle.sheet.specs.Answer.{Found, Outcome, Accepted, Refused}
use Rattle.std.specs.Prelude.{Err, None, Option, Some}

-- ---- numbers of a list

-- what holds of all of them
abbrev pub AllOf : (ℕ → Type 0) → List ℕ → Type 0
AllOf P [] = Unit
AllOf P (n ∷ numbers) = P n × AllOf P numbers

pub one_of_lem : (P : ℕ → Type 0) (numbers : List ℕ) → AllOf P numbers → (number : ℕ) → one_of numbers number ≡ true
    → P number
one_of_lem P [] all number e = absurd (false≢true e)
one_of_lem P (n ∷ numbers) all number e = go (eqb number n) refl e (λ later. one_of_lem P numbers all.1 number later)
  where
    go : (t : Bool) → eqb number n ≡ t → cond t true (one_of numbers number) ≡ true
        → (one_of numbers number ≡ true → P number) → P number
    go true h e others = rw (eqb-true number n h) all.0
    go false h e others = others e

-- ---- a line's

-- 0, or one of a line's numbers
abbrev Fault : ℕ → Type 0
Fault fault = one_of (0 ∷ line_numbers) fault ≡ true

-- tests with such numbers
abbrev Numbered : List Test → Type 0
Numbered [] = Unit
Numbered (t ∷ ts) = Fault t.number × Numbered ts

tests_fault : (ts : List Test) → Numbered ts → Fault (first_failing ts)
unfolding first_failing
tests_fault [] n = refl
tests_fault (t ∷ ts) n = go t.passed (tests_fault ts n.1)
  where
    go : (b : Bool) → Fault (first_failing ts) → Fault (cond b (first_failing ts) t.number)
    go true later = later
    go false later = n.0

sizes_fault_lem : (z : Sizes) (dirs weights : ℕ) → Fault (sizes_fault z dirs weights)
unfolding sizes_fault
sizes_fault_lem z dirs weights = tests_fault (sizes_tests z dirs weights) (refl, (refl, (refl, (refl, tt))))

row_fault_lem : (z : Sizes) (row dirs weights : ℕ) → Fault (row_fault z row dirs weights)
unfolding row_fault
row_fault_lem z row dirs weights = tests_fault (row_tests z row dirs weights) (refl, (refl, (refl, (refl, (refl, tt)))))

weight_fault_lem : (weight : ℕ) → Fault (weight_fault weight)
unfolding weight_fault
weight_fault_lem weight = tests_fault (weight_tests weight) (refl, tt)

cell_fault_lem : (z : Sizes) (x : Cell) (dirs : List ℕ) → Fault (cell_fault z x dirs)
unfolding cell_fault
cell_fault_lem z x dirs = tests_fault (cell_tests z x dirs) (refl, (refl, (refl, tt)))

state_fault_lem : (s : Stage) (dirs weights : ℕ) → Fault (state_fault s dirs weights)
unfolding state_fault
state_fault_lem WaitingForSizeNames dirs weights = refl
state_fault_lem (WaitingForSizes c) dirs weights = refl
state_fault_lem (WaitingForWeightOrCellNames z) dirs weights = sizes_fault_lem z dirs weights
state_fault_lem (WaitingForWeight z row) dirs weights = row_fault_lem z row dirs weights
state_fault_lem (WaitingForCellNames z) dirs weights = sizes_fault_lem z dirs weights
state_fault_lem (TakingCells z c) dirs weights = sizes_fault_lem z dirs weights
state_fault_lem (Ended z) dirs weights = refl

-- a stage before the end
abbrev pub NotEnded : Stage → Type 0
NotEnded WaitingForSizeNames = Unit
NotEnded (WaitingForSizes c) = Unit
NotEnded (WaitingForWeightOrCellNames z) = Unit
NotEnded (WaitingForWeight z row) = Unit
NotEnded (WaitingForCellNames z) = Unit
NotEnded (TakingCells z c) = Unit
NotEnded (Ended z) = ⊥

-- an accepted line does not end the intake, and a refused one gets one of its numbers
abbrev Going : Outcome → Stage → Type 0
Going Accepted s = NotEnded s
Going (Err refusal) s = one_of line_numbers refusal.number ≡ true

abbrev Fine : Taken → Type 0
Fine t = Going t.outcome t.intake.stage

unless_fine : (fault : ℕ) (s : Stage) (T : LentSheet) (next : After) → Fault fault → Fine next.taken
    → Fine (unless fault s T next).taken
unfolding unless
unless_fine fault s T next h g = go (eqb fault 0) h
  where
    go : (b : Bool) → cond b true (one_of line_numbers fault) ≡ true → Fine (cond b next (refuse s T fault)).taken
    go true e = g
    go false e = e

on_size_names_lem : (n : Option Columns) → Fine (on_size_names n)
unfolding on_size_names
on_size_names_lem (Some c) = tt
on_size_names_lem None = refl

on_cell_names_lem : (s : Stage) (z : Sizes) (n : Option Columns) → Fine (on_cell_names s z n)
unfolding on_cell_names
on_cell_names_lem s z (Some c) = tt
on_cell_names_lem s z None = refl

on_weight_or_cell_names_lem : (z : Sizes) (n cell_names_lem : Option Columns) → Fine (on_weight_or_cell_names z n cell_names_lem)
unfolding on_weight_or_cell_names
on_weight_or_cell_names_lem z (Some c) cell_names_lem = tt
on_weight_or_cell_names_lem z None cell_names_lem = on_cell_names_lem (WaitingForWeightOrCellNames z) z cell_names_lem

on_sizes_lem : (c : Columns) (v : Option Values) (T : LentSheet) → Fine (on_sizes c v T).taken
unfolding on_sizes
on_sizes_lem c (Some v) T =
    let z : Sizes = sizes_in c v in
    unless_fine (sizes_fault z (length T.dirs) (length T.weights)) (WaitingForSizes c) T
    (accept (WaitingForWeightOrCellNames z) (sizes_written z T)) (sizes_fault_lem z _ _) tt
on_sizes_lem c None T = refl

after_weights_lem : (z : Sizes) (count : ℕ) → NotEnded (after_weights z count)
unfolding after_weights
after_weights_lem z count = go (ltb count z.rows)
  where
    go : (b : Bool) → NotEnded (cond b (WaitingForWeight z count) (WaitingForCellNames z))
    go true = tt
    go false = tt

on_weight_lem : (z : Sizes) (row : ℕ) (v : Option Values) (T : LentSheet) → Fine (on_weight z row v T).taken
unfolding on_weight
on_weight_lem z row (Some v) T =
    unless_fine (weight_fault (first_value v)) (WaitingForWeight z row) T
    (accept (after_weights z (row + 1)) (weight_written row (first_value v) T)) (weight_fault_lem (first_value v))
    (after_weights_lem z (row + 1))
on_weight_lem z row None T = refl

on_cells_lem : (z : Sizes) (c : Columns) (v : Option Values) (T : LentSheet) → Fine (on_cells z c v T).taken
unfolding on_cells
on_cells_lem z c (Some v) T =
    let x : Cell = cell_in c v in
    unless_fine (cell_fault z x T.dirs) (TakingCells z c) T (accept (TakingCells z c) (cell_written z x T))
    (cell_fault_lem z x T.dirs) tt
on_cells_lem z c None T = refl

line_in_fine : (s : Stage) (line : List ℕ) (T : LentSheet) → NotEnded s → Fine (line_in s line T).taken
unfolding line_in
line_in_fine WaitingForSizeNames line T n = on_size_names_lem (size_names_line line)
line_in_fine (WaitingForSizes c) line T n = on_sizes_lem c (values_line c line) T
line_in_fine (WaitingForWeightOrCellNames z) line T n =
    on_weight_or_cell_names_lem z (names_line weight_columns line) (names_line cell_columns line)
line_in_fine (WaitingForWeight z row) line T n = on_weight_lem z row (values_line weight_columns line) T
line_in_fine (WaitingForCellNames z) line T n =
    on_cell_names_lem (WaitingForCellNames z) z (names_line cell_columns line)
line_in_fine (TakingCells z c) line T n = on_cells_lem z c (values_line c line) T
line_in_fine (Ended z) line T n = absurd n

line_fine : (i : Intake) (line : List ℕ) (T : LentSheet) → NotEnded i.stage → Fine (line_after i line T).taken
unfolding line_after
line_fine i line T n =
    unless_fine (state_fault i.stage (length T.dirs) (length T.weights)) i.stage T
    (line_in i.stage line T) (state_fault_lem i.stage _ _) (line_in_fine i.stage line T n)

pub line_number : (i : Intake) (line : List ℕ) (T : LentSheet) (number : ℕ) → NotEnded i.stage
    → (line_after i line T).taken.outcome ≡ Refused number 0 → one_of line_numbers number ≡ true
line_number i line T number n e = rw e at (line_fine i line T n)

line_on : (i : Intake) (line : List ℕ) (T : LentSheet) → NotEnded i.stage
    → (line_after i line T).taken.outcome ≡ Accepted → NotEnded (line_after i line T).taken.intake.stage
line_on i line T n e = rw e at (line_fine i line T n)

-- accepted lines do not end the intake, and reach its state
pub takes_on : {i j : Intake} {T U : LentSheet} {lines : List (List ℕ)} → Takes i T lines j U → NotEnded i.stage
    → NotEnded j.stage
takes_on takes_none n = n
takes_on (takes_line {i} {j} {T} line e t) n = takes_on t (line_on i line T n e)

pub takes_reached : {i j : Intake} {T U : LentSheet} {lines : List (List ℕ)} → Takes i T lines j U → Reached i T
    → Reached j U
takes_reached takes_none r = r
takes_reached (takes_line {i} {j} {T} line e t) r = takes_reached t (by_line r line e)

-- ---- the end's

abbrev EndFine : Outcome → Type 0
EndFine Accepted = Unit
EndFine (Err refusal) = one_of end_numbers refusal.number ≡ true

end_in_fine : (s : Stage) → NotEnded s → EndFine (end_in s).outcome
unfolding end_in
end_in_fine WaitingForSizeNames n = refl
end_in_fine (WaitingForSizes c) n = refl
end_in_fine (WaitingForWeightOrCellNames z) n = refl
end_in_fine (WaitingForWeight z row) n = refl
end_in_fine (WaitingForCellNames z) n = refl
end_in_fine (TakingCells z c) n = tt
end_in_fine (Ended z) n = absurd n

pub end_number : (i : Intake) (number : ℕ) → NotEnded i.stage → (end_taken i).outcome ≡ Refused number 0
    → one_of end_numbers number ≡ true
unfolding end_taken
end_number i number n e = rw e at (end_in_fine i.stage n)

-- ---- labelling's

-- a refusal with one of the sheet's numbers, and a place of at most n
abbrev SheetFine : ℕ → Outcome → Type 0
SheetFine n Accepted = Unit
SheetFine n (Err refusal) = (one_of sheet_numbers refusal.number ≡ true) × (refusal.place ≤ n)

abbrev Below : ℕ → Found → Type 0
Below n (Some c) = c < n
Below n None = Unit

first_below : (test : ℕ → Bool) (n : ℕ) → Below n (first test n)
first_below test n = go (first test n) refl
  where
    go : (f : Found) → first test n ≡ f → Below n f
    go (Some c) e = (at_first test n c e).below
    go None e = tt

refused_at_lem : (number n : ℕ) (f : Found) (rest : Outcome) → one_of sheet_numbers number ≡ true → Below n f
    → SheetFine n rest → SheetFine n (refused_at number f rest)
unfolding refused_at
refused_at_lem number n (Some c) rest h b s = (h, omega arith)
refused_at_lem number n None rest h b s = s

refused_if_none_lem : (number n : ℕ) (f : Found) (rest : Outcome) → one_of sheet_numbers number ≡ true
    → SheetFine n rest → SheetFine n (refused_if_none number f rest)
unfolding refused_if_none
refused_if_none_lem number n (Some c) rest h s = s
refused_if_none_lem number n None rest h s = (h, omega arith)

outcome_on_fine : (G : Grid) → SheetFine (cells G) (outcome_on G)
unfolding outcome_on
outcome_on_fine G =
    refused_at_lem 4 (cells G) (first (bad_code G) (cells G)) _ refl (first_below (bad_code G) (cells G))
    (refused_if_none_lem 5 (cells G) (first (inside G) (cells G)) _ refl
    (refused_at_lem 6 (cells G) (first (undrained G) (cells G)) Accepted refl (first_below (undrained G) (cells G)) tt))

sheet_widened : (n m : ℕ) (o : Outcome) → n ≤ m → SheetFine n o → SheetFine m o
sheet_widened n m Accepted h s = tt
sheet_widened n m (Err refusal) h s = (s.0, omega (arith, s.1))

sheet_or : (b : Bool) (x y : Outcome) → SheetFine 65536 x → SheetFine 65536 y → SheetFine 65536 (cond b x y)
sheet_or true x y hx hy = hx
sheet_or false x y hx hy = hy

-- sizes within their bounds pass checks 1, 2 and 19, and weights from 1 to 1000 pass 17
module _ (S : Sheet) (L : Lent) (rows_some : 1 ≤ S.grid.rows) (rows_most : S.grid.rows ≤ 256)
    (cols_some : 1 ≤ S.grid.cols) (cols_most : S.grid.cols ≤ 256) (depth_some : 1 ≤ S.depth)
    (depth_most : S.depth ≤ 36) (least_some : 1 ≤ S.least) (least_most : S.least ≤ 65536000)
    (split_some : 1 ≤ S.split) (split_most : S.split ≤ 4)
    (weights-fit : weights_fit S.grid.rows S.weights ≡ true) where
  sizes_passed : sizes_fit S.grid.rows S.grid.cols ≡ true
  unfolding sizes_fit
  sizes_passed =
      rw (
        le-leb 1 S.grid.rows rows_some,
        le-leb S.grid.rows 256 rows_most,
        le-leb 1 S.grid.cols cols_some,
        le-leb S.grid.cols 256 cols_most,
      )

  depth_passed : depth_fits S.depth ≡ true
  unfolding depth_fits
  depth_passed = rw (le-leb 1 S.depth depth_some, le-leb S.depth 36 depth_most)

  split_passed : least_and_split_fit S.least S.split ≡ true
  unfolding least_and_split_fit
  split_passed =
      rw (
        within_yes 65536000 S.least least_some least_most,
        within_yes 4 S.split split_some split_most,
      )

  outcome_from_17 : outcome_from17 S ≡ outcome_on S.grid
  unfolding outcome_from17
  outcome_from_17 = rw weights-fit

  outcome_fine : SheetFine 65536 (outcome S L)
  unfolding outcome outcome_from3 sheet_fault
  outcome_fine =
      rw (sizes_passed, depth_passed, split_passed, outcome_from_17)
      (sheet_or (slices_fit S L) (outcome_on S.grid) (Refused 3 0)
      (sheet_widened (cells S.grid) 65536 (outcome_on S.grid) (cells_most rows_most cols_most)
      (outcome_on_fine S.grid))
      (refl, omega arith))

  pub sheet_number : (number place : ℕ) → outcome S L ≡ Refused number place
      → (one_of sheet_numbers number ≡ true) × (place ≤ 65536)
  sheet_number number place e = rw e at outcome_fine

-- a file whose lines and end are accepted
module _ {T : LentSheet} {bytes : List ℕ} {z : Sizes} (file : FileEnded T bytes z) where
  reached : Reached (end_taken file.lines.intake).intake file.lines.held
  reached =
      by_end (takes_reached file.lines.takes (at_start T)) (ap (λ (t : Taken). t.outcome) file.ended)

  holds : Holds (end_taken file.lines.intake).intake.stage z
  holds = rw (ap (λ (t : Taken). t.intake.stage) file.ended) ended

  -- its sizes are within their bounds, and its weights from 1 to 1000
  pub file_fits : Fits z (length file.lines.held.dirs) (length file.lines.held.weights)
  file_fits = reached_sizes reached holds

  file_weights : weights_fit z.rows file.lines.held.weights ≡ true
  file_weights = all_fit z.rows file.lines.held.weights (reached_weights reached holds)

  -- so none of 1, 2, 19 and 17 refuses its sheet
  pub file_number : (L : Lent) (number place : ℕ)
      → outcome (sheet_of z file.lines.held) L ≡ Refused number place
      → (one_of sheet_numbers number ≡ true) × (place ≤ 65536)
  file_number L number place e =
      sheet_number (sheet_of z file.lines.held) L file_fits.rows_some file_fits.rows_most
      file_fits.cols_some file_fits.cols_most file_fits.depth_some file_fits.depth_most
      file_fits.least_some file_fits.least_most file_fits.split_some file_fits.split_most file_weights
      number place e
