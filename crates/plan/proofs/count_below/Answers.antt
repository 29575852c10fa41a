-- `count_below` meets its contract. The invariant: how many labels stand before the limit lies between the two places.
-- The measure: their distance.
use native.Mathlib.Omega.{arith}
use borrow.Author.Tests.{ltb-true, ltb-false}
use mathlib.Core.Path.{◌≡◌, sym, ◌∙◌}
use Prim.Native.Nat.{ℕ, ◌+◌, ◌-◌, ◌/◌, ◌≤◌, ◌<◌}
use lib.Dec.{ltb}
use lib.ListN.{length}
use Rattle.sheet.specs.Record.{no_digits, labels_in, label_places}
use Rattle.sheet.specs.Flow.{is_label}
use Rattle.lookup.specs.Lookup.{greatest_depth}
use Rattle.lookup.specs.Padded.{count_below}
use Rattle.lookup.specs.PaddedHalves.{joined}
use Rattle.lookup.proofs.Counted.{labels_counted, every_at}
use Rattle.plan.specs.Plan.{units_of_one}
use Rattle.plan.proofs.Places.{count_most, below_at}
use Rattle.plan.proofs.count_below.Goals as goal
use Rattle.plan.proofs.count_below.Goals.{After-is_below, In-loop-from}

-- the place in the middle
abbrev middle : In-loop-from → ℕ
middle c = c.loop-from.from + (c.loop-from.to - c.loop-from.from) / 2

-- the place in the middle
abbrev middle-After-is_below : After-is_below → ℕ
middle-After-is_below c = c.loop-from.from + (c.loop-from.to - c.loop-from.from) / 2

inside : (c : In-loop-from) → middle c < length (labels_in c.args.index.now)
inside c = omega (arith, labels_counted c.args.index.now)

inside-After-is_below : (c : After-is_below) → middle-After-is_below c < length (labels_in c.args.index.now)
inside-After-is_below c = omega (arith, labels_counted c.args.index.now)

-- how many stand before the limit
abbrev count_at : In-loop-from → ℕ
count_at c = count_below 1 (joined c.args.limit) (units_of_one (labels_in c.args.index.now))

-- how many stand before the limit
abbrev count_at-After-is_below : After-is_below → ℕ
count_at-After-is_below c = count_below 1 (joined c.args.limit) (units_of_one (labels_in c.args.index.now))

-- the label in the middle does exactly if its place is less
compared : (c : After-is_below)
    → ltb (middle-After-is_below c) (count_at-After-is_below c) ≡ c.is_below.result
compared c =
    let below = below_at (labels_in c.args.index.now) (joined c.args.limit) c.requires.stand_first (middle-After-is_below c)
    (inside-After-is_below c) in
    sym below ∙ rw (← c.label_at.ensures) (sym c.is_below.ensures)

pub loop-from-init : goal.loop-from-init
loop-from-init c =
    let a = c.args in
    let most = count_most (labels_in a.index.now) (joined a.limit) in
    let counted = labels_counted a.index.now in
    (omega arith, omega arith, omega arith)

pub overflow_sub-middle : goal.overflow_sub-middle
overflow_sub-middle c = omega arith

pub overflow_add-middle : goal.overflow_add-middle
overflow_add-middle c = omega arith

pub label_at-requires : goal.label_at-requires
unfolding label_places
label_at-requires c = omega arith

pub is_below-requires : goal.is_below-requires
is_below-requires c =
    let labels = labels_in c.args.index.now in record {
      label_value = rw c.label_at.ensures (every_at no_digits (is_label greatest_depth) labels (middle (goal.at.is_below-requires c).In-loop-from) c.requires.index_value
          (inside (goal.at.is_below-requires c).In-loop-from));
      rest_bound = c.requires.rest_bound;
    }

pub overflow_add-from : goal.overflow_add-from
overflow_add-from c = omega arith

pub loop-from-smaller-then-is_below : goal.loop-from-smaller-then-is_below
loop-from-smaller-then-is_below c = omega arith

pub loop-from-preserved-then-is_below : goal.loop-from-preserved-then-is_below
loop-from-preserved-then-is_below c =
    let before : middle (goal.at.loop-from-preserved-then-is_below c).In-loop-from < count_at (goal.at.loop-from-preserved-then-is_below c).In-loop-from = ltb-true _ _ (compared (goal.at.loop-from-preserved-then-is_below c).After-is_below ∙ c.if-is_below.true) in
    (omega arith, omega arith, omega arith)

pub loop-from-smaller : goal.loop-from-smaller
loop-from-smaller c = omega arith

pub loop-from-preserved : goal.loop-from-preserved
loop-from-preserved c =
    let after : count_at (goal.at.loop-from-preserved c).In-loop-from ≤ middle (goal.at.loop-from-preserved c).In-loop-from = ltb-false _ _ (compared (goal.at.loop-from-preserved c).After-is_below ∙ c.if-is_below.false) in
    (omega arith, omega arith, omega arith)

pub returns : goal.returns
returns c = omega arith
