-- `moved` meets its contract: each fact on the sum's bits is one on the sum.
use Rattle.directions.proofs.Signed.{sum_fits, index_fits_lem, moved_negative, moved_in, moved_out}
use Rattle.directions.proofs.moved.Goals as goal

pub overflow_add-x : goal.overflow_add-x
overflow_add-x c = sum_fits c.args.at c.args.step c.requires

pub overflow_cast-y : goal.overflow_cast-y
overflow_cast-y c = let a = c.args in index_fits_lem a.at a.step a.count c.requires c.if-x-lt0.false

pub returns-then-x-lt0 : goal.returns-then-x-lt0
returns-then-x-lt0 c = let a = c.args in moved_negative a.at a.step a.count c.requires c.if-x-lt0.true

pub returns-then-y-count : goal.returns-then-y-count
returns-then-y-count c =
    let a = c.args in
    moved_in a.at a.step a.count c.requires c.if-x-lt0.false c.if-y-count.true

pub returns-else-y-count : goal.returns-else-y-count
returns-else-y-count c =
    let a = c.args in
    moved_out a.at a.step a.count c.requires c.if-x-lt0.false c.if-y-count.false
