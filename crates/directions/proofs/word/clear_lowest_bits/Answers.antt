-- `clear_lowest_bits` meets its contract.
use Rattle.directions.proofs.LowestBits.{repeated, can_take, cleared_is}
use Rattle.directions.proofs.word.clear_lowest_bits.Goals as goal

pub overflow_sub-result : goal.overflow_sub-result
unfolding repeated
overflow_sub-result c = can_take 8 c.args.word

pub returns : goal.returns
unfolding repeated
returns c = cleared_is 8 c.args.word c.ranges.word.fits
