-- `padded` meets its contract: its halves are the label's two numbers with zeros behind them.
use native.Mathlib.Omega.{arith}
use mathlib.Core.Path.{sym}
use Rattle.lookup.specs.PaddedHalves.{joined}
use Rattle.lookup.proofs.PaddedHalves.{first_short, rest_short, padded_rest_below, padded_halves}
use Rattle.lookup.proofs.padded.Goals as goal

pub padded_number-requires : goal.padded_number-requires
padded_number-requires c = first_short c.args.label c.requires

pub padded_number-requires-2 : goal.padded_number-requires-2
padded_number-requires-2 c = rest_short c.args.label c.requires

pub returns : goal.returns
unfolding joined
returns c =
    record {
      whole =
          rw (c.padded_number.ensures, c.padded_number-2.ensures)
          (sym (padded_halves c.args.label c.requires));
      most = omega (arith, c.padded_number-2.ensures, padded_rest_below c.args.label c.requires);
    }
