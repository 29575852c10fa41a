-- `search` meets its contract.
use mathlib.Core.Path.{◌∙◌}
use Rattle.upstream.proofs.Spreading.{spread_start}
use Rattle.upstream.proofs.Reaching.{searched}
use Rattle.upstream.proofs.search.Goals as goal

pub seed-outlets-requires : goal.seed-outlets-requires
seed-outlets-requires c = let p = c.requires in (p.0, p.2)

pub spread-requires : goal.spread-requires
spread-requires c =
    let p = c.requires in
    (p.0, p.1, spread_start c.seed-outlets.ensures.0)

pub returns : goal.returns
returns c = (
  searched c.spread.ensures.0,
  c.spread.ensures.1 ∙ c.seed-outlets.ensures.1,
)
