-- `rivers::units::label_basin` meets its contract.
use mathlib.Core.Path.{refl, ◌∙◌}
use Rattle.rivers.specs.Labelled.{unit_labelled}
use Rattle.rivers.proofs.Prefixes.{prefix_none}
use Rattle.rivers.proofs.Progress.{river_stands}
use Rattle.rivers.proofs.Relabelled.{labelled_same}
use Rattle.rivers.proofs.units.label_basin.Goals as goal

pub label_river-requires-clause-prefix : goal.label_river-requires-clause-prefix
label_river-requires-clause-prefix c = prefix_none _ c.requires.depth_bound

pub returns-clause-labels : goal.returns-clause-labels
unfolding unit_labelled prefix_none
returns-clause-labels c = λ n.
    c.label_river.ensures n (prefix_none _ c.requires.depth_bound)
    ∙ labelled_same _ _ _ _ _ (river_stands c.requires.places.for_labels n c.args.j c.requires.j_in_bounds)
    (λ x h. refl)
