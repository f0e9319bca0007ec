use mathlib.Core.Path.{◌∙◌}
use mathlib.Core.List.{[]}
use Rattle.paths.specs.Difference.{first_difference}
use Rattle.paths.specs.CompareBelow.{shown}
use Rattle.paths.proofs.CompareLaws.{paths_up}
use Rattle.settle.proofs.strings.compare_segments.Goals as goal

pub returns : goal.returns
unfolding first_difference
returns c =
    let a = c.args in
    c.difference.ensures
    ∙ shown _
    (c.compare_paths.ensures
    ∙ paths_up a.left a.left_path.now [] a.right a.right_path.now [] a.position c.requires)
