use mathlib.Core.Path.{sym, ◌∙◌}
use mathlib.Core.List.{[]}
use Rattle.paths.specs.Difference.{first_difference}
use Rattle.paths.proofs.CompareLaws.{compared_more}
use Rattle.settle.proofs.strings.compare_strings.Goals as goal

pub returns : goal.returns
unfolding first_difference
returns c = c.compare_above.ensures ∙ sym (compared_more c.args.left c.args.right [] [])
