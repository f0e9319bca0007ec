-- `fill_lanes`: the lanes side by side are the nodes over the pairs.
use mathlib.Core.Path.{ap, ◌∙◌}
use native.Mathlib.Omega.{arith}
use Rattle.octets.specs.Splice.{splice}
use Rattle.tree.proofs.LanesAbove.{lanes_above, all_above}
use Rattle.tree.proofs.above.fill_lanes.Goals as goal

pub returns : goal.returns
returns c =
    let a = c.args in
    c.store_nodes.ensures
    ∙ ap (splice a.above.now 0)
    (lanes_above a.below.now 0 c.over_pairs-nodes.result a.count (omega (arith, c.requires.0.0))
    c.over_pairs-nodes.ensures)
    ∙ all_above a.below.now a.above.now a.count c.requires.0.1
