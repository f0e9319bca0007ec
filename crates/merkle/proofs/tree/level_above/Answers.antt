-- `level_above`: the left nodes, the right nodes, and the nodes over them.
use Rattle.merkle.proofs.Parts.{held_above}
use Rattle.merkle.proofs.tree.level_above.Goals as goal

pub returns : goal.returns
returns c =
    let right = c.every_other-right in
    let left = c.every_other-left in
    let a = c.args in
    λ x held.
    held_above a.nodes left.result right.result c.hash_nodes.result a.count x c.requires
    left.ensures right.ensures
    c.hash_nodes.ensures held
