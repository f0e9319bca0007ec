use mathlib.Core.List.{[], ◌∷◌}
use Rattle.node.specs.Node.{node_hash}
use Rattle.paths.specs.CompareBelow.{shown}
use Rattle.paths.proofs.CompareLaws.{paths_up}
use Rattle.settle.proofs.strings.compare_entries.Goals as goal

pub returns : goal.returns
returns c =
    let a = c.args in
    simp (
      c.difference.ensures,
      c.compare_paths.ensures,
      c.node_hash-right_node.ensures,
      c.node_hash-left_node.ensures,
      c.compare_strings-below.ensures,
    )
    (shown _
    (paths_up (node_hash a.left) a.left_path.now (a.left ∷ []) (node_hash a.right) a.right_path.now
    (a.right ∷ []) a.position c.requires))
