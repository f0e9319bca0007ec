-- The node that an entry of a segment's size has to name to be kept with the segment's bytes.
use Rattle.std.specs.Prelude.{ℕ, List, Option, Some, None}
use Rattle.sizes.specs.Sizes.{segment_level, segment_position}
use Rattle.tree.specs.TreeNodes.{tree_nodes}

-- with a tree beside the deal the node over the area as it stands there, and without one the segment's commitment
abbrev pub area_node : List ℕ → Option (List ℕ) → ℕ → ℕ → List ℕ → List ℕ
area_node bytes (Some tree) offset size commitment =
    tree_nodes bytes tree (segment_level size) (segment_position offset size)
area_node bytes None offset size commitment = commitment
