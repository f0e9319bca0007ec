-- The Merkle path of a node, and the pairs of nodes along it, from a source of nodes (document 01, "Nodes and trees").
use Rattle.std.specs.Prelude.{ℕ, zero, suc, ◌+◌, ◌-◌, ◌*◌, ◌/◌, ◌%◌, List, [], ◌∷◌, ◌++◌}
use Rattle.merkle.specs.NodeSource.{NodeSource}
use Rattle.paths.specs.Start.{PathStart}

-- the sibling's position: q + 1 at an even q, and q - 1 at an odd one
abbrev pub sibling_of : ℕ → ℕ
sibling_of q = q / 2 * 2 + (1 - q % 2)

-- the Merkle path of position q of a level, n levels up
unfoldable pub siblings : NodeSource → ℕ → ℕ → ℕ → List ℕ
siblings nodes zero level q = []
siblings nodes (suc n) level q = nodes level (sibling_of q) ++ siblings nodes n (suc level) (q / 2)

-- the pair of nodes of a level that position q is in, in order
abbrev pub pair_at : NodeSource → ℕ → ℕ → List ℕ
pair_at nodes level q = nodes level (q / 2 * 2) ++ nodes level (q / 2 * 2 + 1)

-- the pairs of nodes along the same path, the highest first, and then what stands below
unfoldable pub node_pairs : NodeSource → ℕ → ℕ → ℕ → List (List ℕ) → List (List ℕ)
node_pairs nodes zero level q below = below
node_pairs nodes (suc n) level q below = node_pairs nodes n (suc level) (q / 2) (pair_at nodes level q ∷ below)

-- the node at a start, its Merkle path, and the pairs along it
abbrev pub node_from : NodeSource → PathStart → List ℕ
node_from nodes start = nodes start.level start.position

abbrev pub siblings_from : NodeSource → PathStart → List ℕ
siblings_from nodes start = siblings nodes start.levels start.level start.position

abbrev pub pairs_from : NodeSource → PathStart → List (List ℕ) → List (List ℕ)
pairs_from nodes start below = node_pairs nodes start.levels start.level start.position below
