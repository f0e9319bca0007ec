-- Merkle paths (document 01, "Nodes and trees"): siblings of 32 bytes, from the bottom up.
use Rattle.std.specs.Prelude.{ℕ, zero, suc, ◌/◌, ◌%◌, List, ◌++◌, take, drop, eqb}
use Rattle.rules.specs.Choice.{choose}
use Rattle.node.specs.Node.{node_hash}
use Rattle.paths.specs.Start.{PathStart}

-- the 64 bytes that are hashed for the running node at position p and its sibling: an even p puts the running node on
-- the left
unfoldable pub pair_of : ℕ → List ℕ → List ℕ → List ℕ
pair_of p node sibling = choose (eqb (p % 2) 0) (node ++ sibling) (sibling ++ node)

-- the node that a path of n siblings leads to, from a node at position p
unfoldable pub path_root : ℕ → List ℕ → ℕ → List ℕ → List ℕ
path_root zero node p path = node
path_root (suc n) node p path = path_root n (node_hash (pair_of p node (take 32 path))) (p / 2) (drop 32 path)

-- the same, from a node at a start
abbrev pub root_from : PathStart → List ℕ → List ℕ → List ℕ
root_from start node path = path_root start.levels node start.position path
