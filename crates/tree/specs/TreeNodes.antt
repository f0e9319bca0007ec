-- The tree kept beside a deal (document 02, request (vii)): the lowest level stands in the deal's bytes, each other in
-- the buffer.
use Rattle.std.specs.Prelude.{◌≡◌, ℕ, zero, suc, ◌+◌, ◌*◌, List, ◌++◌, length}
use Rattle.octets.specs.Splice.{part}
use Rattle.merkle.specs.Tree.{node_at}
use Rattle.merkle.specs.NodeSource.{NodeSource}
use Rattle.tree.specs.Place.{NodeInTree, node_place}

-- the nodes as they stand, whatever the buffer holds
unfoldable pub tree_nodes : List ℕ → List ℕ → NodeSource
tree_nodes bytes tree zero q = part bytes (q * 32) 32
tree_nodes bytes tree (suc h) q = part tree (node_place (length bytes) (suc h) q) 32

-- the two children, as they stand, of position q one level above h
unfoldable pub children : List ℕ → List ℕ → ℕ → ℕ → List ℕ
children bytes tree h q = tree_nodes bytes tree h (q * 2) ++ tree_nodes bytes tree h (q * 2 + 1)

-- the buffer beside a deal has D - 32 bytes
abbrev pub SizedFor : List ℕ → List ℕ → Type 0
SizedFor bytes tree = length tree + 32 ≡ length bytes

-- the premise of request (vii) as a state: every inner node of the deal's tree stands in the buffer
pub record FilledFor (bytes tree : List ℕ) : Type 0 where
  pub sized : SizedFor bytes tree
  pub stands : (h q : ℕ) → NodeInTree (length bytes) (suc h) q
      → tree_nodes bytes tree (suc h) q ≡ node_at bytes (suc h) q
