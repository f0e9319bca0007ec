-- The buffer that holds every inner node of a deal's tree (document 02, request (vii)): heights from the bottom, left
-- to right.
use Rattle.std.specs.Prelude.{ℕ, zero, suc, ◌^◌, List, [], ◌++◌}
use Rattle.merkle.specs.Tree.{node_at}
use Rattle.merkle.specs.NodeSource.{NodeSource}
use Rattle.merkle.specs.Parts.{node_row}

-- n heights, from h on; the highest is one node
unfoldable pub node_rows : NodeSource → ℕ → ℕ → List ℕ
node_rows nodes h zero = []
node_rows nodes h (suc n) = node_row nodes h 0 (2 ^ n) ++ node_rows nodes (suc h) n

-- of a deal of 2 ^ top nodes
unfoldable pub filled : ℕ → List ℕ → List ℕ
filled top bytes = node_rows (node_at bytes) 1 top
