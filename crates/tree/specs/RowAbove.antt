-- The nodes over a run of pairs, and what the routine that works them out answers: the tree beside a deal (document 02,
-- request (vii)) can be filled a row, or a part of a row, at a time.
use Rattle.std.specs.Prelude.{◌≡◌, Bool, ◌&&◌, ℕ, zero, suc, ◌+◌, ◌*◌, ◌/◌, ◌%◌, ◌≤◌, ◌<◌, List, [], ◌++◌, length, take}
use Rattle.std.specs.Prelude.{drop, eqb}
use Rattle.rules.specs.Choice.{choose}
use Rattle.node.specs.Node.{node_hash}
use Rattle.merkle.specs.Parts.{node_row}
use Rattle.tree.specs.Place.{RowInTree}
use Rattle.tree.specs.TreeNodes.{tree_nodes}

-- the n nodes over the first n pairs of nodes of a run
unfoldable pub row_above : ℕ → List ℕ → List ℕ
row_above zero below = []
row_above (suc n) below = node_hash (take 64 below) ++ row_above n (drop 64 below)

-- n pairs of nodes, and room for the n nodes over them
abbrev pub RowSized : ℕ → List ℕ → List ℕ → Type 0
RowSized n below above = (length below ≡ 64 * n) × (length above ≡ 32 * n)

-- `below` is a whole number of pairs, and `above` half as long
abbrev pub row_fits : List ℕ → List ℕ → Bool
row_fits below above = eqb (length below % 64) 0 && eqb (length above) (length below / 2)

-- the code, and `above` afterwards: as it was with 12
abbrev pub row_code : List ℕ → List ℕ → ℕ
row_code below above = choose (row_fits below above) 0 12

unfoldable pub filled_row : List ℕ → List ℕ → List ℕ
filled_row below above = choose (row_fits below above) (row_above (length below / 64) below) above

-- n nodes of the buffer, from position q on, one level above h, are the nodes over their children as they stand
abbrev pub OverChildren : List ℕ → List ℕ → ℕ → ℕ → ℕ → Type 0
OverChildren bytes tree h q n =
    node_row (tree_nodes bytes tree) (suc h) q n ≡ row_above n (node_row (tree_nodes bytes tree) h (q * 2) (n * 2))

-- the node at position q, one level above h, is among such nodes
pub record InRange (bytes tree : List ℕ) (h q : ℕ) : Type 0 where
  pub first : ℕ
  pub count : ℕ
  pub known : RowInTree (length bytes) (suc h) first count
  pub starts : first ≤ q
  pub ends : q < first + count
  pub over : OverChildren bytes tree h first count
