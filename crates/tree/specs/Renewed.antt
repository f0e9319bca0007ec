-- Bringing the buffer up to date (document 02, request (vii)): "an update works out anew, from the bottom up, every
-- node above the bytes written, and writes no other". For any buffer.
use Rattle.std.specs.Prelude.{◌≡◌, Bool, true, false, ◌&&◌, ℕ, zero, suc, ◌+◌, ◌-◌, ◌*◌, ◌/◌, ◌^◌, List, length, ltb}
use Rattle.octets.specs.Splice.{splice}
use Rattle.node.specs.Node.{node_hash}
use Rattle.tree.specs.Place.{NodeInTree, node_place}
use Rattle.tree.specs.TreeNodes.{tree_nodes, children}

-- the node at position q one level above h, worked out from its children as they stand
unfoldable pub renewed_node : List ℕ → List ℕ → ℕ → ℕ → List ℕ
renewed_node bytes tree h q = splice tree (node_place (length bytes) (suc h) q) (node_hash (children bytes tree h q))

-- n of them, from q on
unfoldable pub renewed_row : List ℕ → List ℕ → ℕ → ℕ → ℕ → List ℕ
renewed_row bytes tree h q zero = tree
renewed_row bytes tree h q (suc n) = renewed_row bytes (renewed_node bytes tree h q) h (suc q) n

-- the first position of height h above the bytes written, from a place on, and how many there are
abbrev pub first_above : ℕ → ℕ → ℕ
first_above from h = from / (32 * 2 ^ h)

abbrev pub count_above : ℕ → ℕ → ℕ → ℕ
count_above from len h = (from + len - 1) / (32 * 2 ^ h) + 1 - first_above from h

-- n heights, the first one level above h
unfoldable pub renewed_up : List ℕ → List ℕ → ℕ → ℕ → ℕ → ℕ → List ℕ
renewed_up bytes tree from len h zero = tree
renewed_up bytes tree from len h (suc n) =
    renewed_up bytes (renewed_row bytes tree h (first_above from (suc h)) (count_above from len (suc h))) from len
    (suc h) n

-- all heights of a tree of 2 ^ top nodes, after len bytes were written from a place on
unfoldable pub renewed : ℕ → List ℕ → List ℕ → ℕ → ℕ → List ℕ
renewed top bytes tree from len = renewed_up bytes tree from len 0 top

-- whether the node of a height and a position is above bytes written
abbrev pub above : ℕ → ℕ → ℕ → ℕ → Bool
above from len h q = ltb from ((q + 1) * (32 * 2 ^ h)) && ltb (q * (32 * 2 ^ h)) (from + len)

-- the same told of the buffer that is left: each node of a set is worked out from its children as they now stand, each
-- other node stands as it did
pub record RenewedBy (set : ℕ → ℕ → Bool) (bytes tree new : List ℕ) : Type 0 where
  pub sized : length new ≡ length tree
  pub anew : (h q : ℕ) → NodeInTree (length bytes) (suc h) q → set (suc h) q ≡ true
      → tree_nodes bytes new (suc h) q ≡ node_hash (children bytes new h q)
  pub stays : (h q : ℕ) → NodeInTree (length bytes) (suc h) q → set (suc h) q ≡ false
      → tree_nodes bytes new (suc h) q ≡ tree_nodes bytes tree (suc h) q
