-- Where the nodes of a tree come from: a level, counted from the bottom, and a position give 32 bytes.
-- Worked out from a run's bytes, the source is `node_at run`.
use Rattle.std.specs.Prelude.{◌≡◌, ℕ, suc, ◌+◌, ◌*◌, ◌^◌, ◌<◌, List, ◌++◌, length, take, drop}
use Rattle.node.specs.Node.{node_hash}

abbrev pub NodeSource : Type 0
NodeSource = ℕ → ℕ → List ℕ

-- a source that is the tree over a run of 2 ^ top nodes; n is the number of levels up to the top
pub record IsTree (nodes : NodeSource) (run : List ℕ) (top : ℕ) : Type 0 where
  pub leaf : (q : ℕ) → nodes 0 q ≡ take 32 (drop (q * 32) run)
  pub sized : (n i q : ℕ) → i + n ≡ top → q < 2 ^ n → length (nodes i q) ≡ 32
  pub split : (n i m : ℕ) → suc i + n ≡ top → m < 2 ^ n
      → nodes (suc i) m ≡ node_hash (nodes i (m * 2) ++ nodes i (m * 2 + 1))
