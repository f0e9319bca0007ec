-- A source whose nodes have 32 bytes each, whatever they hold: every one in the tree with its top node on a level.
use Rattle.std.specs.Prelude.{◌≡◌, ℕ, length}
use Rattle.merkle.specs.NodeSource.{NodeSource}
use Rattle.paths.specs.Start.{PathStart, InTree}
use Rattle.paths.specs.Siblings.{node_from}

pub record NodesSized (nodes : NodeSource) (top : ℕ) : Type 0 where
  pub sized : (start : PathStart) → InTree top start → length (node_from nodes start) ≡ 32
