-- A node on the way of a Merkle path, and the source's node that it is.
use Rattle.std.specs.Prelude.{◌≡◌, ℕ}
use Rattle.merkle.specs.NodeSource.{NodeSource}
use Rattle.lent.specs.declared.PathNode.{PathNode}

-- the source's node at its position of a level
abbrev pub IsNode : NodeSource → ℕ → PathNode → Type 0
IsNode nodes level x = x.node ≡ nodes level x.position
