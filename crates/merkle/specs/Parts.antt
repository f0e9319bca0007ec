-- A run in equal parts, so that the commitment of each can be worked out by a call of its own.
use Rattle.std.specs.Prelude.{ℕ, zero, suc, ◌*◌, ◌^◌, List, [], ◌++◌}
use Rattle.octets.specs.Splice.{part}
use Rattle.merkle.specs.NodeSource.{NodeSource}
use Rattle.merkle.specs.Commitment.{committed}

-- n nodes of height h, from position q on
unfoldable pub node_row : NodeSource → ℕ → ℕ → ℕ → List ℕ
node_row nodes h q zero = []
node_row nodes h q (suc n) = nodes h q ++ node_row nodes h (suc q) n

-- part q of those of 2 ^ k nodes
abbrev pub part_of : List ℕ → ℕ → ℕ → List ℕ
part_of run k q = part run (q * (32 * 2 ^ k)) (32 * 2 ^ k)

-- what the public routine answers for the parts, as nodes of a tree
abbrev pub part_nodes : List ℕ → NodeSource
part_nodes run k q = (committed (part_of run k q)).node
