-- The 64-byte strings that are hashed along a path, from the top down (document 01, "Booking, finding, building,
-- settling": settle).
use Rattle.std.specs.Prelude.{ℕ, zero, suc, ◌/◌, List, ◌∷◌, take, drop}
use Rattle.node.specs.Node.{node_hash}
use Rattle.paths.specs.Start.{PathStart}
use Rattle.paths.specs.Path.{pair_of}

-- the strings of a path of n siblings from a node at position p, the highest first, and then what stands below
unfoldable pub path_strings : ℕ → List ℕ → ℕ → List ℕ → List (List ℕ) → List (List ℕ)
path_strings zero node p path below = below
path_strings (suc n) node p path below =
    path_strings n (node_hash (pair_of p node (take 32 path))) (p / 2) (drop 32 path)
    (pair_of p node (take 32 path) ∷ below)

-- the same, from a node at a start
abbrev pub strings_from : PathStart → List ℕ → List ℕ → List (List ℕ) → List (List ℕ)
strings_from start node path below = path_strings start.levels node start.position path below
