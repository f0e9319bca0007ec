-- The path of the last node of a run of 2 ^ h nodes, from the bottom: at each height the node to the left of the one
-- that stands over the last node.
use Rattle.std.specs.Prelude.{ℕ, zero, suc, ◌-◌, ◌*◌, ◌^◌, List, [], ◌++◌, take, drop}
use Rattle.merkle.specs.Tree.{commitment_of, pairs_of}

unfoldable pub last_path : ℕ → List ℕ → List ℕ
last_path zero run = []
last_path (suc h) run = last_path h (drop (32 * 2 ^ h) run) ++ commitment_of h (take (32 * 2 ^ h) run)

-- the path of the last of the nodes x 0 to x (2 ^ h - 1)
unfoldable pub path_over : ℕ → (ℕ → List ℕ) → List ℕ
path_over zero x = []
path_over (suc h) x = x (2 ^ suc h - 2) ++ path_over h (pairs_of x)
