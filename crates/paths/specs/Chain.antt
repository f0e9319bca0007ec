-- A chain: strings from the top down, each hashing to the half of the one above that the position names.
use Rattle.std.specs.Prelude.{◌≡◌, Bool, ℕ, zero, suc, ◌/◌, ◌%◌, List, [], ◌∷◌, eqb, length, take, drop}
use Rattle.rules.specs.Choice.{choose}
use Rattle.node.specs.Node.{node_hash}
use Rattle.paths.specs.Start.{PathStart}

-- which half of each string, from the top, is the next node, along n levels from position p, and then below
unfoldable pub sides : ℕ → ℕ → List Bool → List Bool
sides zero p below = below
sides (suc n) p below = sides n (p / 2) (eqb (p % 2) 0 ∷ below)

-- the same, from a start
abbrev pub sides_from : PathStart → List Bool → List Bool
sides_from start below = sides start.levels start.position below

abbrev pub half : Bool → List ℕ → List ℕ
half b w = choose b (take 32 w) (drop 32 w)

-- each string's node hash is the half of the string above, the first one's is c
abbrev pub Chain : List ℕ → List Bool → List (List ℕ) → Type 0
Chain c [] [] = Unit {0}
Chain c [] (w ∷ ws) = ⊥
Chain c (b ∷ bs) [] = ⊥
Chain c (b ∷ bs) (w ∷ ws) = (length w ≡ 64) × (node_hash w ≡ c) × Chain (half b w) bs ws
