-- Where a Merkle path starts (document 01, "Nodes and trees"): a node of a tree, by its level from the bottom and its
-- position there, and the number of levels above it, which is the number of siblings of the path.
use Rattle.std.specs.Prelude.{◌≡◌, ℕ, ◌+◌, ◌^◌, ◌<◌}

pub record PathStart : Type 0 where
  pub levels : ℕ
  pub level : ℕ
  pub position : ℕ

abbrev pub path_start : ℕ → ℕ → ℕ → PathStart
path_start levels level position = record { levels = levels; level = level; position = position }

-- a start in a tree with its top node on a level: the path ends there, and the position is one of the level's
pub record InTree (top : ℕ) (start : PathStart) : Type 0 where
  pub up : start.level + start.levels ≡ top
  pub among : start.position < 2 ^ start.levels
