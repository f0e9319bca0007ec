-- A collision of the node hash: what settling shows with code 17 (document 01, code 17: "a pair is shown").
use Rattle.std.specs.Prelude.{◌≡◌, ℕ, List, length}
use Rattle.node.specs.Node.{node_hash}

-- two different strings of 64 bytes with one node hash
pub record Collision (a b : List ℕ) : Type 0 where
  pub unequal : a ≡ b → ⊥
  pub left_64 : length a ≡ 64
  pub right_64 : length b ≡ 64
  pub one_hash : node_hash a ≡ node_hash b
