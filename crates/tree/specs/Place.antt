-- Where the inner nodes stand in the buffer beside a deal of D bytes (document 02, request (vii)): heights from the
-- bottom, left to right. Heights are counted from 1, the root stands last.
use Rattle.std.specs.Prelude.{◌≡◌, ℕ, ◌+◌, ◌-◌, ◌*◌, ◌/◌, ◌^◌, ◌≤◌}

-- n positions of a height, from q on, are in the tree over D bytes
pub record RowInTree (D h q n : ℕ) : Type 0 where
  pub levels : ℕ
  pub sized : D ≡ 32 * 2 ^ (h + levels)
  pub inside : q + n ≤ 2 ^ levels

abbrev pub NodeInTree : ℕ → ℕ → ℕ → Type 0
NodeInTree D h q = RowInTree D h q 1

-- where the node of a height and a position starts
unfoldable pub node_place : ℕ → ℕ → ℕ → ℕ
node_place D h q = D - D / 2 ^ (h - 1) + 32 * q
