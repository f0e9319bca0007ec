-- What settling's answer says of a statement.
use Rattle.std.specs.Prelude.{◌≡◌, ◌⊎◌}
use Rattle.paths.specs.Collision.{Collision}
use Rattle.settle.specs.Settle.{Settled}

-- 0 exactly where the statement holds, and else 17 and two different 64-byte strings with one node hash
pub record Settles (Same : Type 0) (a : Settled) : Type 0 where
  pub code_is : (a.code ≡ 0) ⊎ (a.code ≡ 17)
  pub zero_if : Same → a.code ≡ 0
  pub if_zero : a.code ≡ 0 → Same
  pub else_pair : (Same → ⊥) → (a.code ≡ 17) × Collision a.left a.right
