-- The tree beside a lent deal, where there is one, brought up to date.
use Rattle.std.proofs.Common.{inl, inr}
use Rattle.std.specs.Prelude.{◌≡◌, ℕ, ◌⊎◌, List, length, Option, Some, None}
use Rattle.std.specs.Borrow.{MutBor}
use Rattle.sizes.specs.Sizes.{deal_level}
use Rattle.tree.specs.Renewed.{renewed}

-- a tree as it came in, and as it is left: with one every node above the bytes written is worked out anew, and without
-- one there is nothing to say
abbrev pub IsRenewed : List ℕ → ℕ → ℕ → Option (MutBor (List ℕ)) → Unit {0} ⊎ ((MutBor (List ℕ) × Unit {0}) ⊎ ⊥) → Type 0
IsRenewed deal from len (Some tree) (inr (inl left)) =
    left.0.now ≡ renewed (deal_level (length deal)) deal tree.now from len
IsRenewed deal from len (Some tree) _ = ⊥
IsRenewed deal from len None _ = Unit {0}
