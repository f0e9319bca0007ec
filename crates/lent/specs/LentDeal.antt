-- A deal that is lent, with the source of its nodes, and the refusals that routines over a lent deal start with
-- (document 01, "Codes and their order"; document 02, request (vii)).
use Rattle.std.specs.Prelude.{Bool, true, ℕ, ◌-◌, List, [], ◌∷◌, length, eqb, Option, Some, None}
use Rattle.rules.specs.Refusals.{Rule, rule, first_refusal}
use Rattle.stray.specs.StrayBits.{no_stray_bits}
use Rattle.sizes.specs.Sizes.{lent_size_allowed}
use Rattle.merkle.specs.Tree.{node_at}
use Rattle.merkle.specs.NodeSource.{NodeSource}
use Rattle.tree.specs.TreeNodes.{tree_nodes}

-- tree_sized: the tree beside the deal has the length that the deal asks; so it is where no tree is lent
pub record LentDeal : Type 0 where
  pub bytes : List ℕ
  pub nodes : NodeSource
  pub tree_sized : Bool

-- the source of its nodes: with a tree beside it the nodes are taken as they stand, the inner ones in its D - 32 bytes;
-- without one they are worked out from the deal's bytes
abbrev pub nodes_of : List ℕ → Option (List ℕ) → NodeSource
nodes_of bytes (Some tree) = tree_nodes bytes tree
nodes_of bytes None = node_at bytes

-- whether a tree has the length that a deal of a size asks; so it has where none is lent
abbrev pub tree_fits : ℕ → Option (List ℕ) → Bool
tree_fits size (Some tree) = eqb (length tree) (size - 32)
tree_fits size None = true

-- a deal with a tree beside it or without one
abbrev pub lent_of : List ℕ → Option (List ℕ) → LentDeal
lent_of bytes tree =
    record { bytes = bytes; nodes = nodes_of bytes tree; tree_sized = tree_fits (length bytes) tree }

-- the deal alone
abbrev pub lent_deal : List ℕ → LentDeal
lent_deal bytes = record { bytes = bytes; nodes = node_at bytes; tree_sized = true }

-- the deal with the tree beside it
abbrev pub tree_deal : List ℕ → List ℕ → LentDeal
tree_deal bytes tree =
    record { bytes = bytes; nodes = tree_nodes bytes tree; tree_sized = eqb (length tree) (length bytes - 32) }

abbrev pub deal_size : LentDeal → ℕ
deal_size deal = length deal.bytes

-- 2 for a size that is not allowed, 11 for a node with stray bits, 12 for a tree of another length
abbrev pub deal_rules : LentDeal → List Rule
deal_rules deal =
    rule (lent_size_allowed (deal_size deal)) 2
    ∷ rule (no_stray_bits deal.bytes) 11
    ∷ rule deal.tree_sized 12
    ∷ []

unfoldable pub deal_refusal : LentDeal → ℕ
deal_refusal deal = first_refusal (deal_rules deal)
