-- Under the premise of request (vii), that the tree is filled for the deal: the refusals of the deal with the tree are
-- those of the deal alone, and so are its nodes.
use Rattle.std.specs.Prelude.{◌≡◌, refl, true, ℕ, List, length}
use Rattle.std.proofs.Math.Path.{ap}
use Rattle.std.proofs.Common.{arith}
use Rattle.rules.specs.Refusals.{first_refusal}
use Rattle.sizes.specs.Sizes.{lent_size_allowed, deal_level}
use Rattle.merkle.specs.Tree.{node_at}
use Rattle.paths.specs.Start.{PathStart, InTree}
use Rattle.paths.specs.Siblings.{node_from}
use Rattle.tree.specs.TreeNodes.{tree_nodes, FilledFor}
use Rattle.tree.specs.TreeNodesLaws.{test_of_sized, filled_node}
use Rattle.lent.specs.LentDeal.{lent_deal, tree_deal, deal_rules, deal_refusal}
use Rattle.lent.specs.Usable.{Usable}
use Rattle.lent.specs.UsableLaws.{node_in_tree}

module _ (bytes tree : List ℕ) (f : FilledFor bytes tree) where
  pub filled_sized : (tree_deal bytes tree).tree_sized ≡ true
  filled_sized = let s = f.sized in test_of_sized bytes tree (omega arith) s

  pub filled_rules : deal_rules (tree_deal bytes tree) ≡ deal_rules (lent_deal bytes)
  filled_rules = rw filled_sized

  pub filled_refusal : deal_refusal (tree_deal bytes tree) ≡ deal_refusal (lent_deal bytes)
  unfolding deal_refusal
  filled_refusal = ap first_refusal filled_rules

  pub filled_nodes : lent_size_allowed (length bytes) ≡ true → (start : PathStart)
      → InTree (deal_level (length bytes)) start
      → node_from (tree_nodes bytes tree) start ≡ node_from (node_at bytes) start
  filled_nodes lent start w =
      let u : Usable (lent_deal bytes) = record { size_allowed = lent; tree_sized_lem = refl } in
      filled_node bytes tree f start.level start.position (node_in_tree u start w)
