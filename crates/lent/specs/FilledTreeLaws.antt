-- The tree after filling: as it was on a refusal, and else the nodes of the deal.
use Rattle.std.specs.Prelude.{◌≡◌, ◌≢◌, ℕ, List, length}
use Rattle.sizes.specs.Sizes.{deal_level}
use Rattle.tree.specs.Filled.{filled}
use Rattle.lent.specs.LentDeal.{tree_deal, deal_refusal}
use Rattle.lent.specs.LentDealLaws.{answer_refused}
use Rattle.lent.specs.FilledTree.{filled_tree}

module _ (bytes tree : List ℕ) where
  pub not_filled : deal_refusal (tree_deal bytes tree) ≢ 0 → filled_tree bytes tree ≡ tree
  unfolding filled_tree
  not_filled h =
      answer_refused (λ (code : ℕ). tree) (filled (deal_level (length bytes)) bytes)
      (deal_refusal (tree_deal bytes tree)) h

  pub is_filled : deal_refusal (tree_deal bytes tree) ≡ 0
      → filled_tree bytes tree ≡ filled (deal_level (length bytes)) bytes
  unfolding filled_tree
  is_filled e = rw e
