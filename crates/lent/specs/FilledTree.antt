-- Filling the tree beside a deal (document 02, request (vii)): order 2, 11, 12.
use Rattle.std.specs.Prelude.{ℕ, List, length}
use Rattle.rules.specs.Refusals.{unless_refused}
use Rattle.sizes.specs.Sizes.{deal_level}
use Rattle.tree.specs.Filled.{filled}
use Rattle.lent.specs.LentDeal.{tree_deal, deal_refusal}

-- the tree afterwards: every inner node of the deal's tree, or as it was on a refusal
unfoldable pub filled_tree : List ℕ → List ℕ → List ℕ
filled_tree bytes tree =
    unless_refused (deal_refusal (tree_deal bytes tree)) (λ (code : ℕ). tree) (filled (deal_level (length bytes)) bytes)
