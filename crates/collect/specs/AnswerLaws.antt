-- What collection leaves, by its code: with 0 the second deal and the second table are the collected ones, and a tree
-- beside the second deal holds that one's inner nodes; with any other code all are as they were.
use Rattle.std.specs.Prelude.{◌≡◌, ◌≢◌, ℕ, List, length}
use Rattle.sizes.specs.Sizes.{deal_level}
use Rattle.tree.specs.Filled.{filled}
use Rattle.lent.specs.LentDeal.{LentDeal, tree_deal}
use Rattle.lent.specs.LentDealLaws.{answer_refused}
use Rattle.collect.specs.Collect.{
  collect_code,
  collected_deal,
  collected_table,
  second_deal,
  second_owners,
  second_tree,
}

module _ (deal table : List ℕ) (second : LentDeal) (second_table : List ℕ) where
  abbrev code : ℕ
  code = collect_code deal table second second_table

  pub deal_collected : collect_code deal table second second_table ≡ 0
      → second_deal deal table second second_table ≡ collected_deal deal
  unfolding second_deal
  deal_collected e = rw e

  pub deal_left : collect_code deal table second second_table ≢ 0
      → second_deal deal table second second_table ≡ second.bytes
  unfolding second_deal
  deal_left h = answer_refused (λ (k : ℕ). second.bytes) (collected_deal deal) code h

  pub owners_collected : collect_code deal table second second_table ≡ 0
      → second_owners deal table second second_table ≡ collected_table deal table
  unfolding second_owners
  owners_collected e = rw e

  pub owners_left : collect_code deal table second second_table ≢ 0
      → second_owners deal table second second_table ≡ second_table
  unfolding second_owners
  owners_left h = answer_refused (λ (k : ℕ). second_table) (collected_table deal table) code h

module _ (deal table second tree second_table : List ℕ) where
  pub tree_collected : collect_code deal table (tree_deal second tree) second_table ≡ 0
      → second_tree deal table second tree second_table ≡ filled (deal_level (length deal)) (collected_deal deal)
  unfolding second_tree
  tree_collected e = rw e

  pub tree_left : collect_code deal table (tree_deal second tree) second_table ≢ 0
      → second_tree deal table second tree second_table ≡ tree
  unfolding second_tree
  tree_left h =
      answer_refused (λ (k : ℕ). tree) (filled (deal_level (length deal)) (collected_deal deal))
      (collect_code deal table (tree_deal second tree) second_table) h
