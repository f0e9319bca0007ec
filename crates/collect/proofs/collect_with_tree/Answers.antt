use Rattle.std.proofs.Common.{◌≡◌, ◌≢◌, sym, ap, ap₂, ◌∙◌, ℕ, ◌*◌, ◌^◌, ◌≤◌, arith, length}
use Rattle.rules.specs.Answers.{number}
use Rattle.rules.specs.AnswerLaws.{number_some}
use Rattle.rules.specs.declared.Refusal.{Refusal}
use Rattle.sizes.specs.Sizes.{deal_level}
use Rattle.tree.specs.Filled.{filled}
use Rattle.tree.specs.TreeNodes.{SizedFor}
use Rattle.tree.specs.TreeNodesLaws.{sized_of_test}
use Rattle.lent.specs.LentDeal.{tree_deal}
use Rattle.collect.specs.AnswerLaws.{
  deal_collected,
  deal_left,
  owners_collected,
  owners_left,
  tree_collected,
  tree_left,
}
use Rattle.collect.proofs.CodeLaws.{collects}
use Rattle.collect.proofs.Outcome.{movable, same_length, new_lent}
use Rattle.collect.proofs.collect_with_tree.Goals as goal

-- something refuses
refused : {code : ℕ} (r : Refusal) → number r ≡ code → code ≢ 0
refused r e z = let s = number_some r in omega arith

pub returns-in_err-refusal-clause-second_after : goal.returns-in_err-refusal-clause-second_after
returns-in_err-refusal-clause-second_after c =
    let a = c.args in
    sym (deal_left a.deal.now a.table.now (tree_deal a.second.now a.tree.now) a.second_table.now (refused _ c.in_err-refusal.ensures))

pub returns-in_err-refusal-clause-second_table_after : goal.returns-in_err-refusal-clause-second_table_after
returns-in_err-refusal-clause-second_table_after c =
    let a = c.args in
    sym (owners_left a.deal.now a.table.now (tree_deal a.second.now a.tree.now) a.second_table.now (refused _ c.in_err-refusal.ensures))

pub write_new-requires : goal.write_new-requires
write_new-requires c =
    let a = c.args in
    movable a.deal.now a.table.now (tree_deal a.second.now a.tree.now) a.second_table.now
    ((collects a.deal.now a.table.now (tree_deal a.second.now a.tree.now) a.second_table.now).0 (sym c.in_ok-refusal.ensures))

pub returns-clause-second_after : goal.returns-clause-second_after
returns-clause-second_after c =
    let a = c.args in
    c.write_new.ensures.deal_written
    ∙ sym (deal_collected a.deal.now a.table.now (tree_deal a.second.now a.tree.now) a.second_table.now (sym c.in_ok-refusal.ensures))

pub returns-clause-second_table_after : goal.returns-clause-second_table_after
returns-clause-second_table_after c =
    let a = c.args in
    c.write_new.ensures.table_written
    ∙ sym (owners_collected a.deal.now a.table.now (tree_deal a.second.now a.tree.now) a.second_table.now (sym c.in_ok-refusal.ensures))

-- the tree
pub returns-in_err-refusal-clause-tree_after : goal.returns-in_err-refusal-clause-tree_after
returns-in_err-refusal-clause-tree_after c =
    let a = c.args in
    sym (tree_left a.deal.now a.table.now a.second.now a.tree.now a.second_table.now (refused _ c.in_err-refusal.ensures))

pub deal_level-requires : goal.deal_level-requires
deal_level-requires c =
    let a = c.args in
    let m = movable a.deal.now a.table.now (tree_deal a.second.now a.tree.now) a.second_table.now
    ((collects a.deal.now a.table.now (tree_deal a.second.now a.tree.now) a.second_table.now).0
    (sym c.in_ok-refusal.ensures)) in
    (new_lent m c.write_new.ensures.deal_written).allowed

pub fill-requires : goal.fill-requires
fill-requires c =
    let a = c.args in
    let here = (collects a.deal.now a.table.now (tree_deal a.second.now a.tree.now) a.second_table.now).0
    (sym c.in_ok-refusal.ensures) in
    let m = movable a.deal.now a.table.now (tree_deal a.second.now a.tree.now) a.second_table.now here in
    let same = same_length m c.write_new.ensures.deal_written in
    let size = (new_lent m c.write_new.ensures.deal_written).deal in
    let low : 512 ≤ length c.write_new.new.second = size.size_low in
    let sized : SizedFor a.second.now a.tree.now =
    sized_of_test a.second.now a.tree.now (omega (arith, here.second_length)) here.tree_sized_lem in (
      size.is_power_lem ∙ ap (λ (n : ℕ). 32 * 2 ^ n) (sym c.deal_level.ensures),
      omega (arith, here.second_length),
    )

pub returns-clause-tree_after : goal.returns-clause-tree_after
returns-clause-tree_after c =
    let a = c.args in
    let code = sym c.in_ok-refusal.ensures in
    let m = movable a.deal.now a.table.now (tree_deal a.second.now a.tree.now) a.second_table.now
    ((collects a.deal.now a.table.now (tree_deal a.second.now a.tree.now) a.second_table.now).0 code) in
    let same = same_length m c.write_new.ensures.deal_written in
    c.fill.ensures
    ∙ ap₂ filled (c.deal_level.ensures ∙ ap deal_level same) c.write_new.ensures.deal_written
    ∙ sym (tree_collected a.deal.now a.table.now a.second.now a.tree.now a.second_table.now code)
