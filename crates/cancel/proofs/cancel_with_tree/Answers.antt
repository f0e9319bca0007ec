use Rattle.std.proofs.Common.{◌∙◌, arith}
use Rattle.lent.specs.LentDeal.{tree_deal}
use Rattle.cancel.proofs.Outcome.{deal_kept, table_kept, entry_within, owner_fits, deal_cancelled, table_cancelled}
use Rattle.cancel.proofs.Outcome.{tree_kept, new_within, new_usable, tree_renewed}
use Rattle.cancel.proofs.cancel_with_tree.Goals as goal

-- a refusal
pub returns-in_err-refusal-clause-deal_after : goal.returns-in_err-refusal-clause-deal_after
returns-in_err-refusal-clause-deal_after c =
    deal_kept (tree_deal c.args.deal.now c.args.tree.now) c.args.table.now c.args.house c.args.place
    c.in_err-refusal.field-0.0
    c.in_err-refusal.ensures

pub returns-in_err-refusal-clause-table_after : goal.returns-in_err-refusal-clause-table_after
returns-in_err-refusal-clause-table_after c =
    table_kept (tree_deal c.args.deal.now c.args.tree.now) c.args.table.now c.args.house c.args.place
    c.in_err-refusal.field-0.0
    c.in_err-refusal.ensures

-- the deal has zeros at the place
pub put_array-requires : goal.put_array-requires
put_array-requires c = (
  omega arith,
  entry_within (tree_deal c.args.deal.now c.args.tree.now) c.args.table.now c.args.house c.args.place
      c.in_ok-refusal.ensures,
)

pub put_owner-requires-clause-size_value : goal.put_owner-requires-clause-size_value
put_owner-requires-clause-size_value c =
    (owner_fits (tree_deal c.args.deal.now c.args.tree.now) c.args.table.now c.args.house c.args.place
    c.in_ok-refusal.ensures
    c.put_array.new.d c.put_array.ensures.0).0

pub put_owner-requires-clause-table_value : goal.put_owner-requires-clause-table_value
put_owner-requires-clause-table_value c =
    (owner_fits (tree_deal c.args.deal.now c.args.tree.now) c.args.table.now c.args.house c.args.place
    c.in_ok-refusal.ensures
    c.put_array.new.d c.put_array.ensures.0).1

pub returns-clause-deal_after : goal.returns-clause-deal_after
returns-clause-deal_after c =
    deal_cancelled (tree_deal c.args.deal.now c.args.tree.now) c.args.table.now c.args.house c.args.place
    c.in_ok-refusal.ensures
    c.put_array.new.d c.put_array.ensures.0

pub returns-clause-table_after : goal.returns-clause-table_after
returns-clause-table_after c =
    c.put_owner.ensures
    ∙ table_cancelled (tree_deal c.args.deal.now c.args.tree.now) c.args.table.now c.args.house c.args.place
    c.in_ok-refusal.ensures
    c.put_array.new.d c.put_array.ensures.0

-- the tree
pub returns-in_err-refusal-clause-tree_after : goal.returns-in_err-refusal-clause-tree_after
returns-in_err-refusal-clause-tree_after c =
    tree_kept c.args.deal.now c.args.tree.now c.args.table.now c.args.house c.args.place c.in_err-refusal.field-0.0
    c.in_err-refusal.ensures

pub renew_tree-requires-clause-usable : goal.renew_tree-requires-clause-usable
renew_tree-requires-clause-usable c =
    new_usable c.args.deal.now c.args.tree.now c.args.table.now c.args.house c.args.place c.in_ok-refusal.ensures
    c.put_array.new.d c.put_array.ensures.0

pub renew_tree-requires-clause-len_nonzero : goal.renew_tree-requires-clause-len_nonzero
renew_tree-requires-clause-len_nonzero c = (
  omega arith,
  new_within (tree_deal c.args.deal.now c.args.tree.now) c.args.table.now c.args.house c.args.place
      c.in_ok-refusal.ensures c.put_array.new.d c.put_array.ensures.0,
)

pub returns-clause-tree_after : goal.returns-clause-tree_after
returns-clause-tree_after c =
    c.renew_tree.ensures
    ∙ tree_renewed c.args.deal.now c.args.tree.now c.args.table.now c.args.house c.args.place c.in_ok-refusal.ensures
    c.put_array.new.d c.put_array.ensures.0
