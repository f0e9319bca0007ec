use Rattle.std.proofs.Common.{◌∙◌, arith}
use Rattle.lent.specs.LentDeal.{lent_deal}
use Rattle.cancel.proofs.Outcome.{deal_kept, table_kept, entry_within, owner_fits, deal_cancelled, table_cancelled}
use Rattle.cancel.proofs.cancel.Goals as goal

-- a refusal
pub returns-in_err-refusal-clause-deal_after : goal.returns-in_err-refusal-clause-deal_after
returns-in_err-refusal-clause-deal_after c =
    deal_kept (lent_deal c.args.deal.now) c.args.table.now c.args.house c.args.place c.in_err-refusal.field-0.0
    c.in_err-refusal.ensures

pub returns-in_err-refusal-clause-table_after : goal.returns-in_err-refusal-clause-table_after
returns-in_err-refusal-clause-table_after c =
    table_kept (lent_deal c.args.deal.now) c.args.table.now c.args.house c.args.place c.in_err-refusal.field-0.0
    c.in_err-refusal.ensures

-- the deal has zeros at the place
pub put_array-requires : goal.put_array-requires
put_array-requires c = (
  omega arith,
  entry_within (lent_deal c.args.deal.now) c.args.table.now c.args.house c.args.place c.in_ok-refusal.ensures,
)

pub put_owner-requires-clause-size_value : goal.put_owner-requires-clause-size_value
put_owner-requires-clause-size_value c =
    (owner_fits (lent_deal c.args.deal.now) c.args.table.now c.args.house c.args.place c.in_ok-refusal.ensures
    c.put_array.new.d c.put_array.ensures.0).0

pub put_owner-requires-clause-table_value : goal.put_owner-requires-clause-table_value
put_owner-requires-clause-table_value c =
    (owner_fits (lent_deal c.args.deal.now) c.args.table.now c.args.house c.args.place c.in_ok-refusal.ensures
    c.put_array.new.d c.put_array.ensures.0).1

pub returns-clause-deal_after : goal.returns-clause-deal_after
returns-clause-deal_after c =
    deal_cancelled (lent_deal c.args.deal.now) c.args.table.now c.args.house c.args.place c.in_ok-refusal.ensures
    c.put_array.new.d c.put_array.ensures.0

pub returns-clause-table_after : goal.returns-clause-table_after
returns-clause-table_after c =
    c.put_owner.ensures
    ∙ table_cancelled (lent_deal c.args.deal.now) c.args.table.now c.args.house c.args.place c.in_ok-refusal.ensures
    c.put_array.new.d c.put_array.ensures.0
