use Rattle.std.proofs.Common.{refl, ap, ◌∙◌, ℕ, length, arith}
use Rattle.lent.specs.LentDeal.{tree_deal}
use Rattle.sizes.specs.Sizes.{area}
use Rattle.room.specs.Decide.{booked_of}
use Rattle.std.specs.Prelude.{Ok}
use Rattle.booking.specs.BookedTree.{renewed_for}
use Rattle.booking.proofs.Outcome.{
  size_within,
  area_within,
  entry_within,
  deal_stays,
  table_stays,
  deal_is_written,
  new_within,
  tree_kept,
  new_usable,
  tree_renewed,
  owner_fits,
  table_is_written,
}
use Rattle.booking.proofs.booking.book_with_tree.Goals as goal

-- no place
pub returns-in_err-segment-clause-deal_after : goal.returns-in_err-segment-clause-deal_after
returns-in_err-segment-clause-deal_after c =
    deal_stays (tree_deal c.args.deal.now c.args.tree.now) c.args.table.now c.args.house c.args.segment.now
    c.in_err-segment.field-0.0 c.in_err-segment.ensures.answer

pub returns-in_err-segment-clause-table_after : goal.returns-in_err-segment-clause-table_after
returns-in_err-segment-clause-table_after c =
    table_stays (tree_deal c.args.deal.now c.args.tree.now) c.args.table.now c.args.house c.args.segment.now
    c.in_err-segment.field-0.0 c.in_err-segment.ensures.answer

-- the segment is written
pub put-requires-clause-segment_len_bound : goal.put-requires-clause-segment_len_bound
put-requires-clause-segment_len_bound c =
    rw c.in_ok-segment.ensures.segment
    (size_within (tree_deal c.args.deal.now c.args.tree.now) c.args.table.now c.args.house c.args.segment.now
    (booked_of (Ok c.in_ok-segment.at)) c.in_ok-segment.ensures.answer refl)

pub put-requires-clause-segment_in_bounds : goal.put-requires-clause-segment_in_bounds
put-requires-clause-segment_in_bounds c =
    rw c.in_ok-segment.ensures.segment
    (area_within (tree_deal c.args.deal.now c.args.tree.now) c.args.table.now c.args.house c.args.segment.now
    (booked_of (Ok c.in_ok-segment.at)) c.in_ok-segment.ensures.answer refl)

pub put-requires-clause-place_in_bounds : goal.put-requires-clause-place_in_bounds
put-requires-clause-place_in_bounds c =
    entry_within (tree_deal c.args.deal.now c.args.tree.now) c.args.table.now c.args.house c.args.segment.now
    (booked_of (Ok c.in_ok-segment.at)) c.in_ok-segment.ensures.answer refl

pub put_owner-requires-clause-size_value : goal.put_owner-requires-clause-size_value
put_owner-requires-clause-size_value c =
    (owner_fits (tree_deal c.args.deal.now c.args.tree.now) c.args.table.now c.args.house c.args.segment.now
    c.in_ok-segment.at
    c.in_ok-segment.ensures.answer c.put.new.deal c.in_ok-segment.segment.commitment
    c.in_ok-segment.segment.bytes.now c.in_ok-segment.ensures.segment c.in_ok-segment.segment.committed
    c.put.ensures).0

pub put_owner-requires-clause-table_value : goal.put_owner-requires-clause-table_value
put_owner-requires-clause-table_value c =
    (owner_fits (tree_deal c.args.deal.now c.args.tree.now) c.args.table.now c.args.house c.args.segment.now
    c.in_ok-segment.at
    c.in_ok-segment.ensures.answer c.put.new.deal c.in_ok-segment.segment.commitment
    c.in_ok-segment.segment.bytes.now c.in_ok-segment.ensures.segment c.in_ok-segment.segment.committed
    c.put.ensures).1

pub returns-clause-deal_after : goal.returns-clause-deal_after
returns-clause-deal_after c =
    deal_is_written (tree_deal c.args.deal.now c.args.tree.now) c.args.table.now c.args.house c.args.segment.now
    c.in_ok-segment.at
    c.in_ok-segment.ensures.answer c.put.new.deal c.in_ok-segment.segment.commitment
    c.in_ok-segment.segment.bytes.now c.in_ok-segment.ensures.segment c.in_ok-segment.segment.committed c.put.ensures

pub returns-clause-table_after : goal.returns-clause-table_after
returns-clause-table_after c =
    c.put_owner.ensures
    ∙ table_is_written (tree_deal c.args.deal.now c.args.tree.now) c.args.table.now c.args.house c.args.segment.now
    c.in_ok-segment.at c.in_ok-segment.ensures.answer c.put.new.deal c.in_ok-segment.segment.commitment
    c.in_ok-segment.segment.bytes.now c.in_ok-segment.ensures.segment c.in_ok-segment.segment.committed c.put.ensures

-- the tree
pub returns-in_err-segment-clause-tree_after : goal.returns-in_err-segment-clause-tree_after
returns-in_err-segment-clause-tree_after c =
    tree_kept c.args.deal.now c.args.tree.now c.args.table.now c.args.house c.args.segment.now
    c.in_err-segment.field-0.0 c.in_err-segment.ensures.answer

pub renew_written-requires-clause-usable : goal.renew_written-requires-clause-usable
renew_written-requires-clause-usable c =
    let beside = tree_deal c.args.deal.now c.args.tree.now in
    new_usable c.args.deal.now c.args.tree.now c.args.table.now c.args.house c.args.segment.now c.in_ok-segment.at
    c.in_ok-segment.ensures.answer c.put.new.deal
    (deal_is_written beside c.args.table.now c.args.house c.args.segment.now c.in_ok-segment.at
    c.in_ok-segment.ensures.answer c.put.new.deal c.in_ok-segment.segment.commitment
    c.in_ok-segment.segment.bytes.now c.in_ok-segment.ensures.segment c.in_ok-segment.segment.committed c.put.ensures)

pub renew_written-requires-clause-within : goal.renew_written-requires-clause-within
renew_written-requires-clause-within c =
    let beside = tree_deal c.args.deal.now c.args.tree.now in
    let within = new_within beside c.args.table.now c.args.house c.args.segment.now c.in_ok-segment.at
    c.in_ok-segment.ensures.answer c.put.new.deal c.in_ok-segment.segment.commitment
    c.in_ok-segment.segment.bytes.now c.in_ok-segment.ensures.segment c.in_ok-segment.segment.committed
    c.put.ensures in
    let size = c.area.ensures ∙ ap (λ s. area (length s)) c.in_ok-segment.ensures.segment in
    (omega (arith, size, within.0), omega (arith, size, within.1), within.2)

pub returns-clause-tree_after : goal.returns-clause-tree_after
returns-clause-tree_after c =
    let beside = tree_deal c.args.deal.now c.args.tree.now in
    let at = c.in_ok-segment.at in
    let size = c.area.ensures ∙ ap (λ s. area (length s)) c.in_ok-segment.ensures.segment in
    c.renew_written.ensures
    ∙ ap (λ (n : ℕ). renewed_for c.put.new.deal c.args.tree.now at.offset n at.place) size
    ∙ tree_renewed c.args.deal.now c.args.tree.now c.args.table.now c.args.house c.args.segment.now at
    c.in_ok-segment.ensures.answer c.put.new.deal
    (deal_is_written beside c.args.table.now c.args.house c.args.segment.now at c.in_ok-segment.ensures.answer
    c.put.new.deal c.in_ok-segment.segment.commitment c.in_ok-segment.segment.bytes.now
    c.in_ok-segment.ensures.segment c.in_ok-segment.segment.committed c.put.ensures)
