use Rattle.std.proofs.Common.{refl, ◌∙◌}
use Rattle.lent.specs.LentDeal.{lent_deal}
use Rattle.room.specs.Decide.{booked_of}
use Rattle.std.specs.Prelude.{Ok}
use Rattle.booking.proofs.Outcome.{
  size_within,
  area_within,
  entry_within,
  deal_stays,
  table_stays,
  deal_is_written,
  owner_fits,
  table_is_written,
}
use Rattle.booking.proofs.booking.book.Goals as goal

-- no place
pub returns-in_err-segment-clause-deal_after : goal.returns-in_err-segment-clause-deal_after
returns-in_err-segment-clause-deal_after c =
    deal_stays (lent_deal c.args.deal.now) c.args.table.now c.args.house c.args.segment.now
    c.in_err-segment.field-0.0 c.in_err-segment.ensures.answer

pub returns-in_err-segment-clause-table_after : goal.returns-in_err-segment-clause-table_after
returns-in_err-segment-clause-table_after c =
    table_stays (lent_deal c.args.deal.now) c.args.table.now c.args.house c.args.segment.now
    c.in_err-segment.field-0.0 c.in_err-segment.ensures.answer

-- the segment is written
pub put-requires-clause-segment_len_bound : goal.put-requires-clause-segment_len_bound
put-requires-clause-segment_len_bound c =
    rw c.in_ok-segment.ensures.segment
    (size_within (lent_deal c.args.deal.now) c.args.table.now c.args.house c.args.segment.now
    (booked_of (Ok c.in_ok-segment.at)) c.in_ok-segment.ensures.answer refl)

pub put-requires-clause-segment_in_bounds : goal.put-requires-clause-segment_in_bounds
put-requires-clause-segment_in_bounds c =
    rw c.in_ok-segment.ensures.segment
    (area_within (lent_deal c.args.deal.now) c.args.table.now c.args.house c.args.segment.now
    (booked_of (Ok c.in_ok-segment.at)) c.in_ok-segment.ensures.answer refl)

pub put-requires-clause-place_in_bounds : goal.put-requires-clause-place_in_bounds
put-requires-clause-place_in_bounds c =
    entry_within (lent_deal c.args.deal.now) c.args.table.now c.args.house c.args.segment.now
    (booked_of (Ok c.in_ok-segment.at)) c.in_ok-segment.ensures.answer refl

pub put_owner-requires-clause-size_value : goal.put_owner-requires-clause-size_value
put_owner-requires-clause-size_value c =
    (owner_fits (lent_deal c.args.deal.now) c.args.table.now c.args.house c.args.segment.now c.in_ok-segment.at
    c.in_ok-segment.ensures.answer c.put.new.deal c.in_ok-segment.segment.commitment
    c.in_ok-segment.segment.bytes.now c.in_ok-segment.ensures.segment c.in_ok-segment.segment.committed
    c.put.ensures).0

pub put_owner-requires-clause-table_value : goal.put_owner-requires-clause-table_value
put_owner-requires-clause-table_value c =
    (owner_fits (lent_deal c.args.deal.now) c.args.table.now c.args.house c.args.segment.now c.in_ok-segment.at
    c.in_ok-segment.ensures.answer c.put.new.deal c.in_ok-segment.segment.commitment
    c.in_ok-segment.segment.bytes.now c.in_ok-segment.ensures.segment c.in_ok-segment.segment.committed
    c.put.ensures).1

pub returns-clause-deal_after : goal.returns-clause-deal_after
returns-clause-deal_after c =
    deal_is_written (lent_deal c.args.deal.now) c.args.table.now c.args.house c.args.segment.now c.in_ok-segment.at
    c.in_ok-segment.ensures.answer c.put.new.deal c.in_ok-segment.segment.commitment
    c.in_ok-segment.segment.bytes.now c.in_ok-segment.ensures.segment c.in_ok-segment.segment.committed c.put.ensures

pub returns-clause-table_after : goal.returns-clause-table_after
returns-clause-table_after c =
    c.put_owner.ensures
    ∙ table_is_written (lent_deal c.args.deal.now) c.args.table.now c.args.house c.args.segment.now
    c.in_ok-segment.at c.in_ok-segment.ensures.answer c.put.new.deal c.in_ok-segment.segment.commitment
    c.in_ok-segment.segment.bytes.now c.in_ok-segment.ensures.segment c.in_ok-segment.segment.committed c.put.ensures
