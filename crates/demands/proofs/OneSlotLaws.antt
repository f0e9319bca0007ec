-- A booked segment in its slot: the slot stands and takes up the segment's area. After a call that changes one slot, a
-- segment in any other slot is there as it was.
use Rattle.std.specs.Prelude.{◌≡◌, true, ◌≢◌, ℕ, ◌<◌, List, length}
use Rattle.std.proofs.Common.{sym, ap, ap₂, ◌∙◌, arith}
use Rattle.sizes.specs.Sizes.{area, entry_count, slot_place}
use Rattle.entries.specs.Entry.{offset_in}
use Rattle.lent.specs.LentDeal.{lent_deal}
use Rattle.index.specs.Slots.{slot_at, standing, row_of}
use Rattle.index.specs.Written.{slot_of}
use Rattle.index.specs.SlotWrittenLaws.{slot_back}
use Rattle.room.specs.Room.{range}
use Rattle.ranges.specs.Ranges.{row_range, ranges_of}
use Rattle.ranges.specs.RangesLaws.{range_stands}
use Rattle.houses.specs.Houses.{owner_at}
use Rattle.booking.specs.Booking.{keeps_segment}
use Rattle.booking.specs.KeepLaws.{keeps_parts, keeps_stands}
use Rattle.demands.specs.Calls.{DealAndTable}
use Rattle.demands.specs.History.{BookedSegment, range_booked}
use Rattle.demands.specs.Assured.{InSlot}

-- a booked segment in slot i
module _ {now : DealAndTable} {b : BookedSegment} {i : ℕ} (s : InSlot now b i) where
  abbrev entry : List ℕ
  entry = slot_at now.deal i

  pub in_slot_stands : standing (length now.deal) (slot_at now.deal i) ≡ true
  in_slot_stands = keeps_stands (lent_deal now.deal) b.segment i s.keeps_it

  pub in_slot_range : ranges_of now.deal i ≡ range_booked b
  in_slot_range =
      range_stands (length now.deal) entry in_slot_stands
      ∙ ap₂ (λ (o n : ℕ). range o (area n)) s.offset_is
      (keeps_parts (lent_deal now.deal) b.segment i s.keeps_it).1

  -- the slot at its entry place is i
  pub in_slot_of : slot_of (length now.deal) b.place ≡ i
  in_slot_of = ap (slot_of (length now.deal)) s.place_is ∙ slot_back (length now.deal) i

-- a deal and a table as they were but for slot k
pub record SameBut (k : ℕ) (was now : DealAndTable) : Type 0 where
  pub size_same : length now.deal ≡ length was.deal
  pub slot_same : (j : ℕ) → j < entry_count (length was.deal) → j ≢ k
      → slot_at now.deal j ≡ slot_at was.deal j
  pub owner_same : (j : ℕ) → j ≢ k → owner_at now.table j ≡ owner_at was.table j
  pub keeps_same : (segment : List ℕ) (j : ℕ) → j < entry_count (length was.deal) → j ≢ k
      → keeps_segment (lent_deal now.deal) segment j ≡ keeps_segment (lent_deal was.deal) segment j

module _ {k : ℕ} {was now : DealAndTable} (same : SameBut k was now) where
  pub slots_same : entry_count (length now.deal) ≡ entry_count (length was.deal)
  slots_same = ap entry_count same.size_same

  pub slot_was : (j : ℕ) → j < entry_count (length now.deal) → j < entry_count (length was.deal)
  slot_was j h = omega (arith, slots_same)

  module _ (j : ℕ) (h : j < entry_count (length was.deal)) (ne : j ≢ k) where
    pub standing_same :
        standing (length now.deal) (slot_at now.deal j) ≡ standing (length was.deal) (slot_at was.deal j)
    standing_same = ap₂ standing same.size_same (same.slot_same j h ne)

    pub range_same : ranges_of now.deal j ≡ ranges_of was.deal j
    range_same = ap₂ (λ (d : ℕ) (e : List ℕ). row_range (row_of d e)) same.size_same (same.slot_same j h ne)

  -- a booked segment in another slot
  pub in_slot_stays : (b : BookedSegment) (j : ℕ) → j ≢ k → InSlot was b j → InSlot now b j
  in_slot_stays b j ne s =
      record {
        slot_in = omega (arith, slots_same, s.slot_in);
        place_is = s.place_is ∙ ap (λ (d : ℕ). slot_place d j) (sym same.size_same);
        keeps_it = same.keeps_same b.segment j s.slot_in ne ∙ s.keeps_it;
        offset_is = ap offset_in (same.slot_same j s.slot_in ne) ∙ s.offset_is;
        owner_is = same.owner_same j ne ∙ s.owner_is;
      }
