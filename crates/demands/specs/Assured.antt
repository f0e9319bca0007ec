-- The one invariant of request (xiii): what every call of a year leaves true of the deal and the table, and of what the
-- history says is booked (AssuredLaws.year_assured).
use Rattle.std.specs.Prelude.{◌≡◌, true, ℕ, ◌<◌, List, length}
use Rattle.sizes.specs.Sizes.{entry_count, slot_place}
use Rattle.entries.specs.Entry.{offset_in}
use Rattle.lent.specs.LentDeal.{lent_deal}
use Rattle.index.specs.Slots.{slot_at, standing}
use Rattle.room.specs.Room.{Range}
use Rattle.ranges.specs.Ranges.{ranges_of}
use Rattle.houses.specs.Houses.{owner_at}
use Rattle.packing.specs.Total.{total}
use Rattle.booking.specs.Booking.{keeps_segment}
use Rattle.demands.specs.Calls.{DealAndTable}
use Rattle.demands.specs.Sound.{Sound}
use Rattle.demands.specs.History.{BookedSegment, range_booked, Among, sum_of}
use Rattle.demands.specs.Year.{StandsFor, size_at, segment_at}

-- a booked segment is in a slot: the slot keeps it, with its zeros, for its house and at its offset
pub record InSlot (now : DealAndTable) (b : BookedSegment) (i : ℕ) : Type 0 where
  pub slot_in : i < entry_count (length now.deal)
  pub place_is : b.place ≡ slot_place (length now.deal) i
  pub keeps_it : keeps_segment (lent_deal now.deal) b.segment i ≡ true
  pub offset_is : offset_in (slot_at now.deal i) ≡ b.offset
  pub owner_is : owner_at now.table i ≡ b.house

-- no house has two standing entries with equal T and equal T bytes
abbrev pub NoTwoAlike : DealAndTable → Type 0
NoTwoAlike now =
    (house i j : ℕ) → i < entry_count (length now.deal) → j < entry_count (length now.deal)
    → StandsFor now house i → StandsFor now house j → size_at now.deal i ≡ size_at now.deal j
    → segment_at now.deal i ≡ segment_at now.deal j → i ≡ j

pub record Assured (bookings : List BookedSegment) (now : DealAndTable) : Type 0 where
  pub sound : Sound now.deal
  pub no_two : NoTwoAlike now
  -- every booked segment is in a slot, and whatever stands is booked
  pub each_kept : (b : BookedSegment) → Among b bookings → (i : ℕ) × InSlot now b i
  pub all_booked : (i : ℕ) → i < entry_count (length now.deal)
      → standing (length now.deal) (slot_at now.deal i) ≡ true
      → (b : BookedSegment) × Among b bookings × InSlot now b i
  -- the booked segments take up the bytes that the slots take up, each as often: any number that a range has sums up
  -- alike over both, those without bytes having 0
  pub same_sums : (number : Range → ℕ) → ((r : Range) → r.area ≡ 0 → number r ≡ 0)
      → sum_of (λ b. number (range_booked b)) bookings
      ≡ total (λ i. number (ranges_of now.deal i)) (entry_count (length now.deal))
