-- A year's calls (document 02, request (xiii)): "Over any run of bookings, cancellations and collections from an
-- all-zero deal, the deal and the house table changed by these calls alone (after a collection answered 0 the second
-- ones take their place), any tree buffer as (vii) asks". What a call is and what it leaves: DealCalls. What is said of
-- the history of these calls: History.
use Rattle.std.specs.Prelude.{◌≡◌, true, ℕ, List, [], ◌∷◌, length}
use Rattle.octets.specs.Bytes.{Bytes}
use Rattle.octets.specs.Splice.{part}
use Rattle.merkle.specs.Tree.{node_at}
use Rattle.sizes.specs.Sizes.{place_allowed, area}
use Rattle.entries.specs.Entry.{offset_in, size_in}
use Rattle.index.specs.Slots.{entry_at, slot_at, standing, kept}
use Rattle.index.specs.Written.{slot_of}
use Rattle.houses.specs.Houses.{owner_at}
use Rattle.booking.specs.Write.{area_bytes}
use Rattle.booking.specs.Booking.{book_answer}
use Rattle.cancel.specs.Cancel.{cancel_code}
use Rattle.demands.specs.Calls.{book_segment, cancel_place, DealAndTable}
use Rattle.demands.specs.DealCalls.{lent_beside, TreeAsAsked, DealCall, on_deal, collect_into, BookedIn}
use Rattle.demands.specs.DealCalls.{collecting_code, after_deal_call}
use Rattle.demands.specs.History.{Answered, booking, cancelling, collecting, answered_code, BookedSegment}

-- a call and what it is answered on a deal and a table
abbrev pub answered_call : DealCall → DealAndTable → Answered
answered_call (on_deal (book_segment house segment) tree) was =
    booking house segment (book_answer (lent_beside tree was.deal) was.table house segment)
answered_call (on_deal (cancel_place house place) tree) was =
    cancelling house place (cancel_code (lent_beside tree was.deal) was.table house place)
answered_call (collect_into second tree) was = collecting (collecting_code second tree was)

-- the history of calls in turn, each answered on what the earlier ones left
unfoldable pub history_of : DealAndTable → List DealCall → List Answered
history_of was [] = []
history_of was (call ∷ later) = answered_call call was ∷ history_of (after_deal_call call was) later

-- a call of a year: a tree that is lent to a booking or to a cancellation answered 0 is as (vii) asks. One that is lent
-- to a refused call, and the buffer beside a second deal, may hold anything and have any length
abbrev pub OfAYear : DealCall → DealAndTable → Type 0
OfAYear (on_deal call tree) was =
    answered_code (answered_call (on_deal call tree) was) ≡ 0 → TreeAsAsked tree was.deal
OfAYear (collect_into second tree) was = Unit {0}

-- a year's calls: each is such a call on what the earlier ones left
abbrev pub Year : DealAndTable → List DealCall → Type 0
Year was [] = Unit {0}
Year was (call ∷ later) = OfAYear call was × Year (after_deal_call call was) later

-- the segments of all bookings are bytes, as every lent buffer is
abbrev pub SegmentsAreBytes : List DealCall → Type 0
SegmentsAreBytes calls = (segment : List ℕ) → BookedIn calls segment → Bytes segment

-- slot i has a standing entry, and it is the house's
abbrev pub StandsFor : DealAndTable → ℕ → ℕ → Type 0
StandsFor now house i =
    (standing (length now.deal) (slot_at now.deal i) ≡ true) × (owner_at now.table i ≡ house)

-- its T, and the T bytes at its offset
abbrev pub size_at : List ℕ → ℕ → ℕ
size_at deal i = size_in (slot_at deal i)

abbrev pub segment_at : List ℕ → ℕ → List ℕ
segment_at deal i = part deal (offset_in (slot_at deal i)) (size_at deal i)

-- a booked segment is kept where the history says: at its entry place a kept entry of its house, with its offset and
-- its T; at its offset all A bytes, its own and zeros after them
pub record KeptThere (now : DealAndTable) (b : BookedSegment) : Type 0 where
  pub place_allowed_lem : place_allowed (length now.deal) b.place ≡ true
  pub is_kept_lem : kept (node_at now.deal) (length now.deal) (entry_at now.deal b.place) ≡ true
  pub owner_is : owner_at now.table (slot_of (length now.deal) b.place) ≡ b.house
  pub offset_is : offset_in (entry_at now.deal b.place) ≡ b.offset
  pub size_is : size_in (entry_at now.deal b.place) ≡ length b.segment
  pub segment_is : part now.deal b.offset (length b.segment) ≡ b.segment
  pub area_is : part now.deal b.offset (area (length b.segment)) ≡ area_bytes b.segment
