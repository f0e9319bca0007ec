-- Requests (viii) and (x), cancelling (document 02: "Cancelling an entry place writes 64 zero bytes there; .. Its slot
-- is then free for booking, and so are its bytes wherever no other standing entry covers them"; it sees "only one's own
-- entries, any other place of the index gets 16", and "clears" the slot's byte). When it answers 0:
-- crates/cancel/proofs/CancelLaws.antt, `cancels`. Any other code changes nothing (TreeForms.refused_cancelling).
use Rattle.std.specs.Prelude.{◌≡◌, Bool, true, false, ◌↔◌, ◌≢◌, ◌⊎◌, ℕ, suc, ◌+◌, ◌*◌, ◌≤◌, ◌<◌, List, length}
use Rattle.std.specs.Prelude.{replicate}
use Rattle.std.proofs.Common.{ap, ◌∙◌, ⊎_elim, arith, eqb-true}
use Rattle.rules.specs.RefusalLaws.{and_left, and_right, and_both, not_passed}
use Rattle.octets.specs.Splice.{part}
use Rattle.octets.specs.SpliceLaws.{part_before, part_after}
use Rattle.stray.specs.StrayBits.{no_stray_bits}
use Rattle.sizes.specs.Sizes.{area, entry_count, place_allowed, slot_place}
use Rattle.sizes.specs.SizesLaws.{entry_place}
use Rattle.entries.specs.Entry.{offset_in}
use Rattle.lent.specs.LentDeal.{LentDeal, lent_deal, deal_size, deal_refusal}
use Rattle.lent.specs.LentDealLaws.{refusal_none}
use Rattle.index.specs.Slots.{entry_at, slot_at, standing, kept_at, free, row_at}
use Rattle.index.specs.Written.{slot_of}
use Rattle.room.specs.Room.{fits}
use Rattle.ranges.specs.Ranges.{ranges_of}
use Rattle.houses.specs.Houses.{house_allowed, table_sized, owner_at, owned}
use Rattle.booking.specs.Booking.{keeps_segment, keeps_own, held_in, book_answer, booked_deal, booked_table}
use Rattle.booking.proofs.BookingLaws.{code_0}
use Rattle.cancel.specs.Cancel.{stands_own, cancel_code, cancelled_deal, cancelled_table}
use Rattle.cancel.proofs.CancelLaws as C
use Rattle.cancel.proofs.OwnerCancelLaws as O
use Rattle.demands.specs.Covers.{covers}
use Rattle.demands.proofs.CancelKeepLaws.{cancelled_keeps_other}
use Rattle.demands.proofs.CancelRoomLaws.{cancelled_room}
use Rattle.demands.proofs.HeldLaws.{cancelled_held, cancelled_held_other}
use Rattle.demands.proofs.BookAgainLaws as B

-- A house cancels a place of a deal, with a tree beside it or without one.
module _ (deal : LentDeal) (table : List ℕ) (house place : ℕ) where
  abbrev slot : ℕ
  slot = slot_of (deal_size deal) place

  -- Nothing that comes before 16 refuses: it is a house, the deal's size is allowed and so is the table's length, no
  -- node has stray bits, a tree has the length that the deal asks, and the place is one of the index.
  module _ (h : house_allowed house ≡ true) (d : deal_refusal deal ≡ 0) (t : table_sized (deal_size deal) table ≡ true)
      (p : place_allowed (deal_size deal) place ≡ true) where
    abbrev stands : Bool
    stands = standing (deal_size deal) (entry_at deal.bytes place)

    -- Then 0 is answered exactly if an entry of the house stands there, kept or not, ..
    pub own_gets_0 : (cancel_code deal table house place ≡ 0) ↔ (stands_own deal table house place ≡ true)
    own_gets_0 = (
      λ e.
          let c = (C.cancels deal table house place).0 e in
          and_both stands (owned table house slot) c.stands_there c.owned_there,
      λ own.
          (C.cancels deal table house place).1
          (record {
            house_allowed_lem = h;
            not_refused = d;
            table_sized_lem = t;
            place_allowed_lem = p;
            stands_there = and_left stands (owned table house slot) own;
            owned_there = and_right stands (owned table house slot) own;
          }),
    )

    -- .. and 16 exactly if none does.
    pub not_own_gets_16 : (cancel_code deal table house place ≡ 16) ↔ (stands_own deal table house place ≡ false)
    not_own_gets_16 = (
      λ e. not_passed (stands_own deal table house place) (λ own. omega (arith, e, own_gets_0.1 own)),
      O.not_own deal table house place h d t p,
    )

    -- So the entry of another, the other house's or nobody's, gets 16.
    pub others_entries_get_16 : owner_at table (slot_of (deal_size deal) place) ≢ house
        → cancel_code deal table house place ≡ 16
    others_entries_get_16 ne =
        not_own_gets_16.1
        (not_passed (stands_own deal table house place)
        (λ own. ne (eqb-true (owner_at table slot) house (and_right stands (owned table house slot) own))))

  -- It answered 0.
  module _ (e : cancel_code deal table house place ≡ 0) where
    -- Its slot is free, and the slot's byte of the table is 0.
    pub slot_is_free : row_at (cancelled_deal deal table house place) (slot_of (deal_size deal) place) ≡ free
    slot_is_free = C.cancelled_free deal table house place e

    pub owner_is_cleared : owner_at (cancelled_table deal table house place) (slot_of (deal_size deal) place) ≡ 0
    owner_is_cleared = O.cleared_owner deal table house place e

    -- The table is as long as it was, and every other byte of it is as it was.
    pub table_length_stays : length (cancelled_table deal table house place) ≡ length table
    table_length_stays = O.cancelled_table_length deal table house place

    pub other_owners_stay : (j : ℕ) → j ≢ slot_of (deal_size deal) place
        → owner_at (cancelled_table deal table house place) j ≡ owner_at table j
    other_owners_stay = O.cancelled_owner_other deal table house place

    -- The house holds one slot less, and any other as many as before.
    pub one_slot_given_back :
        held_in deal.bytes table house
        ≡ suc (held_in (cancelled_deal deal table house place) (cancelled_table deal table house place) house)
    one_slot_given_back = cancelled_held deal table house place e

    pub others_hold_the_same : (other : ℕ) → house ≢ other
        → held_in (cancelled_deal deal table house place) (cancelled_table deal table house place) other
        ≡ held_in deal.bytes table other
    others_hold_the_same = cancelled_held_other deal table house place e

    -- Every other slot's row is as it was, its entry is kept exactly if it was, and it keeps the segments that it kept.
    module _ (j : ℕ) (h : j < entry_count (deal_size deal)) (other : j ≢ slot_of (deal_size deal) place) where
      pub other_rows_stay : row_at (cancelled_deal deal table house place) j ≡ row_at deal.bytes j
      other_rows_stay = C.cancelled_row_other deal table house place j h other

      pub other_entries_stay_kept :
          kept_at (lent_deal (cancelled_deal deal table house place)) j ≡ kept_at (lent_deal deal.bytes) j
      other_entries_stay_kept = C.cancelled_kept_other deal table house place j h other

      pub other_segments_stay_kept : (segment : List ℕ)
          → keeps_segment (lent_deal (cancelled_deal deal table house place)) segment j
          ≡ keeps_segment (lent_deal deal.bytes) segment j
      other_segments_stay_kept segment = cancelled_keeps_other deal table house place e segment j h other

    -- All bytes but the 64 are as they were, those of the segment too.
    pub other_bytes_stay : (at n : ℕ) → at + n ≤ deal_size deal → (at + n ≤ place) ⊎ (place + 64 ≤ at)
        → part (cancelled_deal deal table house place) at n ≡ part deal.bytes at n
    other_bytes_stay at n h apart =
        let zeros : List ℕ = replicate 64 0 in
        let allowed = ((C.cancels deal table house place).0 e).place_allowed_lem in
        let sized = C.cancelled_sized deal table house place e in
        let within = (entry_place (deal_size deal) place sized allowed).in_deal in
        ap (λ (x : List ℕ). part x at n) (C.cancelled_at deal table house place e)
        ∙ ⊎_elim (λ before. part_before deal.bytes place zeros within at n before)
        (λ after. part_after deal.bytes place zeros within at n after h) apart

    -- No stray bits appear.
    pub no_stray_bits_appear : no_stray_bits (cancelled_deal deal table house place) ≡ true
    no_stray_bits_appear =
        C.cancelled_clear deal table house place
        (refusal_none deal ((C.cancels deal table house place).0 e).not_refused).1

    -- The n bytes from o are free for booking exactly where no other standing entry covers one of them.
    pub bytes_are_free : (n o : ℕ)
        → (fits (ranges_of (cancelled_deal deal table house place)) (entry_count (deal_size deal)) n o ≡ true)
        ↔ ((j : ℕ) → j < entry_count (deal_size deal) → j ≢ slot_of (deal_size deal) place
        → covers deal.bytes n o j ≡ false)
    bytes_are_free = cancelled_room deal table house place e

-- The same segment can be booked again. A house booked a segment with code 0: cancelling the place that was answered
-- answers 0 to that house, and booking the segment again then answers as the first time and leaves the deal and the
-- table that it left the first time.
pub booked_again : (deal table : List ℕ) (house : ℕ) (segment : List ℕ)
    → (book_answer (lent_deal deal) table house segment).code ≡ 0
    → let answer = book_answer (lent_deal deal) table house segment in
    let booked = booked_deal (lent_deal deal) table house segment in
    let owners = booked_table (lent_deal deal) table house segment in
    let cancelled = cancelled_deal (lent_deal booked) owners house answer.place in
    let cleared = cancelled_table (lent_deal booked) owners house answer.place in
    (cancel_code (lent_deal booked) owners house answer.place ≡ 0)
    × (book_answer (lent_deal cancelled) cleared house segment ≡ answer)
    × (booked_deal (lent_deal cancelled) cleared house segment ≡ booked)
    × (booked_table (lent_deal cancelled) cleared house segment ≡ owners)
booked_again deal table house segment z =
    let p = (code_0 (lent_deal deal) table house segment).0 z in (
      B.cancels_booked deal table house segment p.0 p.1 p.2,
      B.again_answer deal table house segment p.0 p.1 p.2,
      B.again_deal deal table house segment p.0 p.1 p.2,
      B.again_table deal table house segment p.0 p.1 p.2,
    )

-- In any deal: where slot i is a house's and keeps the segment, no other slot of the house does, no other standing
-- entry covers a byte of its area, and the house holds no more than half the slots, booking the segment answers 0 to
-- the house after it cancelled the place of slot i with 0.
pub cancelled_can_be_booked : (deal table : List ℕ) (house : ℕ) (segment : List ℕ) (i : ℕ)
    → i < entry_count (length deal) → keeps_own (lent_deal deal) table house segment i ≡ true
    → ((j : ℕ) → j < entry_count (length deal) → j ≢ i → keeps_own (lent_deal deal) table house segment j ≡ false)
    → ((j : ℕ) → j < entry_count (length deal) → j ≢ i
    → covers deal (area (length segment)) (offset_in (slot_at deal i)) j ≡ false)
    → 2 * held_in deal table house ≤ entry_count (length deal)
    → cancel_code (lent_deal deal) table house (slot_place (length deal) i) ≡ 0
    → (book_answer (lent_deal (cancelled_deal (lent_deal deal) table house (slot_place (length deal) i)))
    (cancelled_table (lent_deal deal) table house (slot_place (length deal) i)) house segment).code
    ≡ 0
cancelled_can_be_booked = B.cancelled_books
