-- Deal and table after a booking: with a place the segment is written there, and the slot is the house's; whatever the
-- code, the lengths are as they were, and deal and table of bytes stay so.
use Rattle.std.specs.Prelude.{◌≡◌, ◌≢◌, ℕ, ◌<◌, List, length}
use Rattle.std.proofs.Math.Path.{refl}
use Rattle.std.proofs.Common.{sym, ap, ◌∙◌, arith}
use Rattle.octets.specs.Bytes.{Bytes}
use Rattle.sizes.specs.Sizes.{area}
use Rattle.lent.specs.LentDeal.{LentDeal, deal_size}
use Rattle.index.specs.Slots.{slot_at}
use Rattle.room.specs.Room.{overlaps}
use Rattle.room.specs.DecideLaws.{Places}
use Rattle.room.specs.Decide.{Decision}
use Rattle.room.specs.Decide.{Refuse, Already, Place}
use Rattle.ranges.specs.Ranges.{ranges_of}
use Rattle.ranges.specs.RangesLaws.{range_stands, empty_free}
use Rattle.houses.specs.Houses.{owner_at, with_owner}
use Rattle.houses.specs.HousesLaws.{with_owner_length, owner_here, owner_other, with_owner_bytes}
use Rattle.booking.specs.Write.{written_deal}
use Rattle.booking.specs.WriteLaws.{Fits, written_length, written_bytes_lem}
use Rattle.booking.specs.Booking.{decision, deal_after, table_after, booked_deal, booked_table}
use Rattle.booking.specs.BookableLaws.{bookable_deal, bookable_plain, table_length_lem, house_byte}
use Rattle.booking.specs.Outcomes.{Unkept}
use Rattle.booking.proofs.BookingLaws.{books, deal_is, table_is}

module _ (deal : LentDeal) (table : List ℕ) (house : ℕ) (segment : List ℕ) (i o : ℕ)
    (e : decision deal table house segment ≡ Place i o) where
  pub booked_unkept : Unkept deal table house segment
  booked_unkept = ((books deal table house segment i o).0 e).0

  booked_places : Places (deal_size deal) (ranges_of deal.bytes) (area (length segment)) i o
  booked_places = ((books deal table house segment i o).0 e).2

  pub booked_fits : Fits deal.bytes segment i o
  booked_fits =
      let d = deal_size deal in
      let p = booked_places in
      let b = booked_unkept.bookable.bookable in
      record {
        bookable = bookable_plain b;
        slot_in = omega (arith, p.free_slot.below);
        slot_free = empty_free d (slot_at deal.bytes i) (bookable_deal b).deal p.free_slot.passes;
        aligned = p.free_place.aligned;
        ends = p.free_place.ends;
        apart = λ j h s.
            ap (overlaps o (area (length segment))) (sym (range_stands d (slot_at deal.bytes j) s))
            ∙ p.free_place.apart j h;
      }

  pub booked_is : booked_deal deal table house segment ≡ written_deal deal.bytes segment i o
  booked_is = deal_is deal table house segment (Place i o) e

  -- the table: the slot's byte is the house, and every other byte is as it was
  pub booked_table_is : booked_table deal table house segment ≡ with_owner table i house
  booked_table_is = table_is deal table house segment (Place i o) e

  pub booked_slot_in : i < length table
  booked_slot_in = omega (arith, booked_fits.slot_in, table_length_lem booked_unkept.bookable)

  pub booked_owner : owner_at (booked_table deal table house segment) i ≡ house
  booked_owner = ap (λ (t : List ℕ). owner_at t i) booked_table_is ∙ owner_here table i house booked_slot_in

  pub booked_owner_other : (j : ℕ) → j ≢ i → owner_at (booked_table deal table house segment) j ≡ owner_at table j
  booked_owner_other j ne =
      ap (λ (t : List ℕ). owner_at t j) booked_table_is ∙ owner_other table i house booked_slot_in j ne

module _ (deal : LentDeal) (table : List ℕ) (house : ℕ) (segment : List ℕ) where
  -- whatever the code: deal and table are as they were, or the segment is written and its slot is the house's
  pub by_booking : (P : List ℕ → List ℕ → Type 0) → P deal.bytes table
      → ((i o : ℕ) → decision deal table house segment ≡ Place i o
      → P (written_deal deal.bytes segment i o) (with_owner table i house))
      → P (booked_deal deal table house segment) (booked_table deal table house segment)
  unfolding booked_deal booked_table
  by_booking P same written = by_cases (decision deal table house segment) refl
    where
      by_cases : (x : Decision) → decision deal table house segment ≡ x
          → P (deal_after deal.bytes segment x) (table_after table house x)
      by_cases (Refuse c) e = same
      by_cases (Already i) e = same
      by_cases (Place i o) e = written i o e

  pub booked_length : length (booked_deal deal table house segment) ≡ deal_size deal
  booked_length =
      by_booking (λ x y. length x ≡ deal_size deal) refl
      (λ i o e. written_length (booked_fits deal table house segment i o e))

  pub booked_bytes : Bytes deal.bytes → Bytes segment → Bytes (booked_deal deal table house segment)
  booked_bytes b c =
      by_booking (λ x y. Bytes x) b (λ i o e. written_bytes_lem (booked_fits deal table house segment i o e) b c)

  pub booked_table_length : length (booked_table deal table house segment) ≡ length table
  booked_table_length =
      by_booking (λ x y. length y ≡ length table) refl
      (λ i o e. with_owner_length table i house (booked_slot_in deal table house segment i o e))

  pub booked_table_bytes : Bytes table → Bytes (booked_table deal table house segment)
  booked_table_bytes b =
      by_booking (λ x y. Bytes y) b
      (λ i o e.
      with_owner_bytes table i house b (house_byte (booked_unkept deal table house segment i o e).bookable))
