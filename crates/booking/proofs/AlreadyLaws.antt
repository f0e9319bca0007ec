-- When booking answers 15 to a house: for a segment that a slot of the house keeps, for one that it just booked, and
-- still after a booking of any other by either house.
use Rattle.std.specs.Prelude.{◌≡◌, false, ◌≢◌, ℕ, ◌<◌, List, length}
use Rattle.std.proofs.Common.{sym, ap, ap₂, ◌∙◌, true≢false, arith}
use Rattle.std.proofs.Math.Decide.{ℕ_discrete}
use Rattle.rules.specs.RefusalLaws.{not_passed}
use Rattle.sizes.specs.Sizes.{entry_count, slot_place}
use Rattle.entries.specs.Entry.{offset_in}
use Rattle.lent.specs.LentDeal.{LentDeal, lent_deal, deal_size}
use Rattle.index.specs.Slots.{slot_at}
use Rattle.room.specs.Room.{Range}
use Rattle.room.specs.Decide.{Already, Place}
use Rattle.ranges.specs.RangesLaws.{range_stands}
use Rattle.houses.specs.Houses.{with_owner}
use Rattle.booking.specs.Write.{written_deal}
use Rattle.booking.specs.WriteLaws.{Fits, written_length, slot_same, offset_written, stands_elsewhere}
use Rattle.booking.specs.OwnLaws.{own_stands, own_written, own_only, own_same, bookable_for_stays}
use Rattle.booking.specs.Booking.{keeps_own, decision, book_answer, booked_deal, booked_table}
use Rattle.booking.specs.Outcomes.{KeptAt, answer15}
use Rattle.booking.proofs.BookingLaws.{kept_already, answer_is, code_15}
use Rattle.booking.proofs.BookedLaws.{booked_unkept, booked_fits, booked_is, booked_table_is, booked_slot_in}

-- is that of the house's lowest slot that keeps the segment
module _ (deal : LentDeal) (table : List ℕ) (house : ℕ) (segment : List ℕ) where
  pub kept_answer : (i : ℕ) → KeptAt deal table house segment i
      → book_answer deal table house segment ≡ answer15 deal.bytes i
  kept_answer i a =
      answer_is deal table house segment (Already i) ((kept_already deal table house segment i).1 a)
      ∙ ap (λ (r : Range). record { code = 15; offset = r.offset; place = slot_place (deal_size deal) i })
      (range_stands (deal_size deal) (slot_at deal.bytes i)
      (own_stands deal table house segment i a.lowest_keeping_lem.passes))

  pub answer_kept : (book_answer deal table house segment).code ≡ 15 → (i : ℕ) × KeptAt deal table house segment i
  answer_kept h =
      let p = (code_15 deal table house segment).0 h in (p.0, (kept_already deal table house segment p.0).0 p.1)

-- a segment that a house just booked is kept in its slot
module _ (deal table : List ℕ) (house : ℕ) (segment : List ℕ) (i o : ℕ)
    (e : decision (lent_deal deal) table house segment ≡ Place i o) where
  fits : Fits deal segment i o
  fits = booked_fits (lent_deal deal) table house segment i o e

  in_table : i < length table
  in_table = booked_slot_in (lent_deal deal) table house segment i o e

  written_kept : KeptAt (lent_deal (written_deal deal segment i o)) (with_owner table i house) house segment i
  written_kept =
      let slots : entry_count (length (written_deal deal segment i o)) ≡ entry_count (length deal) =
      ap entry_count (written_length fits) in
      let slot_in = fits.slot_in in
      let unkept = booked_unkept (lent_deal deal) table house segment i o e in
      record {
        bookable = bookable_for_stays fits table house in_table house segment unkept.bookable;
        lowest_keeping_lem = record {
          from = omega arith;
          below = omega arith;
          passes = own_written fits table house in_table;
          first = λ j f g.
              own_same fits table house in_table house segment j (omega arith) (λ s. omega arith)
              ∙ unkept.none_keeps j (omega arith);
        };
      }

  pub booked_kept :
      KeptAt (lent_deal (booked_deal (lent_deal deal) table house segment))
      (booked_table (lent_deal deal) table house segment) house segment i
  booked_kept =
      rw (
        booked_is (lent_deal deal) table house segment i o e,
        booked_table_is (lent_deal deal) table house segment i o e,
      )
      written_kept

  pub booked_offset : offset_in (slot_at (booked_deal (lent_deal deal) table house segment) i) ≡ o
  booked_offset =
      ap (λ (x : List ℕ). offset_in (slot_at x i)) (booked_is (lent_deal deal) table house segment i o e)
      ∙ offset_written fits

-- one booking, by either house and of whatever segment, later: a segment that a house keeps is kept in its slot, which
-- holds the same entry
module _ (deal table : List ℕ) (house : ℕ) (segment : List ℕ) (other_house : ℕ) (other : List ℕ) (i k o : ℕ)
    (a : KeptAt (lent_deal deal) table house segment i)
    (e : decision (lent_deal deal) table other_house other ≡ Place k o) where
  room : Fits deal other k o
  room = booked_fits (lent_deal deal) table other_house other k o e

  new_in : k < length table
  new_in = booked_slot_in (lent_deal deal) table other_house other k o e

  abbrev after : List ℕ
  after = written_deal deal other k o

  abbrev table_now : List ℕ
  table_now = with_owner table k other_house

  slot_in : i < entry_count (length deal)
  slot_in = omega (arith, a.lowest_keeping_lem.below)

  not_the_new : i ≢ k
  not_the_new =
      stands_elsewhere room i (own_stands (lent_deal deal) table house segment i a.lowest_keeping_lem.passes)

  -- the new slot keeps another segment or is the other house's: this house did not book this segment again
  new_keeps_other : keeps_own (lent_deal after) table_now house segment k ≡ false
  new_keeps_other =
      not_passed (keeps_own (lent_deal after) table_now house segment k)
      (λ t.
      let p = own_only room table other_house new_in house segment t in
      true≢false
      (sym a.lowest_keeping_lem.passes
      ∙ ap₂ (λ (h : ℕ) (x : List ℕ). keeps_own (lent_deal deal) table h x i) (sym p.0) (sym p.1)
      ∙ (booked_unkept (lent_deal deal) table other_house other k o e).none_keeps i slot_in))

  lower_keep_none : (j : ℕ) → j < i → keeps_own (lent_deal after) table_now house segment j ≡ false
  lower_keep_none j h =
      let h' = slot_in in
      elim (ℕ_discrete j k) [
        | yes new ↦ ap (keeps_own (lent_deal after) table_now house segment) new ∙ new_keeps_other
        | no old ↦
            own_same room table other_house new_in house segment j (omega arith) old
            ∙ a.lowest_keeping_lem.first j (omega arith) h
      ]

  after_kept : KeptAt (lent_deal after) table_now house segment i
  after_kept =
      record {
        bookable = bookable_for_stays room table other_house new_in house segment a.bookable;
        lowest_keeping_lem = record {
          from = omega arith;
          below = omega (arith, slot_in, ap entry_count (written_length room));
          passes =
              own_same room table other_house new_in house segment i slot_in not_the_new
              ∙ a.lowest_keeping_lem.passes;
          first = λ j f g. lower_keep_none j g;
        };
      }

  -- so the answer stays
  pub answer_same :
      book_answer (lent_deal after) table_now house segment ≡ book_answer (lent_deal deal) table house segment
  answer_same =
      kept_answer (lent_deal after) table_now house segment i after_kept
      ∙ ap₂ (λ (x : List ℕ) (n : ℕ). record { code = 15; offset = offset_in x; place = slot_place n i })
      (slot_same room i slot_in not_the_new) (written_length room)
      ∙ sym (kept_answer (lent_deal deal) table house segment i a)
