-- A booking by the plain form leaves the invariant of request (xiii) true: with code 0 its segment is one more that is
-- booked, in a slot that was free, and with any other code nothing changes.
use Rattle.std.specs.Prelude.{◌≡◌, refl, true, false, ℕ, ◌<◌, List, ◌∷◌, length}
use Rattle.std.proofs.Common.{sym, ap₂, ◌∙◌, subst, subst₂, inl, inr, ⊎_elim}
use Rattle.std.proofs.Math.Path.{ap}
use Rattle.std.proofs.Math.Decide.{ℕ_discrete}
use native.Mathlib.Omega.{arith}
use Rattle.sizes.specs.Sizes.{entry_count, slot_place}
use Rattle.sizes.specs.SizesLaws.{DealSize, lent_size}
use Rattle.lent.specs.LentDeal.{lent_deal}
use Rattle.lent.specs.LentDealLaws.{answer_refused}
use Rattle.index.specs.Slots.{slot_at, standing}
use Rattle.room.specs.Room.{Range}
use Rattle.room.specs.Decide.{Place}
use Rattle.ranges.specs.Ranges.{ranges_of}
use Rattle.ranges.specs.RangesLaws.{range_free}
use Rattle.houses.specs.Houses.{with_owner}
use Rattle.houses.specs.HousesLaws.{owner_here, owner_other}
use Rattle.packing.specs.Total.{total}
use Rattle.booking.specs.Write.{written_deal}
use Rattle.booking.specs.WriteLaws.{Fits, written_length, slot_same, offset_written, stands_elsewhere}
use Rattle.booking.specs.KeepLaws.{keeps_written, keeps_same}
use Rattle.booking.specs.OwnLaws.{own_only}
use Rattle.booking.specs.Booking.{keeps_own, decision}
use Rattle.booking.proofs.BookingLaws.{answer_is, code_0}
use Rattle.booking.proofs.BookedLaws.{booked_unkept, booked_fits, booked_is, booked_table_is, booked_slot_in}
use Rattle.demands.specs.Calls.{book_segment, DealAndTable, answer_in, after_plain_call}
use Rattle.demands.specs.DealCalls.{no_tree, on_deal}
use Rattle.demands.proofs.LoggedLaws.{refused_booking}
use Rattle.demands.proofs.NoneOverlapLaws.{range_new}
use Rattle.demands.specs.Sound.{Sound}
use Rattle.demands.proofs.SoundLaws.{call_sound}
use Rattle.demands.specs.History.{booking, BookedSegment, range_booked, Among, sum_of, after_answer}
use Rattle.demands.specs.Assured.{InSlot, NoTwoAlike, Assured}
use Rattle.demands.proofs.TotalPutLaws.{total_put}
use Rattle.demands.proofs.OneSlotLaws.{in_slot_stands, SameBut, slots_same, slot_was}
use Rattle.demands.proofs.OneSlotLaws.{standing_same, range_same, in_slot_stays}
use Rattle.demands.proofs.NoTwoLaws.{alike_once, once_alike, once_stays}

-- the segment is written in slot i, at the offset o
module _ {bookings : List BookedSegment} {was : DealAndTable} (a : Assured bookings was) (house : ℕ)
    (segment : List ℕ) (i o : ℕ) (e : decision (lent_deal was.deal) was.table house segment ≡ Place i o) where
  abbrev d : ℕ
  d = length was.deal

  abbrev now : DealAndTable
  now = record { deal = written_deal was.deal segment i o; table = with_owner was.table i house }

  -- what is booked now
  abbrev new : BookedSegment
  new = record { house = house; segment = segment; offset = o; place = slot_place d i }

  facts : Fits was.deal segment i o
  facts = booked_fits (lent_deal was.deal) was.table house segment i o e

  in_table : i < length was.table
  in_table = booked_slot_in (lent_deal was.deal) was.table house segment i o e

  others_same : SameBut i was now
  others_same =
      record {
        size_same = written_length facts;
        slot_same = slot_same facts;
        owner_same = owner_other was.table i house in_table;
        keeps_same = keeps_same facts;
      }

  -- it is in slot i, and what was booked before is in another slot, where it was
  new_in : InSlot now new i
  new_in =
      record {
        slot_in = omega (arith, slots_same others_same, facts.slot_in);
        place_is = ap (λ (n : ℕ). slot_place n i) (sym (written_length facts));
        keeps_it = keeps_written facts;
        offset_is = offset_written facts;
        owner_is = owner_here was.table i house in_table;
      }

  old_in : (b : BookedSegment) (j : ℕ) → InSlot was b j → InSlot now b j
  old_in b j s = in_slot_stays others_same b j (stands_elsewhere facts j (in_slot_stands s)) s

  each_kept : (b : BookedSegment) → Among b (new ∷ bookings) → (j : ℕ) × InSlot now b j
  each_kept b =
      ⊎_elim (λ same. (i, subst (λ (x : BookedSegment). InSlot now x i) (sym same) new_in))
      (λ among. let p = a.each_kept b among in (p.0, old_in b p.0 p.1))

  -- whatever stands in slot i or in any other
  all_booked : (j : ℕ) → j < entry_count (length now.deal)
      → standing (length now.deal) (slot_at now.deal j) ≡ true
      → (b : BookedSegment) × Among b (new ∷ bookings) × InSlot now b j
  all_booked j h s =
      elim (ℕ_discrete j i) [
        | yes here ↦ (new, inl refl, subst (InSlot now new) (sym here) new_in)
        | no other ↦
            let h' = slot_was others_same j h in
            let p = a.all_booked j h' (sym (standing_same others_same j h' other) ∙ s) in
            (p.0, inr p.1, old_in p.0 j p.2)
      ]

  -- no slot of the house kept the segment
  sized : DealSize (length was.deal)
  sized = (lent_size d a.sound.size_allowed).deal

  none_kept : (by : ℕ) (other : List ℕ) → keeps_own (lent_deal now.deal) now.table by other i ≡ true → (j : ℕ)
      → j < entry_count d → keeps_own (lent_deal was.deal) was.table by other j ≡ false
  none_kept by other k j h =
      let same = own_only facts was.table house in_table by other k in
      ap₂ (λ (x : ℕ) (s : List ℕ). keeps_own (lent_deal was.deal) was.table x s j) (sym same.0) (sym same.1)
      ∙ (booked_unkept (lent_deal was.deal) was.table house segment i o e).none_keeps j h

  no_two : NoTwoAlike now
  no_two =
      once_alike now (subst DealSize (sym (written_length facts)) sized)
      (λ j h s. let p = all_booked j h s in (p.0.segment, p.2.keeps_it))
      (once_stays others_same none_kept (alike_once was sized a.no_two))

  -- slot i took up no bytes, and takes up the segment's area
  module _ (number : Range → ℕ) (none : (r : Range) → r.area ≡ 0 → number r ≡ 0) where
    abbrev before : ℕ → ℕ
    before j = number (ranges_of was.deal j)

    abbrev after : ℕ → ℕ
    after j = number (ranges_of now.deal j)

    was_none : number (ranges_of was.deal i) ≡ 0
    was_none =
        none (ranges_of was.deal i)
        (ap (λ (r : Range). r.area) (range_free d (slot_at was.deal i) facts.slot_free))

    same_sums : sum_of (λ b. number (range_booked b)) (new ∷ bookings) ≡ total after (entry_count (length now.deal))
    unfolding sum_of
    same_sums =
        let grown = total_put before after (entry_count d) i facts.slot_in
        (λ j h ne. ap number (range_same others_same j h ne)) in
        omega (
          arith,
          a.same_sums number none,
          ap number (range_new facts),
          was_none,
          grown,
          ap (total after) (slots_same others_same),
        )

  written_sound : Sound now.deal
  written_sound =
      subst Sound (booked_is (lent_deal was.deal) was.table house segment i o e)
      (call_sound (on_deal (book_segment house segment) no_tree) was a.sound)

  written_assured : Assured (new ∷ bookings) now
  written_assured =
      record {
        sound = written_sound;
        no_two = no_two;
        each_kept = each_kept;
        all_booked = all_booked;
        same_sums = same_sums;
      }

pub booking_assured : (house : ℕ) (segment : List ℕ) (bookings : List BookedSegment) (was : DealAndTable)
    → Assured bookings was
    → Assured (after_answer (length was.deal) (booking house segment (answer_in was house segment)) bookings)
    (after_plain_call (book_segment house segment) was)
booking_assured house segment bookings was a =
    let deal = lent_deal was.deal in
    let answer = answer_in was house segment in
    elim (ℕ_discrete (answer_in was house segment).code 0) [
      | yes z ↦
          let p = (code_0 deal was.table house segment).0 z in
          rw (
            answer_is deal was.table house segment (Place p.0 p.1) p.2,
            booked_is deal was.table house segment p.0 p.1 p.2,
            booked_table_is deal was.table house segment p.0 p.1 p.2,
          )
          (written_assured a house segment p.0 p.1 p.2)
      | no r ↦
          subst₂ Assured
          (sym
          (answer_refused (λ (code : ℕ). bookings)
          (record { house = house; segment = segment; offset = answer.offset; place = answer.place } ∷ bookings)
          answer.code r))
          (sym (refused_booking was house segment r)) a
    ]
