-- A cancellation by the plain form leaves the invariant of request (xiii) true: with code 0 what the house had booked
-- at the place is booked no more, and its slot is free; with any other code nothing changes.
use Rattle.std.specs.Prelude.{◌≡◌, Bool, true, false, not, ◌≢◌, ℕ, ◌<◌, List, length, eqb}
use Rattle.std.proofs.Common.{sym, ap, ◌∙◌, subst, subst₂, true≢false, arith, eqb-true, eq-eqb}
use Rattle.std.proofs.Math.Decide.{ℕ_discrete}
use Rattle.std.proofs.lemmas.Bool.{not-true, not-false}
use Rattle.rules.specs.RefusalLaws.{and_right, and_both, not_passed}
use Rattle.sizes.specs.Sizes.{entry_count, slot_place}
use Rattle.sizes.specs.SizesLaws.{DealSize}
use Rattle.lent.specs.LentDeal.{LentDeal, lent_deal}
use Rattle.lent.specs.LentDealLaws.{answer_refused}
use Rattle.index.specs.Slots.{entry_at, slot_at, standing}
use Rattle.index.specs.SlotsLaws.{zero_free}
use Rattle.index.specs.KeptRowsLaws.{standing_size}
use Rattle.index.specs.Written.{slot_of}
use Rattle.index.specs.SlotWrittenLaws.{place_slot}
use Rattle.room.specs.Room.{Range}
use Rattle.ranges.specs.Ranges.{ranges_of}
use Rattle.ranges.specs.RangesLaws.{range_stands, range_free}
use Rattle.houses.specs.Houses.{owner_at}
use Rattle.packing.specs.NoOverlapLaws.{none_overlaps_lem}
use Rattle.packing.specs.Total.{total}
use Rattle.packing.specs.TotalLaws.{total_cong}
use Rattle.cancel.specs.Cancel.{cancel_code}
use Rattle.cancel.proofs.CancelLaws.{cancels, cancelled_sized, cancelled_length, cancelled_slot_in, cancelled_slot}
use Rattle.cancel.proofs.CancelLaws.{cancelled_slot_other}
use Rattle.cancel.proofs.OwnerCancelLaws.{owner_cancels, cancelled_owner_other}
use Rattle.demands.specs.Calls.{cancel_place, DealAndTable, after_plain_call}
use Rattle.demands.proofs.CancelKeepLaws.{cancelled_keeps_none, cancelled_keeps_other}
use Rattle.demands.specs.DealCalls.{no_tree, on_deal}
use Rattle.demands.proofs.LoggedLaws.{refused_cancelling}
use Rattle.demands.proofs.SoundLaws.{call_sound}
use Rattle.demands.specs.History.{cancelling, BookedSegment, range_booked, Among, sum_of, is_at, filter}
use Rattle.demands.specs.History.{after_answer}
use Rattle.demands.proofs.HistoryAmongLaws.{filter_among, among_filter, sum_filter}
use Rattle.demands.specs.Assured.{InSlot, NoTwoAlike, Assured}
use Rattle.demands.proofs.WithoutRangeLaws.{without_range, without_gone, without_none, without_other}
use Rattle.demands.proofs.OneSlotLaws.{in_slot_range, in_slot_of, SameBut, slots_same, slot_was}
use Rattle.demands.proofs.OneSlotLaws.{standing_same, range_same, in_slot_stays}
use Rattle.demands.proofs.NoTwoLaws.{alike_once, once_alike, once_stays}

-- the entry at the place is cancelled
module _ {bookings : List BookedSegment} {was : DealAndTable} (a : Assured bookings was) (house place : ℕ)
    (z : cancel_code (lent_deal was.deal) was.table house place ≡ 0) where
  abbrev d : ℕ
  d = length was.deal

  abbrev deal : LentDeal
  deal = lent_deal was.deal

  abbrev slot : ℕ
  slot = slot_of d place

  abbrev now : DealAndTable
  now = after_plain_call (cancel_place house place) was

  sized : DealSize (length was.deal)
  sized = cancelled_sized deal was.table house place z

  others_same : SameBut slot was now
  others_same =
      record {
        size_same = cancelled_length deal was.table house place;
        slot_same = cancelled_slot_other deal was.table house place;
        owner_same = cancelled_owner_other deal was.table house place;
        keeps_same = cancelled_keeps_other deal was.table house place z;
      }

  place_is : place ≡ slot_place d slot
  place_is = (place_slot d place sized ((cancels deal was.table house place).0 z).place_allowed_lem).1

  -- what was booked is in that slot exactly if it is the house's, at that place
  abbrev here : BookedSegment → Bool
  here = is_at house place

  slot_here : (b : BookedSegment) (j : ℕ) → InSlot was b j → here b ≡ true → j ≡ slot
  slot_here b j s e =
      sym (in_slot_of s)
      ∙ ap (slot_of d) (eqb-true b.place place (and_right (eqb b.house house) (eqb b.place place) e))

  slot_other : (b : BookedSegment) (j : ℕ) → InSlot was b j → here b ≡ false → j ≢ slot
  slot_other b j s ne same =
      let owner = sym s.owner_is ∙ ap (owner_at was.table) same ∙ owner_cancels deal was.table house place z in
      let at = s.place_is ∙ ap (slot_place d) same ∙ sym place_is in
      true≢false
      (sym (and_both (eqb b.house house) (eqb b.place place) (eq-eqb b.house house owner)
      (eq-eqb b.place place at))
      ∙ ne)

  -- what is booked now
  abbrev left : List BookedSegment
  left = filter (λ b. not (here b)) bookings

  each_kept : (b : BookedSegment) → Among b left → (j : ℕ) × InSlot now b j
  each_kept b among =
      let p = filter_among (λ c. not (here c)) b bookings among in
      let q = a.each_kept b p.0 in
      (q.0, in_slot_stays others_same b q.0 (slot_other b q.0 q.1 (not-true (here b) p.1)) q.1)

  -- nothing stands in that slot
  slot_free : standing (length now.deal) (slot_at now.deal slot) ≡ false
  slot_free =
      ap (standing (length now.deal)) (cancelled_slot deal was.table house place z)
      ∙ zero_free (length now.deal)

  all_booked : (j : ℕ) → j < entry_count (length now.deal)
      → standing (length now.deal) (slot_at now.deal j) ≡ true
      → (b : BookedSegment) × Among b left × InSlot now b j
  all_booked j h s =
      elim (ℕ_discrete j slot) [
        | yes same ↦
            absurd
            (true≢false
            (sym s ∙ ap (λ (x : ℕ). standing (length now.deal) (slot_at now.deal x)) same ∙ slot_free))
        | no other ↦
            let h' = slot_was others_same j h in
            let p = a.all_booked j h' (sym (standing_same others_same j h' other) ∙ s) in (
              p.0,
              among_filter (λ b. not (here b)) p.0 bookings p.1
                  (ap not (not_passed (here p.0) (λ e. other (slot_here p.0 j p.2 e)))),
              in_slot_stays others_same p.0 j other p.2,
            )
      ]

  no_two : NoTwoAlike now
  no_two =
      once_alike now (subst DealSize (sym others_same.size_same) sized)
      (λ j h s. let p = all_booked j h s in (p.0.segment, p.2.keeps_it))
      (once_stays others_same
      (λ by segment k.
      absurd (true≢false (sym k ∙ cancelled_keeps_none deal was.table house place z by segment)))
      (alike_once was sized a.no_two))

  -- the range that the slot had has bytes, and no other slot has it
  abbrev gone : Range
  gone = ranges_of was.deal slot

  some_bytes : 0 < (ranges_of was.deal slot).area
  some_bytes =
      let entry = slot_at was.deal slot in
      let stood : standing d entry ≡ true =
      ap (λ (p : ℕ). standing d (entry_at was.deal p)) (sym place_is)
      ∙ ((cancels deal was.table house place).0 z).stands_there in
      omega (
        arith,
        ap (λ (r : Range). r.area) (range_stands d entry stood),
        (standing_size d entry sized stood).area_low,
      )

  -- so a number sums up afterwards to what it summed up to without that range
  module _ (number : Range → ℕ) (none : (r : Range) → r.area ≡ 0 → number r ≡ 0) where
    abbrev without : Range → ℕ
    without r = without_range gone number r

    abbrev before : ℕ → ℕ
    before j = without (ranges_of was.deal j)

    abbrev after : ℕ → ℕ
    after j = number (ranges_of now.deal j)

    left_other : (j : ℕ) → j < entry_count d → j ≢ slot → before j ≡ number (ranges_of was.deal j)
    left_other =
        without_other number (ranges_of was.deal) (entry_count d) slot
        ((none_overlaps_lem (ranges_of was.deal) (entry_count d)).0 a.sound.apart)
        (cancelled_slot_in deal was.table house place z) some_bytes

    -- over what was booked
    booked_here : (b : BookedSegment) → Among b bookings → not (here b) ≡ false → without (range_booked b) ≡ 0
    booked_here b among e =
        let q = a.each_kept b among in
        ap without
        (sym (in_slot_range q.1) ∙ ap (ranges_of was.deal) (slot_here b q.0 q.1 (not-false (here b) e)))
        ∙ without_gone number gone

    booked_other : (b : BookedSegment) → Among b bookings → not (here b) ≡ true
        → number (range_booked b) ≡ without (range_booked b)
    booked_other b among e =
        let q = a.each_kept b among in
        ap number (sym (in_slot_range q.1))
        ∙ sym (left_other q.0 q.1.slot_in (slot_other b q.0 q.1 (not-true (here b) e)))
        ∙ ap without (in_slot_range q.1)

    -- over the slots
    slot_left : (j : ℕ) → j < entry_count d → before j ≡ after j
    slot_left j h =
        elim (ℕ_discrete j slot) [
          | yes same ↦
              let free = range_free (length now.deal) (slot_at now.deal slot) slot_free in
              ap before same
              ∙ without_gone number gone
              ∙ sym (none (ranges_of now.deal slot) (ap (λ (r : Range). r.area) free))
              ∙ ap after (sym same)
          | no other ↦ left_other j h other ∙ ap number (sym (range_same others_same j h other))
        ]

    same_sums : sum_of (λ b. number (range_booked b)) left ≡ total after (entry_count (length now.deal))
    same_sums =
        sum_filter (λ b. not (here b)) (λ b. number (range_booked b))
        (λ b. without (range_booked b)) bookings booked_here
        booked_other
        ∙ a.same_sums without (λ r e. without_none number gone r (none r e))
        ∙ total_cong before after (entry_count d) slot_left
        ∙ ap (total after) (sym (slots_same others_same))

  cancelled_assured : Assured left now
  cancelled_assured =
      record {
        sound = call_sound (on_deal (cancel_place house place) no_tree) was a.sound;
        no_two = no_two;
        each_kept = each_kept;
        all_booked = all_booked;
        same_sums = same_sums;
      }

pub cancelling_assured : (house place : ℕ) (bookings : List BookedSegment) (was : DealAndTable)
    → Assured bookings was
    → Assured
    (after_answer (length was.deal)
    (cancelling house place (cancel_code (lent_deal was.deal) was.table house place)) bookings)
    (after_plain_call (cancel_place house place) was)
cancelling_assured house place bookings was a =
    let code = cancel_code (lent_deal was.deal) was.table house place in
    elim (ℕ_discrete (cancel_code (lent_deal was.deal) was.table house place) 0) [
      | yes z ↦ rw z (cancelled_assured a house place z)
      | no r ↦
          subst₂ Assured
          (sym (answer_refused (λ (c : ℕ). bookings) (filter (λ b. not (is_at house place b)) bookings) code r))
          (sym (refused_cancelling was house place r)) a
    ]
