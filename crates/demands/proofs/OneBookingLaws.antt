-- Each standing entry is that of one booked segment, counted as often as it is in the list, and a slot without one is
-- of none.
use Rattle.std.specs.Prelude.{◌≡◌, refl, Bool, true, false, ◌≢◌, ℕ, ◌<◌, List, [], ◌∷◌, length, eqb}
use Rattle.std.proofs.Common.{sym, ap, ◌∙◌, true≢false, arith, eqb-true, eq-eqb, ne_eqb}
use Rattle.std.proofs.Math.Decide.{ℕ_discrete}
use Rattle.rules.specs.RefusalLaws.{and_right, not_passed}
use Rattle.rules.specs.Search.{one}
use Rattle.sizes.specs.Sizes.{entry_count, slot_place}
use Rattle.sizes.specs.SizesLaws.{lent_size}
use Rattle.index.specs.Slots.{slot_at, standing}
use Rattle.index.specs.KeptRowsLaws.{standing_size}
use Rattle.index.specs.Written.{slot_of}
use Rattle.index.specs.SlotWrittenLaws.{slot_back}
use Rattle.room.specs.Room.{Range}
use Rattle.ranges.specs.Ranges.{ranges_of}
use Rattle.ranges.specs.RangesLaws.{range_stands}
use Rattle.packing.specs.TotalSwap.{total_only}
use Rattle.packing.specs.NoOverlapLaws.{none_overlaps_lem}
use Rattle.demands.specs.Calls.{DealAndTable}
use Rattle.demands.specs.History.{BookedSegment, range_booked, Among, sum_of}
use Rattle.demands.proofs.HistoryMovedLaws.{sum_agrees}
use Rattle.demands.specs.Assured.{InSlot, Assured}
use Rattle.demands.proofs.WithoutRangeLaws.{same_range, range_is, range_differs}
use Rattle.demands.proofs.OneSlotLaws.{in_slot_stands, in_slot_range, in_slot_of}

sum_none : (bookings : List BookedSegment) → sum_of (λ b. 0) bookings ≡ 0
unfolding sum_of
sum_none [] = refl
sum_none (b ∷ others) = omega (arith, sum_none others)

module _ {bookings : List BookedSegment} {now : DealAndTable} (a : Assured bookings now) (i : ℕ)
    (h : i < entry_count (length now.deal)) where
  abbrev deal : List ℕ
  deal = now.deal

  abbrev place : ℕ
  place = slot_place (length deal) i

  -- what is booked in another slot is at another place
  other_place : (b : BookedSegment) (j : ℕ) → InSlot now b j → j ≢ i → eqb b.place place ≡ false
  other_place b j s ne =
      ne_eqb b.place place (λ e. ne (sym (in_slot_of s) ∙ ap (slot_of (length deal)) e ∙ slot_back (length deal) i))

  abbrev at_place : BookedSegment → ℕ
  at_place b = one (eqb b.place place)

  -- slot i stands: over the booked segments, and over the slots, its range is counted once
  module _ (s : standing (length deal) (slot_at deal i) ≡ true) where
    abbrev ranges : ℕ → Range
    ranges = ranges_of deal

    abbrev is_it : Range → ℕ
    is_it r = one (same_range r (ranges i))

    some_bytes : 0 < (ranges i).area
    some_bytes =
        let t = (lent_size (length deal) a.sound.size_allowed).deal in
        omega (
          arith,
          ap (λ (r : Range). r.area) (range_stands (length deal) (slot_at deal i) s),
          (standing_size (length deal) (slot_at deal i) t s).area_low,
        )

    other_range : (j : ℕ) → j < entry_count (length deal) → j ≢ i → is_it (ranges j) ≡ 0
    other_range j hj ne =
        ap one
        (range_differs ranges (entry_count (length deal)) i
        ((none_overlaps_lem ranges (entry_count (length deal))).0 a.sound.apart) h some_bytes j hj ne)

    same_count : (b : BookedSegment) → Among b bookings → at_place b ≡ is_it (range_booked b)
    same_count b among =
        let q = a.each_kept b among in
        let j = q.0 in
        elim (ℕ_discrete j i) [
          | yes e ↦
              ap one (eq-eqb b.place place (q.1.place_is ∙ ap (slot_place (length deal)) e))
              ∙ sym
              (ap is_it (sym (in_slot_range q.1) ∙ ap ranges e) ∙ ap one (range_is (ranges i)))
          | no ne ↦
              ap one (other_place b j q.1 ne)
              ∙ sym (ap is_it (sym (in_slot_range q.1)) ∙ other_range j q.1.slot_in ne)
        ]

    -- a range without bytes is another
    none_without : (r : Range) → r.area ≡ 0 → is_it r ≡ 0
    none_without r z =
        ap one (not_passed (same_range r (ranges i))
        (λ e.
        omega (
          arith,
          z,
          some_bytes,
          eqb-true r.area (ranges i).area
              (and_right (eqb r.offset (ranges i).offset) (eqb r.area (ranges i).area) e),
        )))

    counted_once : sum_of (λ b. one (eqb b.place (slot_place (length now.deal) i))) bookings ≡ 1
    counted_once =
        sum_agrees at_place (λ b. is_it (range_booked b)) bookings same_count
        ∙ a.same_sums is_it none_without
        ∙ total_only (λ j. is_it (ranges j)) (entry_count (length deal)) i h other_range
        ∙ ap one (range_is (ranges i))

  -- nothing stands in slot i, and nothing is booked there
  not_counted : standing (length deal) (slot_at deal i) ≡ false → sum_of at_place bookings ≡ 0
  not_counted f =
      sum_agrees at_place (λ b. 0) bookings
      (λ b among.
      let q = a.each_kept b among in
      ap one
      (other_place b q.0 q.1
      (λ e.
      true≢false
      (sym (in_slot_stands q.1) ∙ ap (λ (x : ℕ). standing (length deal) (slot_at deal x)) e ∙ f))))
      ∙ sum_none bookings

  pub counted : sum_of (λ b. one (eqb b.place (slot_place (length now.deal) i))) bookings
      ≡ one (standing (length now.deal) (slot_at now.deal i))
  counted = by_test (standing (length deal) (slot_at deal i)) refl
    where
      by_test : (x : Bool) → standing (length deal) (slot_at deal i) ≡ x → sum_of at_place bookings ≡ one x
      by_test true s = counted_once s
      by_test false f = not_counted f
