-- Where the history moves what is booked: to the slot and the offset that collection moves its slot to.
use Rattle.std.specs.Prelude.{◌≡◌, refl, Bool, true, false, ℕ, List, length}
use Rattle.std.proofs.Common.{sym, ◌∙◌, eq-eqb}
use Rattle.std.proofs.Math.Path.{ap}
use Rattle.rules.specs.Choice.{choose}
use Rattle.sizes.specs.Sizes.{entry_count}
use Rattle.sizes.specs.SizesLaws.{DealSize, lent_size}
use Rattle.room.specs.Room.{Range, is_empty}
use Rattle.ranges.specs.Ranges.{ranges_of}
use Rattle.packing.specs.Total.{total}
use Rattle.packing.specs.Order.{comes_first, range_count, range_area, sum_before}
use Rattle.packing.specs.OrderLaws.{empty_count, full_count}
use Rattle.collect.specs.Collect.{slot_to, offset_to}
use Rattle.collect.proofs.MovesLaws.{stands_full}
use Rattle.demands.specs.Calls.{DealAndTable}
use Rattle.demands.specs.History.{BookedSegment, area_booked, range_booked, Among, before}
use Rattle.demands.proofs.HistoryMovedLaws.{sum_agrees}
use Rattle.demands.specs.Assured.{InSlot, Assured}
use Rattle.demands.proofs.OneSlotLaws.{in_slot_stands, in_slot_range}

-- of the ranges of a deal, those that come before a range, one of them or not: their measures together
abbrev pub sum_ahead : (Range → ℕ) → List ℕ → Range → ℕ
sum_ahead measure deal at =
    total (λ i. choose (comes_first (ranges_of deal i) at) (measure (ranges_of deal i)) 0) (entry_count (length deal))

module _ {bookings : List BookedSegment} {was : DealAndTable} (a : Assured bookings was) where
  abbrev deal : List ℕ
  deal = was.deal

  sized : DealSize (length deal)
  sized = (lent_size (length deal) a.sound.size_allowed).deal

  -- what comes before b in the history sums up to what does in the deal, ..
  module _ (measure : Range → ℕ) (none : (r : Range) → r.area ≡ 0 → measure r ≡ 0) where
    pub before_ahead : (b : BookedSegment)
        → before (λ other. measure (range_booked other)) bookings b ≡ sum_ahead measure was.deal (range_booked b)
    before_ahead b =
        a.same_sums (λ r. choose (comes_first r (range_booked b)) (measure r) 0)
        (λ r z. by_test (comes_first r (range_booked b)) (measure r) (none r z))
      where
        by_test : (first : Bool) (n : ℕ) → n ≡ 0 → choose first n 0 ≡ 0
        by_test true n z = z
        by_test false n z = refl

    -- .. which for b in slot j is what collection sums up for that slot
    before_slot : {b : BookedSegment} {j : ℕ} → InSlot was b j
        → before (λ other. measure (range_booked other)) bookings b
        ≡ sum_before measure (ranges_of deal) (entry_count (length deal)) j
    unfolding sum_before
    before_slot {b} s = before_ahead b ∙ ap (sum_ahead measure deal) (sym (in_slot_range s))

  -- so b goes to the offset where the bytes of its slot go, ..
  pub offset_moves : {b : BookedSegment} {j : ℕ} → InSlot was b j
      → before area_booked bookings b ≡ offset_to was.deal j
  offset_moves s = before_slot range_area (λ r z. z) s

  -- .. and, each booked segment having bytes and so counting as one, to the slot where its own goes
  counts_one : (b : BookedSegment) → Among b bookings → range_count (range_booked b) ≡ 1
  counts_one b among =
      let s = a.each_kept b among in
      full_count (range_booked b)
      (ap is_empty (sym (in_slot_range s.1)) ∙ stands_full deal sized s.0 (in_slot_stands s.1))

  pub slot_moves : {b : BookedSegment} {j : ℕ} → InSlot was b j
      → before (λ other. 1) bookings b ≡ slot_to was.deal j
  slot_moves {b} s =
      sum_agrees (λ other. choose (comes_first (range_booked other) (range_booked b)) 1 0)
      (λ other. choose (comes_first (range_booked other) (range_booked b)) (range_count (range_booked other)) 0)
      bookings
      (λ other among.
      ap (λ (n : ℕ). choose (comes_first (range_booked other) (range_booked b)) n 0) (sym (counts_one other among)))
      ∙ before_slot range_count (λ r z. empty_count r (eq-eqb r.area 0 z)) s
