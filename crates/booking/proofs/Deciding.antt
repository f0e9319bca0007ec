-- What booking answers for a segment that no rule refuses, by the searches on the way.
use mathlib.Core.Path.{◌≡◌, refl, sym, ap, ◌∙◌}
use mathlib.Core.List.{List}
use Prim.Native.Nat.{ℕ, ◌*◌, ◌^◌, ◌≤◌, ◌<◌}
use native.Mathlib.Omega.{arith}
use lib.ListN.{length, take}
use Rattle.std.proofs.lemmas.List.{get_or-take, length-take-le}
use Rattle.rules.specs.SearchLaws.{found_below}
use Rattle.octets.specs.Fill.{zero_filled}
use Rattle.merkle.specs.Tree.{commitment_of}
use Rattle.sizes.specs.Sizes.{area, entry_count, index_start, segment_level}
use Rattle.sizes.specs.SizesLaws.{LentSize, SegmentSize}
use Rattle.lent.specs.LentDeal.{LentDeal, deal_size}
use Rattle.index.specs.Slots.{slot_at}
use Rattle.index.specs.KeptRowsLaws.{row_ends}
use Rattle.room.specs.Room.{Range, SameBelow, EndBy, range, ranges_in}
use Rattle.room.specs.RoomLaws.{slots_high}
use Rattle.room.specs.Decide.{SlotBelow, decide, answer_to}
use Rattle.room.specs.DecideLaws.{decides_below, decide_cong, answer_cong}
use Rattle.room.specs.Decide.{Decision}
use Rattle.ranges.specs.Ranges.{ranges_of}
use Rattle.houses.specs.Houses.{held_count}
use Rattle.houses.specs.HousesLaws.{held_cong, held_most}
use Rattle.booking.specs.Write.{segment_commitment}
use Rattle.booking.specs.Booking.{keeps_own, lowest_keeping, held_in, book_answer}
use Rattle.booking.specs.BookableLaws.{
  Bookable,
  BookableFor,
  bookable_deal,
  bookable_segment,
  area_some,
  table_length_lem,
}
use Rattle.booking.proofs.BookingLaws.{decision_is, answer_is}

-- the commitment, by the height of the area's tree
module _ {d : ℕ} (segment : List ℕ) (t : LentSize d) (s : SegmentSize d (length segment)) (level : ℕ)
    (l : level ≡ segment_level (length segment)) where
  pub level_fits : (level < 32) × (length segment ≤ 32 * 2 ^ level)
  level_fits =
      let e : area (length segment) ≡ 32 * 2 ^ level = s.area_is ∙ ap (λ (n : ℕ). 32 * 2 ^ n) (sym l) in
      (omega (arith, s.below_deal, t.lent_level), omega (arith, s.size_area))

  pub commitment_by : commitment_of level (zero_filled (32 * 2 ^ level) segment) ≡ segment_commitment segment
  commitment_by =
      ap (λ (n : ℕ). commitment_of n (zero_filled (32 * 2 ^ n) segment)) l
      ∙ ap (λ (n : ℕ). commitment_of (segment_level (length segment)) (zero_filled n segment)) (sym s.area_is)

pub area_fits : (deal : LentDeal) (segment : List ℕ) → Bookable deal segment
    → (0 < area (length segment)) × (area (length segment) ≤ deal_size deal)
area_fits deal segment b = (area_some b, omega (arith, (bookable_segment b).area_half))

-- for a house: as many slots are counted as the table has bytes
module _ (deal : LentDeal) (table : List ℕ) (house : ℕ) (segment : List ℕ)
    (b : BookableFor deal table house segment) where
  pub slots_fit : length table ≤ 128
  slots_fit = omega (arith, table_length_lem b, slots_high (deal_size deal) b.bookable.deal_allowed)

  abbrev held : ℕ
  held = held_in deal.bytes table house

  pub held_within : held_in deal.bytes table house ≤ entry_count (deal_size deal)
  held_within = held_most _ table house (entry_count (deal_size deal))

  -- gathered ranges end by the index start; the slots held, the decision and the answer by them are the definition's
  module _ (ranges : List Range)
      (g : SameBelow (entry_count (deal_size deal)) (ranges_in ranges) (ranges_of deal.bytes)) where
    pub gathered_end : EndBy (index_start (deal_size deal)) (entry_count (deal_size deal)) (ranges_in ranges)
    gathered_end i h =
        let ends = row_ends (deal_size deal) (slot_at deal.bytes i) (bookable_deal b.bookable).deal in
        let o = ap (λ (r : Range). r.offset) (g i h) in
        let a = ap (λ (r : Range). r.area) (g i h) in
        omega arith

    -- as many ranges are counted as the table has bytes
    module _ (full : length ranges ≡ 128) where
      pub counted_length : length (take (length table) ranges) ≡ length table
      counted_length = length-take-le (length table) ranges (omega (arith, slots_fit))

      pub held_by_lem :
          held_count (ranges_in (take (length table) ranges)) table house (length (take (length table) ranges))
          ≡ held_in deal.bytes table house
      held_by_lem =
          ap (held_count (ranges_in (take (length table) ranges)) table house) (counted_length ∙ table_length_lem b)
          ∙ held_cong (entry_count (deal_size deal)) (ranges_in (take (length table) ranges)) (ranges_of deal.bytes)
          table table house
          (λ i h.
          get_or-take (length table) ranges i (range 0 0) (omega (arith, table_length_lem b)) ∙ g i h)
          (λ i h. refl)

    abbrev decided : Decision
    decided =
        decide (deal_size deal) (ranges_in ranges) held (area (length segment))
        (lowest_keeping deal table house segment)

    pub decided_below : SlotBelow (entry_count (deal_size deal)) decided
    decided_below =
        decides_below (deal_size deal) (ranges_in ranges) held (area (length segment))
        (lowest_keeping deal table house segment) (area_some b.bookable)
        (λ i. found_below (keeps_own deal table house segment) (entry_count (deal_size deal)) i)

    pub answer_by : answer_to (deal_size deal) (ranges_in ranges) decided ≡ book_answer deal table house segment
    answer_by =
        answer_cong (deal_size deal) (ranges_in ranges) (ranges_of deal.bytes) g decided decided_below
        ∙ ap (answer_to (deal_size deal) (ranges_of deal.bytes))
        (decide_cong (deal_size deal) (ranges_in ranges) (ranges_of deal.bytes) g held (area (length segment))
        (lowest_keeping deal table house segment))
        ∙ sym (answer_is deal table house segment _ (decision_is deal table house segment b))
