-- What the gathered ranges of a deal say: they are few and end early; and where the deal can be collected, they lie in
-- it, and so do the places that they move to.
use mathlib.Core.Path.{◌≡◌, ap, ap₂, ◌∙◌}
use mathlib.Core.Bool.{true}
use mathlib.Core.List.{List}
use Prim.Native.Nat.{ℕ, ◌+◌, ◌-◌, ◌^◌, ◌≤◌, ◌<◌}
use native.Mathlib.Omega.{arith}
use lib.ListN.{length, take, drop}
use Rattle.octets.specs.Splice.{part}
use Rattle.octets.specs.SpliceLaws.{part_length, part_range}
use Rattle.sizes.specs.Sizes.{deal_size_allowed, lent_size_allowed, entry_count}
use Rattle.sizes.specs.SizesLaws.{LentSize, lent_size, index_start_le}
use Rattle.index.specs.Slots.{row_at, row_offset, row_area}
use Rattle.room.specs.Room.{Range, SameBelow, Bounded, ranges_in}
use Rattle.room.specs.RoomLaws.{slots_high, first_length, first_same}
use Rattle.ranges.specs.Ranges.{ranges_of}
use Rattle.ranges.specs.RangesLaws.{ranges_end, gathered_bounded}
use Rattle.packing.specs.Order.{new_slot, new_offset, none_overlaps}
use Rattle.packing.specs.NoOverlapLaws.{none_overlaps_lem, none_overlaps_same}
use Rattle.packing.specs.PackingLaws.{new_slot_same, new_offset_same}
use Rattle.collect.specs.Collect.{slot_to, offset_to, area_to}
use Rattle.collect.specs.Ready.{Ready}
use Rattle.collect.specs.Collectable.{Collectable}
use Rattle.collect.proofs.MovesLaws.{area_ends}

-- the ranges of the slots, taken from an array of more
module _ (deal : List ℕ) (ranges : List Range) (n : ℕ) (lent : lent_size_allowed (length deal) ≡ true)
    (gathered : SameBelow (entry_count (length deal)) (ranges_in ranges) (ranges_of deal))
    (n_is : n ≡ entry_count (length deal)) (long : length ranges ≡ 128) where
  pub among : n ≤ length ranges
  among = omega (arith, slots_high (length deal) lent)

  pub first_gathered : SameBelow (entry_count (length deal)) (ranges_in (take n ranges)) (ranges_of deal)
  first_gathered i h = first_same n ranges among i (omega arith) ∙ gathered i h

  pub first_slots : length (take n ranges) ≡ entry_count (length deal)
  first_slots = first_length n ranges among ∙ n_is

module _ (deal : List ℕ) (ranges : List Range) (lent : lent_size_allowed (length deal) ≡ true)
    (gathered : SameBelow (entry_count (length deal)) (ranges_in ranges) (ranges_of deal))
    (slots_are : length ranges ≡ entry_count (length deal)) where
  pub few : length ranges ≤ 128
  few = omega (arith, slots_high (length deal) lent)

  pub bounded : Bounded (length ranges) ranges
  bounded i h = gathered_bounded deal ranges lent gathered i (omega arith)

  -- the test over them is that of the deal
  pub test_is : none_overlaps (ranges_in ranges) (length ranges) ≡ none_overlaps (ranges_of deal) (entry_count (length deal))
  test_is =
      ap (none_overlaps (ranges_in ranges)) slots_are
      ∙ none_overlaps_same (entry_count (length deal)) (ranges_in ranges) (ranges_of deal) gathered

-- the test over the first ranges
pub first_test : (deal : List ℕ) (ranges : List Range) (n : ℕ) → lent_size_allowed (length deal) ≡ true
    → SameBelow (entry_count (length deal)) (ranges_in ranges) (ranges_of deal) → n ≡ entry_count (length deal)
    → length ranges ≡ 128
    → none_overlaps (ranges_in (take n ranges)) (length (take n ranges))
    ≡ none_overlaps (ranges_of deal) (entry_count (length deal))
first_test deal ranges n lent gathered n_is long =
    test_is deal (take n ranges) lent (first_gathered deal ranges n lent gathered n_is long)
    (first_slots deal ranges n lent gathered n_is long)

module _ {deal : List ℕ} {ranges : List Range} (r : Ready deal ranges) where
  lent : LentSize (length deal)
  lent = lent_size (length deal) r.lent

  pub deal_allowed : deal_size_allowed (length deal) ≡ true
  deal_allowed = lent.allowed

  pub deal_high : length deal ≤ 2 ^ 24
  deal_high = lent.lent_high

  pub few_slots : length ranges ≤ 128
  few_slots = few deal ranges r.lent r.gathered r.slots_are

  pub ends : Bounded (length ranges) ranges
  ends = bounded deal ranges r.lent r.gathered r.slots_are

  pub collectable : Collectable deal
  collectable =
      record {
        lent = r.lent;
        apart = (none_overlaps_lem (ranges_of deal) (entry_count (length deal))).0 r.none_overlaps_lem;
      }

  module _ (j : ℕ) (h : j < length ranges) where
    pub inside : j < entry_count (length deal)
    inside = omega (arith, r.slots_are)

    -- where slot j moves
    pub offset_is : new_offset (ranges_in ranges) (length ranges) j ≡ offset_to deal j
    offset_is =
        ap (λ (n : ℕ). new_offset (ranges_in ranges) n j) r.slots_are
        ∙ new_offset_same (entry_count (length deal)) (ranges_in ranges) (ranges_of deal) r.gathered j inside

    pub slot_is : new_slot (ranges_in ranges) (length ranges) j ≡ slot_to deal j
    slot_is =
        ap (λ (n : ℕ). new_slot (ranges_in ranges) n j) r.slots_are
        ∙ new_slot_same (entry_count (length deal)) (ranges_in ranges) (ranges_of deal) r.gathered j inside

    -- its bytes, and where they go
    offset_at_lem : (ranges_in ranges j).offset ≡ row_offset (row_at deal j)
    offset_at_lem = ap (λ (x : Range). x.offset) (r.gathered j inside)

    pub area_at_lem : (ranges_in ranges j).area ≡ row_area (row_at deal j)
    area_at_lem = ap (λ (x : Range). x.area) (r.gathered j inside)

    pub range_in : (ranges_in ranges j).offset + (ranges_in ranges j).area ≤ length deal
    range_in =
        omega (
          arith,
          offset_at_lem,
          area_at_lem,
          ranges_end deal lent.deal j inside,
          index_start_le (length deal),
        )

    pub area_in : offset_to deal j + (ranges_in ranges j).area ≤ length deal
    area_in = omega (arith, area_at_lem, area_ends collectable j inside, index_start_le (length deal))

    -- the part that is lent
    abbrev taken : List ℕ
    taken =
        let offset = (ranges_in ranges j).offset in
        take (offset + (ranges_in ranges j).area - offset) (drop offset deal)

    pub taken_is : taken ≡ area_to deal j
    taken_is =
        part_range deal ((ranges_in ranges j).offset) ((ranges_in ranges j).area)
        ∙ ap₂ (part deal) offset_at_lem area_at_lem

    pub taken_length : length taken ≡ (ranges_in ranges j).area
    taken_length =
        ap length (part_range deal ((ranges_in ranges j).offset) ((ranges_in ranges j).area))
        ∙ part_length deal ((ranges_in ranges j).offset) ((ranges_in ranges j).area) range_in
