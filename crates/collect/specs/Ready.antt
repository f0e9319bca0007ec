-- A deal that can be collected, and the ranges that were gathered of its slots: what the routines that write the new
-- deal and the new table ask for.
use Rattle.std.specs.Prelude.{◌≡◌, true, List, ℕ, length}
use Rattle.sizes.specs.Sizes.{lent_size_allowed, entry_count}
use Rattle.room.specs.Room.{Range, SameBelow, ranges_in}
use Rattle.packing.specs.Order.{none_overlaps}
use Rattle.ranges.specs.Ranges.{ranges_of}

pub record Ready (deal : List ℕ) (ranges : List Range) : Type 0 where
  pub lent : lent_size_allowed (length deal) ≡ true
  pub none_overlaps_lem : none_overlaps (ranges_of deal) (entry_count (length deal)) ≡ true
  pub gathered : SameBelow (entry_count (length deal)) (ranges_in ranges) (ranges_of deal)
  pub slots_are : length ranges ≡ entry_count (length deal)
