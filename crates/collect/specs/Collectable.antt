-- When a deal can be collected, when it is, and when two of its standing areas refuse it (20); and what a slot of the
-- collected deal holds.
use Rattle.std.specs.Prelude.{◌≡◌, true, ℕ, ◌<◌, List, length}
use Rattle.stray.specs.StrayBits.{no_stray_bits}
use Rattle.sizes.specs.Sizes.{lent_size_allowed, entry_count}
use Rattle.lent.specs.LentDeal.{LentDeal, lent_deal, deal_size}
use Rattle.index.specs.Slots.{slot_at, standing, kept_at, row_at, holds}
use Rattle.room.specs.Room.{overlaps}
use Rattle.ranges.specs.Ranges.{ranges_of}
use Rattle.houses.specs.Houses.{table_sized}
use Rattle.packing.specs.Apart.{RangesApart}
use Rattle.collect.specs.Collect.{slot_to, offset_to, collected_deal}

-- a deal that can be collected: its size is allowed, and no two standing areas overlap
pub record Collectable (deal : List ℕ) : Type 0 where
  pub lent : lent_size_allowed (length deal) ≡ true
  pub apart : RangesApart (ranges_of deal) (entry_count (length deal))

-- a deal that is collected into a second one
pub record Collects (deal table : List ℕ) (second : LentDeal) (second_table : List ℕ) : Type 0 where
  pub collectable : Collectable deal
  pub table_sized_lem : table_sized (length deal) table ≡ true
  pub second_sized : table_sized (length deal) second_table ≡ true
  pub second_length : deal_size second ≡ length deal
  pub clear : no_stray_bits deal ≡ true
  pub tree_sized_lem : second.tree_sized ≡ true

-- the areas of two standing entries have a byte in common
pub record TwoStanding (deal : List ℕ) : Type 0 where
  pub upper : ℕ
  pub lower : ℕ
  pub upper_in : upper < entry_count (length deal)
  pub below : lower < upper
  pub upper_stands : standing (length deal) (slot_at deal upper) ≡ true
  pub lower_stands : standing (length deal) (slot_at deal lower) ≡ true
  pub common : overlaps (ranges_of deal upper).offset (ranges_of deal upper).area (ranges_of deal lower) ≡ true

pub record Overlaps (deal table : List ℕ) (second : LentDeal) (second_table : List ℕ) : Type 0 where
  pub lent : lent_size_allowed (length deal) ≡ true
  pub table_sized_lem : table_sized (length deal) table ≡ true
  pub second_sized : table_sized (length deal) second_table ≡ true
  pub second_length : deal_size second ≡ length deal
  pub clear : no_stray_bits deal ≡ true
  pub tree_sized_lem : second.tree_sized ≡ true
  pub two : TwoStanding deal

-- slot x of the collected deal holds the row of an old slot, and of no other
pub record From (deal : List ℕ) (x : ℕ) : Type 0 where
  pub old : ℕ
  pub old_in : old < entry_count (length deal)
  pub stood : standing (length deal) (slot_at deal old) ≡ true
  pub moves : slot_to deal old ≡ x
  pub row_is :
      row_at (collected_deal deal) x ≡ holds (row_at deal old).commitment (offset_to deal old) (row_at deal old).size
  pub kept_is : kept_at (lent_deal (collected_deal deal)) x ≡ kept_at (lent_deal deal) old
  pub only : (j : ℕ) → j < entry_count (length deal) → standing (length deal) (slot_at deal j) ≡ true
      → slot_to deal j ≡ x → j ≡ old

-- what the routine that writes asks for: a deal that can be collected, and a table and second ones of its length
pub record Movable (deal table second second_table : List ℕ) : Type 0 where
  pub collectable : Collectable deal
  pub table_sized_lem : table_sized (length deal) table ≡ true
  pub second_sized : table_sized (length deal) second_table ≡ true
  pub second_length : length second ≡ length deal
