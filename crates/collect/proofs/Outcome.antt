-- What is ready where nothing refuses a collection.
use mathlib.Core.Path.{◌≡◌, ap, ◌∙◌}
use mathlib.Core.List.{List}
use Prim.Native.Nat.{ℕ}
use lib.ListN.{length, take}
use Rattle.sizes.specs.Sizes.{lent_size_allowed, entry_count}
use Rattle.sizes.specs.SizesLaws.{LentSize, lent_size}
use Rattle.lent.specs.LentDeal.{LentDeal}
use Rattle.room.specs.Room.{Range, SameBelow, ranges_in}
use Rattle.ranges.specs.Ranges.{ranges_of}
use Rattle.houses.specs.HousesLaws.{sized_length}
use Rattle.packing.specs.NoOverlapLaws.{none_overlaps_lem}
use Rattle.collect.specs.Collect.{collected_deal}
use Rattle.collect.specs.Collectable.{Collects, Movable}
use Rattle.collect.specs.Ready.{Ready}
use Rattle.collect.proofs.CollectLaws.{collected_length}
use Rattle.collect.proofs.Gathered.{first_gathered, first_slots}

-- the ranges of a deal that can be collected are ready to be written by
pub ready : {deal table second second_table : List ℕ} → Movable deal table second second_table → (ranges : List Range)
    → SameBelow (entry_count (length deal)) (ranges_in ranges) (ranges_of deal) → length ranges ≡ 128
    → Ready deal (take (length table) ranges)
ready {deal} {table} m ranges gathered long =
    let slots_are = sized_length (length deal) table m.table_sized_lem in
    record {
      lent = m.collectable.lent;
      none_overlaps_lem = (none_overlaps_lem (ranges_of deal) (entry_count (length deal))).1 m.collectable.apart;
      gathered = first_gathered deal ranges (length table) m.collectable.lent gathered slots_are long;
      slots_are = first_slots deal ranges (length table) m.collectable.lent gathered slots_are long;
    }

-- where nothing refuses, the deal can be collected into the second one
pub movable : (deal table : List ℕ) (second : LentDeal) (second_table : List ℕ)
    → Collects deal table second second_table → Movable deal table second.bytes second_table
movable deal table second second_table c =
    record {
      collectable = c.collectable;
      table_sized_lem = c.table_sized_lem;
      second_sized = c.second_sized;
      second_length = c.second_length;
    }

-- the length of the new deal allows the level that its tree is filled to
module _ {deal table second second_table new : List ℕ} (m : Movable deal table second second_table)
    (e : new ≡ collected_deal deal) where
  pub same_length : length new ≡ length deal
  same_length = ap length e ∙ collected_length m.collectable

  pub new_lent : LentSize (length new)
  new_lent = lent_size (length new) (ap lent_size_allowed same_length ∙ m.collectable.lent)
