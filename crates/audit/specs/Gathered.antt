-- A lent deal without a tree, and the ranges that were gathered of its slots: what the routines that judge a slot ask
-- for.
use Rattle.std.specs.Prelude.{◌≡◌, List, length}
use Rattle.sizes.specs.Sizes.{entry_count}
use Rattle.lent.specs.LentDeal.{lent_deal}
use Rattle.lent.specs.Seen.{seen}
use Rattle.lent.specs.declared.Lent.{Lent}
use Rattle.room.specs.Room.{Range, SameBelow, ranges_in}
use Rattle.ranges.specs.Ranges.{ranges_of}

pub record Gathered (deal : Lent) (ranges : List Range) : Type 0 where
  pub alone : seen deal ≡ lent_deal deal.bytes.now
  pub same : SameBelow (entry_count (length deal.bytes.now)) (ranges_in ranges) (ranges_of deal.bytes.now)
