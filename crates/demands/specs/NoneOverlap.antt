-- Deals in which no standing area overlaps another.
use Rattle.std.specs.Prelude.{◌≡◌, true, List, ℕ, length}
use Rattle.sizes.specs.Sizes.{entry_count}
use Rattle.ranges.specs.Ranges.{ranges_of}
use Rattle.packing.specs.Order.{none_overlaps}

-- "no standing area overlaps another": what collection asks of a deal (20)
abbrev pub NoneOverlap : List ℕ → Type 0
NoneOverlap deal = none_overlaps (ranges_of deal) (entry_count (length deal)) ≡ true
