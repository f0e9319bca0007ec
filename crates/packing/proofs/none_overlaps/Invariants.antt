use Rattle.std.proofs.Common.{◌≡◌, ◌-◌, length}
use Rattle.rules.specs.Search.{lowest}
use Rattle.room.specs.Room.{ranges_in}
use Rattle.packing.specs.Order.{overlaps_lower}
use Rattle.packing.proofs.none_overlaps.Given as goal

abbrev pub invariant-loop-i : goal.invariant-loop-i
invariant-loop-i l =
    let p = overlaps_lower (ranges_in l.ranges) in
    lowest p 0 (length l.ranges) ≡ lowest p l.i (length l.ranges - l.i)
