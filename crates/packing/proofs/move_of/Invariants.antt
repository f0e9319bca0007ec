use Rattle.std.proofs.Common.{◌≡◌}
use Rattle.room.specs.Room.{ranges_in}
use Rattle.packing.specs.Order.{new_slot, new_offset}
use Rattle.packing.proofs.move_of.Given as goal

abbrev pub invariant-loop-range : goal.invariant-loop-range
invariant-loop-range l =
    (l.slot ≡ new_slot (ranges_in l.ranges) l.range-index l.j)
    × (l.offset ≡ new_offset (ranges_in l.ranges) l.range-index l.j)
