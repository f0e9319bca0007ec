use Rattle.std.proofs.Common.{◌≡◌, ◌+◌, ◌-◌, ◌≤◌, length}
use Rattle.rules.specs.Search.{count}
use Rattle.room.specs.Room.{ranges_in}
use Rattle.houses.specs.Houses.{holds}
use Rattle.houses.proofs.held_count.Given as goal

-- so many slots are held up to i, and those from i on are to be counted
abbrev pub invariant-loop-i : goal.invariant-loop-i
invariant-loop-i l =
    (l.held ≤ l.i)
    × (l.held + count (holds (ranges_in l.ranges) l.table l.house) l.i (length l.ranges - l.i)
    ≡ count (holds (ranges_in l.ranges) l.table l.house) 0 (length l.ranges))
