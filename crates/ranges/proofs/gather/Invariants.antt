use Rattle.std.proofs.Common.{◌≡◌, ℕ, ◌≤◌, length}
use Rattle.room.specs.Room.{SameBelow, range, ranges_in}
use Rattle.ranges.specs.Ranges.{ranges_of}
use Rattle.ranges.proofs.gather.Given as goal

-- the first slots are gathered, and the others are as the array began
abbrev pub invariant-loop-i : goal.invariant-loop-i
invariant-loop-i l =
    (length l.ranges ≡ 128)
    × SameBelow l.i (ranges_in l.ranges) (ranges_of l.deal)
    × ((j : ℕ) → l.i ≤ j → ranges_in l.ranges j ≡ range 0 0)
