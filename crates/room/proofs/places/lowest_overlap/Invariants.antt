use Rattle.std.proofs.Common.{◌≡◌, ℕ, ◌-◌, Bool, List, length}
use Rattle.rules.specs.Search.{lowest}
use Rattle.room.specs.Room.{Range, ranges_in, overlaps}
use Rattle.room.proofs.places.lowest_overlap.Given as goal

-- slot i of the ranges overlaps the area
abbrev pub overlaps_at : List Range → Range → ℕ → Bool
overlaps_at ranges range i = overlaps range.offset range.area (ranges_in ranges i)

abbrev pub invariant-loop-i : goal.invariant-loop-i
invariant-loop-i l =
    let p = overlaps_at l.ranges l.range in
    lowest p 0 (length l.ranges) ≡ lowest p l.i (length l.ranges - l.i)
