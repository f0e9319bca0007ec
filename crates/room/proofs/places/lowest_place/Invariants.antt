use Rattle.std.proofs.Common.{◌≡◌, ℕ, ◌-◌, ◌*◌, Bool, List, length}
use Rattle.rules.specs.Search.{lowest}
use Rattle.room.specs.Room.{Range, ranges_in, fits}
use Rattle.room.proofs.places.lowest_place.Given as goal

-- the area from k times its size on fits
abbrev pub fits_at : List Range → ℕ → ℕ → Bool
fits_at ranges area k = fits (ranges_in ranges) (length ranges) area (k * area)

abbrev pub invariant-loop-k : goal.invariant-loop-k
invariant-loop-k l =
    lowest (fits_at l.ranges l.area) 0 l.places ≡ lowest (fits_at l.ranges l.area) l.k (l.places - l.k)

abbrev pub decreases-loop-k : goal.decreases-loop-k
decreases-loop-k l = l.places - l.k
