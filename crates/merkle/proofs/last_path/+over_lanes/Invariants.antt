-- The levels falls with each call.
use Rattle.merkle.proofs.last_path.+over_lanes.Given as goal

abbrev pub decreases-over_lanes : goal.decreases-over_lanes
decreases-over_lanes l = l.levels
