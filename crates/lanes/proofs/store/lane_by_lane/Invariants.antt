-- `lane_by_lane`: the words of the lanes below l stand.
use Rattle.lanes.specs.Lanes.{lane}
use Rattle.lanes.proofs.PlacedLaws.{Placed}
use Rattle.lanes.proofs.store.lane_by_lane.Given as goal

abbrev pub invariant-loop-l : goal.invariant-loop-l
invariant-loop-l l = Placed (lane 8 l.nodes) l.l l.words
