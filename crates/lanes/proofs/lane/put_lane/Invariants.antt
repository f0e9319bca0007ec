-- `put_lane`: after t turns the first t words of the lane are written, and nothing else.
use Rattle.lanes.proofs.LaneLaws.{Written}
use Rattle.lanes.proofs.lane.put_lane.Given as goal

abbrev pub invariant-loop-t : goal.invariant-loop-t
invariant-loop-t g l = Written g.row.N l.initial.s l.words l.l l.t l.s
