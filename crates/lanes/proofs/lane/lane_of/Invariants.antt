-- `lane_of`: after t turns the first t words stand.
use Rattle.std.proofs.Common.{◌+◌, ◌*◌, get_or}
use Rattle.sha256.specs.TableLaws.{Stored}
use Rattle.lanes.specs.Lanes.{lanes}
use Rattle.lanes.proofs.lane.lane_of.Given as goal

abbrev pub invariant-loop-t : goal.invariant-loop-t
invariant-loop-t g l = Stored (λ i. get_or l.s (lanes * i + l.l) 0) g.row.N l.t l.words
