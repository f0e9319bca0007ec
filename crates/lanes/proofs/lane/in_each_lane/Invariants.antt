-- `in_each_lane`: after i turns the first i words stand.
use Prim.Native.Nat.{◌/◌}
use lib.ListN.{get_or}
use Rattle.sha256.specs.TableLaws.{Stored}
use Rattle.lanes.proofs.lane.in_each_lane.Given as goal

abbrev pub invariant-loop-i : goal.invariant-loop-i
invariant-loop-i l = Stored (λ j. get_or l.words (j / 16) 0) 128 l.i l.lanes
