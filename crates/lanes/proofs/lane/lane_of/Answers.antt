-- `lane_of`: after t turns the first t words stand.
use Rattle.std.proofs.Common.{refl, arith}
use Rattle.std.proofs.lemmas.List.{length-replicate}
use Rattle.sha256.specs.TableLaws.{stored_none, stored_more, stored_all}
use Rattle.lanes.proofs.lane.lane_of.Goals as goal

pub loop-t-init : goal.loop-t-init
loop-t-init g c = stored_none _ g.row.N _ (length-replicate _ _)

pub loop-t-preserved : goal.loop-t-preserved
loop-t-preserved g c = stored_more c.loop-t.invariant (omega arith) refl

pub returns : goal.returns
returns g c = stored_all c.loop-t.invariant (omega arith)
