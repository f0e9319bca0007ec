-- `lane_by_lane`: the words of the lanes below l stand.
use native.Mathlib.Omega.{arith}
use Rattle.sha256.specs.TableLaws.{length_table}
use Rattle.lanes.proofs.PlacedLaws.{placed_next}
use Rattle.lanes.proofs.StoreLaws.{placed_lanes}
use Rattle.lanes.proofs.store.lane_by_lane.Goals as goal

pub loop-l-preserved : goal.loop-l-preserved
loop-l-preserved c =
    let o = c.loop-l in
    placed_next _ o.l o.words _ _ (omega arith) (length_table _ 8) o.invariant c.lane_of.ensures
    c.put_words.ensures

pub returns : goal.returns
returns c = placed_lanes _ c.loop-l.l c.loop-l.words (omega arith) c.loop-l.invariant
