-- `in_each_lane`: after i turns the first i words stand.
use mathlib.Core.Path.{refl}
use native.Mathlib.Omega.{arith}
use Rattle.sha256.specs.TableLaws.{stored_none, stored_more, stored_all}
use Rattle.lanes.proofs.LaneLaws.{lane_same}
use borrow.Author.Rules.{rules}
use Rattle.lanes.proofs.lane.in_each_lane.Goals as goal

pub loop-i-init : goal.loop-i-init
loop-i-init c = stored_none _ 128 _ refl

pub loop-i-preserved : goal.loop-i-preserved
loop-i-preserved c = stored_more c.loop-i.invariant (omega arith) refl

pub returns : goal.returns
returns c = λ q b.
    rw (stored_all c.loop-i.invariant (omega arith)) (lane_same c.args.words 8 q (search rules) b)
