-- `add_to`: the words below i are done.
use mathlib.Core.Path.{◌≡◌}
use native.Mathlib.Omega.{arith}
use Rattle.lanes.proofs.EachLaws.{each_sum}
use Rattle.lanes.proofs.block.add_to.Goals as goal

pub returns : goal.returns
returns c =
    let l = c.loop-i in
    let e : l.i ≡ 128 = omega arith in
    each_sum c.args.hash c.args.s.now l.s c.requires (rw e at l.invariant)
