-- `clear_last`: the words from 112 up to i are done.
use mathlib.Core.Path.{◌≡◌}
use native.Mathlib.Omega.{arith}
use Rattle.lanes.proofs.EachLaws.{each_cleared}
use Rattle.lanes.proofs.clear_last.Goals as goal

pub returns : goal.returns
returns c =
    let l = c.loop-i in
    let e : l.i ≡ 128 = omega arith in
    each_cleared c.args.s.now l.s c.requires (rw e at l.invariant)
