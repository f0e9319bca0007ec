-- `put_lane`: after t turns the first t words of the lane are written, and nothing else.
use Rattle.std.proofs.Common.{◌≡◌, arith, rules}
use Rattle.lanes.proofs.LaneLaws.{written_all}
use Rattle.lanes.proofs.lane.put_lane.Goals as goal

pub returns : goal.returns
returns g c =
    let l = c.loop-t in
    let e : l.t ≡ g.row.N = omega arith in
    written_all g.row.N c.args.s.now c.args.words c.args.l l.s (search rules) c.requires.0 (rw e at l.invariant)
