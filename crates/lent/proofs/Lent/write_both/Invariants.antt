-- Writing both whole paths into the output as it was is writing what is left of them into the output as it is.
use mathlib.Core.Path.{◌≡◌}
use lib.ListN.{length}
use Rattle.octets.specs.Splice.{splice}
use Rattle.sizes.specs.Sizes.{deal_level}
use Rattle.paths.specs.Siblings.{siblings}
use Rattle.lent.specs.Seen.{seen}
use Rattle.lent.proofs.Ways.{OnWay}
use Rattle.lent.proofs.WriteLoops.{both_left}
use Rattle.lent.proofs.Lent.write_both.Given as goal

abbrev pub invariant-loop-i : goal.invariant-loop-i
invariant-loop-i l =
    let nodes = (seen l.self).nodes in
    OnWay nodes (deal_level (length l.self.bytes.now)) l.levels l.level l.i l.x
    × OnWay nodes (deal_level (length l.self.bytes.now)) l.levels l.level l.i l.y
    × (splice (splice l.initial.out l.at (siblings nodes l.levels l.level l.initial.x.position)) l.second_at
    (siblings nodes l.levels l.level l.initial.y.position)
    ≡ both_left nodes l.out l.at l.second_at l.levels l.level l.i l.x.position l.y.position)
