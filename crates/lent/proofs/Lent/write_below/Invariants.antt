-- Writing the whole path into the output as it was is writing what is left of it into the output as it is.
use mathlib.Core.Path.{◌≡◌}
use Prim.Native.Nat.{◌+◌, ◌*◌}
use lib.ListN.{length}
use Rattle.octets.specs.Splice.{splice}
use Rattle.sizes.specs.Sizes.{deal_level}
use Rattle.paths.specs.Siblings.{siblings}
use Rattle.lent.specs.Seen.{seen}
use Rattle.lent.proofs.Ways.{OnWay}
use Rattle.lent.proofs.WriteLoops.{left}
use Rattle.lent.proofs.Lent.write_below.Given as goal

abbrev pub invariant-loop-i : goal.invariant-loop-i
invariant-loop-i l =
    let nodes = (seen l.self).nodes in
    OnWay nodes (deal_level (length l.self.bytes.now)) l.levels l.level l.i l.x
    × (splice l.initial.out l.at (siblings nodes l.levels l.level l.initial.x.position)
    ≡ splice l.out (l.at + 32 * l.i) (left nodes l.levels l.level l.i l.x.position))
