-- The last difference along the whole path is that along what is left of it, on top of the last one seen. With a tree
-- the node on the way is looked up at each level; without one the deal's own path leads to it.
use mathlib.Core.Path.{◌≡◌}
use Prim.Native.Nat.{◌+◌, ◌-◌, ◌*◌}
use lib.ListN.{length, drop}
use Rattle.sizes.specs.Sizes.{deal_level}
use Rattle.paths.specs.CompareOwn.{compared_with_own}
use Rattle.lent.specs.Seen.{seen}
use Rattle.lent.proofs.OwnLoops.{OwnTurn}
use Rattle.lent.proofs.Lent.compare_with_own.Given as goal

abbrev pub invariant-loop-i : goal.invariant-loop-i
invariant-loop-i l =
    let nodes = (seen l.self).nodes in
    OwnTurn nodes (deal_level (length l.self.bytes.now)) l.own l.levels l.level l.i l.p l.b
    × (compared_with_own nodes l.levels l.level l.initial.p l.initial.a l.path l.initial.last
    ≡ compared_with_own nodes (l.levels - l.i) (l.level + l.i) l.p l.a (drop (l.i * 32) l.path) l.last)
