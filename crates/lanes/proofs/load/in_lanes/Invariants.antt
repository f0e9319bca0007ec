-- `in_lanes`: the lanes below l have their words.
use Prim.Native.Nat.{◌*◌}
use Rattle.octets.specs.Splice.{part}
use Rattle.lanes.proofs.EachLaws.{Below}
use Rattle.lanes.proofs.load.in_lanes.Given as goal

abbrev pub invariant-loop-l : goal.invariant-loop-l
invariant-loop-l l = Below 8 (λ q x. part l.words (8 * q) 8) l.initial.nodes l.l l.nodes
