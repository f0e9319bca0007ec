-- `every_other`: the lanes below l are taken over.
use Prim.Native.Nat.{◌+◌, ◌*◌}
use Rattle.lanes.specs.Lanes.{lane}
use Rattle.lanes.proofs.EachLaws.{Below}
use Rattle.lanes.proofs.every_other.Given as goal

abbrev pub invariant-loop-l : goal.invariant-loop-l
invariant-loop-l l = Below 8 (λ q x. lane 8 l.nodes (2 * q + l.first)) l.initial.half l.l l.half
