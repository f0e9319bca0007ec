-- `rounds_turn`: the lanes below l are done.
use Rattle.lanes.proofs.EachLaws.{Below}
use Rattle.sha256.specs.Fips.{rounds}
use Rattle.lanes.specs.Lanes.{lane}
use Rattle.lanes.proofs.turn.rounds_turn.Given as goal

abbrev pub invariant-loop-l : goal.invariant-loop-l
invariant-loop-l l = Below 8 (λ q x. rounds l.k (lane 16 l.w q) x 16) l.initial.s l.l l.s
