-- `bare_turn`: the lanes below l are done.
use Rattle.lanes.proofs.EachLaws.{Below}
use mathlib.Core.List.{[]}
use Rattle.sha256.specs.Fips.{rounds}
use Rattle.lanes.proofs.turn.bare_turn.Given as goal

abbrev pub invariant-loop-l : goal.invariant-loop-l
invariant-loop-l l = Below 8 (λ q x. rounds l.k [] x 16) l.initial.s l.l l.s
