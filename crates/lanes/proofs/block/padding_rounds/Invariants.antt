-- `padding_rounds`: after some turns every lane has gone through sixteen rounds for each.
use Prim.Native.Nat.{◌*◌}
use mathlib.Core.List.{[]}
use Rattle.sha256.specs.Fips.{rounds}
use Rattle.node.specs.PaddingBlock.{padding_sums}
use Rattle.lanes.specs.Lanes.{Each}
use Rattle.lanes.proofs.block.padding_rounds.Given as goal

abbrev pub invariant-loop-turn : goal.invariant-loop-turn
invariant-loop-turn l = Each l.count 8 (λ q x. rounds padding_sums [] x (16 * l.turn)) l.initial.s l.s
