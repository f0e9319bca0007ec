-- `take_parts`: what the rest of the piece makes of the state is what the whole piece made of the state before.
use mathlib.Core.Path.{◌≡◌}
use lib.ListN.{length}
use Rattle.stream.specs.Stream.{take_piece}
use Rattle.stream.proofs.Stream.take_parts.Given as goal

abbrev pub invariant-loop-rest : goal.invariant-loop-rest
invariant-loop-rest l = (l.self.code ≡ 0) × (take_piece l.fn.self l.piece ≡ take_piece l.self l.rest)

abbrev pub decreases-loop-rest : goal.decreases-loop-rest
decreases-loop-rest l = length l.rest
