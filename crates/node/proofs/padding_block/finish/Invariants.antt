-- `finish`: after some turns the working variables are those after sixteen rounds for each, with the sums as constants
-- and no schedule.
use Rattle.std.proofs.Common.{◌≡◌, ◌*◌, []}
use Rattle.sha256.specs.Fips.{rounds}
use Rattle.node.specs.PaddingBlock.{padding_sums}
use Rattle.node.proofs.padding_block.finish.Given as goal

abbrev pub invariant-loop-turn : goal.invariant-loop-turn
invariant-loop-turn l = l.s ≡ rounds padding_sums [] l.hash (16 * l.turn)
