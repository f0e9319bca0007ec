-- `finish`: after some turns the working variables are those after sixteen rounds for each, with the sums as constants
-- and no schedule.
use Rattle.std.proofs.Common.{◌≡◌, [], refl, ap, ◌∙◌, arith}
use Rattle.sha256.specs.Fips.{rounds, sums, compress}
use Rattle.sha256.specs.BlockLaws.{rounds_turn}
use Rattle.node.specs.PaddingBlock.{padding_sums}
use Rattle.node.specs.PaddingBlockLaws.{padding_rounds}
use Rattle.node.proofs.padding_block.finish.Goals as goal

pub loop-turn-init : goal.loop-turn-init
unfolding rounds
loop-turn-init c = refl

pub loop-turn-preserved : goal.loop-turn-preserved
loop-turn-preserved c =
    let l = c.loop-turn in
    rounds_turn padding_sums [] _ l.s _ [] _ l.turn l.invariant c.padding_sums.ensures
    (λ i b. refl) c.sixteen_bare_rounds-after.ensures

pub returns : goal.returns
unfolding compress
returns c =
    let l = c.loop-turn in
    let hash = c.args.hash in
    let e : l.turn ≡ 4 = omega arith in
    c.sums.ensures ∙ ap (sums hash) ((rw e at l.invariant) ∙ padding_rounds hash)
