-- `padding_rounds`: after some turns every lane has gone through sixteen rounds for each.
use mathlib.Core.Path.{◌≡◌, ◌∙◌}
use mathlib.Core.List.{[]}
use native.Mathlib.Omega.{arith}
use Rattle.node.specs.PaddingBlock.{padding_sums}
use Rattle.node.specs.PaddingBlockLaws.{padding_rounds}
use Rattle.lanes.specs.Lanes.{lane}
use Rattle.lanes.proofs.BlockLaws.{rounds_none, bare_next}
use borrow.Author.Rules.{rules}
use Rattle.lanes.proofs.block.padding_rounds.Goals as goal

pub loop-turn-init : goal.loop-turn-init
loop-turn-init c = rounds_none _ padding_sums _ (λ l. []) (search rules)

pub loop-turn-preserved : goal.loop-turn-preserved
loop-turn-preserved c =
    let l = c.loop-turn in
    bare_next _ padding_sums c.args.hash l.s _ _ l.turn l.invariant c.padding_sums.ensures c.bare_turn.ensures

pub returns : goal.returns
returns c =
    let o = c.loop-turn in
    let e : o.turn ≡ 4 = omega arith in
    let a = rw e at o.invariant in
    record { sized = a.sized; words = λ l b. a.words l b ∙ padding_rounds (lane 8 c.args.hash l) }
