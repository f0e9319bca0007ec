-- `rounds`: after some turns every lane has gone through sixteen rounds for each, and has the words of the next turn.
use mathlib.Core.Path.{◌≡◌}
use native.Mathlib.Omega.{arith}
use lib.ListN.{length}
use Rattle.sha256.specs.Fips.{constants, schedule}
use Rattle.lanes.specs.Lanes.{lane}
use Rattle.lanes.proofs.BlockLaws.{rounds_none, words_none, rounds_next, words_next, rounds_all}
use borrow.Author.Rules.{rules}
use Rattle.lanes.proofs.block.rounds.Goals as goal

pub loop-turn-init : goal.loop-turn-init
loop-turn-init c =
    let w = c.both-w.result in
    let n : length w ≡ 256 = search rules in
    (rounds_none _ constants _ (λ l. schedule (lane 16 w l)) (search rules), n, λ more. words_none _ w n)

pub loop-turn-preserved : goal.loop-turn-preserved
loop-turn-preserved c =
    let l = c.loop-turn in
    let w = c.both-w.result in
    let hash = c.args.hash in
    let words = l.invariant.2 (omega arith) in (
      rounds_next _ hash l.s _ w l.w _ l.turn (omega arith) l.invariant.0 words
          c.constants.ensures c.rounds_turn.ensures,
      c.words_after.ensures.w_len,
      λ more. words_next _ w l.w _ l.turn words (c.words_after.ensures.each (omega arith)),
    )

pub returns : goal.returns
returns c =
    let l = c.loop-turn in
    let joined = c.both-w in
    let a = c.args in
    rounds_all _ a.hash l.s joined.result a.left a.right l.turn c.requires (omega arith)
    (search rules) joined.ensures l.invariant.0
