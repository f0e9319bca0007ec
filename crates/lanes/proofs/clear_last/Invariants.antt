-- `clear_last`: the words from 112 up to i are done.
use Rattle.lanes.specs.NodeWords.{cleared_word}
use Rattle.lanes.proofs.EachLaws.{Changed}
use Rattle.lanes.proofs.clear_last.Given as goal

abbrev pub invariant-loop-i : goal.invariant-loop-i
invariant-loop-i l = Changed (λ p x. cleared_word x) 112 l.initial.s l.i l.s
