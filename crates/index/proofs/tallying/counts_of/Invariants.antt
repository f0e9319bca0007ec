use Rattle.index.proofs.Counting.{Counting}
use Rattle.index.proofs.tallying.counts_of.Given as goal

abbrev pub invariant-loop-i : goal.invariant-loop-i
invariant-loop-i l = Counting l.deal.bytes.now l.i-end l.i l.counts.blank l.counts.damaged l.counts.valid
