use Rattle.playback.specs.Ledger.{vacant, ledger_range}
use Rattle.playback.proofs.Mapped.{Mapped}
use Rattle.playback.proofs.ledger.Ledger.ranges.Given as goal

abbrev pub invariant-loop-i : goal.invariant-loop-i
invariant-loop-i l = Mapped ledger_range l.self.rows vacant l.i l.ranges
