use Rattle.playback.specs.declared.LedgerRow.{LedgerRow}
use Rattle.playback.specs.Ledger.{vacant}
use Rattle.playback.proofs.Mapped.{Mapped}
use Rattle.playback.proofs.ledger.Ledger.owners.Given as goal

abbrev pub invariant-loop-i : goal.invariant-loop-i
invariant-loop-i l = Mapped (λ (row : LedgerRow). row.house) l.self.rows vacant l.i l.owners
