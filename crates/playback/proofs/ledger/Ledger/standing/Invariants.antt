use Rattle.std.specs.Prelude.{◌≤◌}
use Rattle.playback.proofs.Gathered.{Gathered}
use Rattle.playback.proofs.ledger.Ledger.standing.Given as goal

abbrev pub invariant-loop-i : goal.invariant-loop-i
invariant-loop-i l = (l.count ≤ l.i) × Gathered l.self.rows l.i-end l.i l.count l.rows
