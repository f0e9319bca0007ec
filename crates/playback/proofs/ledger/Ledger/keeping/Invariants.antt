use Rattle.std.specs.Prelude.{◌≡◌, ◌-◌, ◌≤◌}
use Rattle.rules.specs.Search.{lowest}
use Rattle.playback.specs.Steps.{keeps_at}
use Rattle.playback.proofs.ledger.Ledger.keeping.Given as goal

abbrev pub invariant-loop-i : goal.invariant-loop-i
invariant-loop-i l =
    lowest (keeps_at l.self.rows l.line) 0 l.i-end ≡ lowest (keeps_at l.self.rows l.line) l.i (l.i-end - l.i)
