-- What is left to play of the log, with the ledger and the number so far, is what the whole log plays to.
use Rattle.std.specs.Prelude.{◌≡◌, true, ◌+◌, ◌≤◌, length}
use Rattle.clerk_log.specs.Log.{log_lines}
use Rattle.clerk_log.specs.LineAt.{is_log}
use Rattle.playback.specs.Playback.{played_log}
use Rattle.playback.proofs.PlayedLog.{play_on}
use Rattle.playback.proofs.play.Given as goal

abbrev pub invariant-loop-rest : goal.invariant-loop-rest
invariant-loop-rest l =
    (l.ledger.size ≡ l.size)
    × (l.number + length l.rest ≤ length l.log + 1)
    × (is_log (log_lines l.size l.rest) ≡ true)
    × (played_log l.size (log_lines l.size l.log) ≡ play_on l.size l.ledger.rows l.number (log_lines l.size l.rest))

abbrev pub decreases-loop-rest : goal.decreases-loop-rest
decreases-loop-rest l = length l.rest
