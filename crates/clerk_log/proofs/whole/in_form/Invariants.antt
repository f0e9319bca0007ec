-- The log is in form where what is left of it is.
use Rattle.std.specs.Prelude.{◌≡◌, length}
use Rattle.clerk_log.specs.Log.{log_lines}
use Rattle.clerk_log.specs.LineAt.{is_log}
use Rattle.clerk_log.proofs.whole.in_form.Given as goal

abbrev pub invariant-loop-rest : goal.invariant-loop-rest
invariant-loop-rest l = is_log (log_lines l.size l.log) ≡ is_log (log_lines l.size l.rest)

abbrev pub decreases-loop-rest : goal.decreases-loop-rest
decreases-loop-rest l = length l.rest
