use Rattle.std.proofs.Common.{◌≡◌, length}
use Rattle.sizes.specs.Sizes.{entry_count}
use Rattle.audit.proofs.Written.{written_to}
use Rattle.audit.proofs.write_states.Given as goal

abbrev pub invariant-loop-i : goal.invariant-loop-i
invariant-loop-i l =
    l.states ≡ written_to l.deal.bytes.now l.initial.states (entry_count (length l.deal.bytes.now)) l.i
