-- `zero_root`: after i turns the node is the commitment of 2^i nodes of zeros.
use mathlib.Core.Path.{◌≡◌}
use Rattle.merkle.proofs.FilledParts.{zeros}
use Rattle.merkle.proofs.filled.zero_root.Given as goal

abbrev pub invariant-loop : goal.invariant-loop
invariant-loop l = l.node ≡ zeros l.counter
