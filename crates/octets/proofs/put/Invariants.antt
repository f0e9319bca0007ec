-- After i turns the first i bytes of s are written.
use Rattle.std.specs.Prelude.{◌≡◌, length}
use lib.Seq.{paste}
use Rattle.octets.proofs.put.Given as goal

abbrev pub invariant-loop-i : goal.invariant-loop-i
invariant-loop-i l = (l.d ≡ paste l.initial.d l.at l.s l.i) × (length l.d ≡ length l.initial.d)
