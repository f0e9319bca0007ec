-- `take_pieces`: the next piece starts within the bytes.
use Rattle.std.proofs.Common.{◌≤◌, length}
use Rattle.vectors.proofs.answers.take_pieces.Given as goal

abbrev pub invariant-loop-length : goal.invariant-loop-length
invariant-loop-length g l = l.at ≤ length l.bytes
