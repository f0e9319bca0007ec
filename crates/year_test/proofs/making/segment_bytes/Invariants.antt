-- `segment_bytes`: the length stays.
use Rattle.std.proofs.Common.{◌≡◌, length}
use Rattle.year_test.proofs.making.segment_bytes.Given as goal

abbrev pub invariant-loop-i : goal.invariant-loop-i
invariant-loop-i l = 4096 ≡ length l.bytes
