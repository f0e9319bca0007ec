-- `sound_run`: the length stays.
use Rattle.std.proofs.Common.{◌≡◌, length}
use Rattle.hash_test.proofs.sound_run.Given as goal

abbrev pub invariant-loop-i : goal.invariant-loop-i
invariant-loop-i l = length l.run ≡ 4096
