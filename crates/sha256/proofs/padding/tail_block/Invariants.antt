-- `tail_block`: after i turns the first i words stand.
use Rattle.std.proofs.Common.{◌+◌, ◌*◌}
use Rattle.sha256.specs.Fips.{word_at, pad}
use Rattle.sha256.specs.TableLaws.{Stored}
use Rattle.sha256.proofs.padding.tail_block.Given as goal

abbrev pub invariant-loop-i : goal.invariant-loop-i
invariant-loop-i l = Stored (λ j. word_at (pad l.m) (l.at + 4 * j)) 16 l.i l.w
