-- `sums`: after i turns the first i sums stand.
use Rattle.std.proofs.Common.{get_or}
use Rattle.sha256.specs.Fips.{◌⊞◌}
use Rattle.sha256.specs.TableLaws.{Stored}
use Rattle.sha256.proofs.block.sums.Given as goal

abbrev pub invariant-loop-i : goal.invariant-loop-i
invariant-loop-i l = Stored (λ j. get_or l.hash j 0 ⊞ get_or l.s j 0) 8 l.i l.total
