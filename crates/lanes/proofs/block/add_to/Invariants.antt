-- `add_to`: the words below i are done.
use lib.ListN.{get_or}
use Rattle.sha256.specs.Fips.{◌⊞◌}
use Rattle.lanes.proofs.EachLaws.{Changed}
use Rattle.lanes.proofs.block.add_to.Given as goal

abbrev pub invariant-loop-i : goal.invariant-loop-i
invariant-loop-i l = Changed (λ p x. get_or l.hash p 0 ⊞ x) 0 l.initial.s l.i l.s
