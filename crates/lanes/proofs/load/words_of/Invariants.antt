-- `words_of`: after t turns the first t words stand.
use Prim.Native.Nat.{◌+◌, ◌*◌}
use lib.ListN.{get_or}
use Rattle.sha256.specs.TableLaws.{Stored}
use Rattle.lanes.proofs.load.words_of.Given as goal

abbrev pub invariant-loop-t : goal.invariant-loop-t
invariant-loop-t l = Stored (λ i. get_or l.words (8 * l.l + i) 0) 8 l.t l.node
