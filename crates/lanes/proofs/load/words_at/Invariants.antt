-- `words_at`: after t turns the first t words stand.
use Prim.Native.Nat.{◌+◌, ◌*◌}
use Rattle.sha256.specs.Fips.{word_at}
use Rattle.sha256.specs.TableLaws.{Stored}
use Rattle.lanes.proofs.load.words_at.Given as goal

abbrev pub invariant-loop-t : goal.invariant-loop-t
invariant-loop-t l = Stored (λ i. word_at l.run (l.at + 4 * i)) 8 l.t l.words
