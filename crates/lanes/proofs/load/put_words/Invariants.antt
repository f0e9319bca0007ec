-- `put_words`: after t turns the first t words of the node are written.
use Prim.Native.Nat.{◌*◌}
use mathlib.Core.Path.{◌≡◌}
use lib.ListN.{length}
use lib.Seq.{paste}
use Rattle.lanes.proofs.load.put_words.Given as goal

abbrev pub invariant-loop-t : goal.invariant-loop-t
invariant-loop-t l =
    (length l.words ≡ length l.initial.words) × (l.words ≡ paste l.initial.words (8 * l.l) l.node l.t)
