-- `store_nodes`: after i turns the bytes of the first i words are written.
use mathlib.Core.Path.{◌≡◌}
use lib.ListN.{length}
use Rattle.octets.specs.Splice.{splice}
use Rattle.lanes.proofs.StoreLaws.{first_bytes}
use Rattle.lanes.proofs.store.store_nodes.Given as goal

abbrev pub invariant-loop-i : goal.invariant-loop-i
invariant-loop-i l =
    (length l.run ≡ length l.initial.run)
    × (l.run ≡ splice l.initial.run l.at (first_bytes l.words l.i))
