-- `load_nodes`: the words of the nodes below l are loaded.
use Prim.Native.Nat.{◌+◌, ◌*◌}
use Rattle.octets.specs.Splice.{part}
use Rattle.lanes.specs.NodeWords.{words_of}
use Rattle.lanes.proofs.PlacedLaws.{Placed}
use Rattle.lanes.proofs.load.load_nodes.Given as goal

abbrev pub invariant-loop-l : goal.invariant-loop-l
invariant-loop-l l =
    Placed (λ q. words_of (part l.run (l.at + q * l.step) 32)) l.l l.words
