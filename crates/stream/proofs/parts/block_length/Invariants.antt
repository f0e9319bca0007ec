-- `block_length`: the size is that of a block that fits.
use Prim.Native.Nat.{◌+◌, ◌-◌, ◌≤◌}
use Rattle.stream.specs.Stream.{largest}
use Rattle.stream.specs.Parts.{Block}
use Rattle.stream.proofs.parts.block_length.Given as goal

abbrev pub invariant-loop-size : goal.invariant-loop-size
invariant-loop-size l = (l.size ≤ l.left) × (l.count + l.size ≤ largest) × Block l.count l.size

abbrev pub decreases-loop-size : goal.decreases-loop-size
decreases-loop-size l = l.left - l.size
