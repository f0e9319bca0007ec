-- `over_pairs`: the left nodes and the right ones, side by side.
use Prim.Native.Nat.{◌+◌, ◌*◌}
use Rattle.octets.specs.Splice.{part}
use Rattle.tree.proofs.above.over_pairs.Goals as goal

pub returns : goal.returns
returns c =
    let a = c.args in
    λ l k. c.hash_nodes.ensures l k
    (part a.run.now (0 + l * 64) 32) (part a.run.now (32 + l * 64) 32)
    (c.load_nodes-left.ensures l k) (c.load_nodes-right.ensures l k)
