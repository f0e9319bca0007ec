-- `node_at`: the commitment of the part below the node.
use Prim.Native.Nat.{ℕ, ◌*◌}
use mathlib.Core.Path.{sym, ap, ◌∙◌}
use Rattle.octets.specs.Splice.{part}
use Rattle.octets.specs.SpliceLaws.{part_range}
use Rattle.merkle.specs.Tree.{commitment_of}
use Rattle.merkle.specs.TreeLaws.{node_part}
use Rattle.merkle.proofs.tree.node_at.Goals as goal

pub returns : goal.returns
returns c =
    let a = c.args in
    let size = c.node_span-size.result in
    c.root.ensures
    ∙ ap (commitment_of a.level) (part_range a.run.now (a.position * size) size)
    ∙ ap (λ (n : ℕ). commitment_of a.level (part a.run.now (a.position * n) n)) c.node_span-size.ensures
    ∙ sym (node_part a.run.now a.level a.position)
