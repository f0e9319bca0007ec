-- `zero_root`: after i turns the node is the commitment of 2^i nodes of zeros.
use mathlib.Core.Path.{ap, ◌∙◌}
use mathlib.Core.List.{List, ◌++◌}
use Prim.Native.Nat.{ℕ, ◌+◌}
use native.Mathlib.Numerals.{add-one}
use Rattle.node.specs.Node.{node_hash}
use Rattle.merkle.proofs.FilledParts.{zeros_lowest, zeros_above}
use Rattle.merkle.proofs.filled.zero_root.Goals as goal

pub loop-init : goal.loop-init
loop-init c = zeros_lowest

pub loop-preserved : goal.loop-preserved
loop-preserved c =
    let i = c.loop.counter in
    c.node_hash-node.ensures
    ∙ ap node_hash (c.join.ensures ∙ ap (λ (n : List ℕ). n ++ n) c.loop.invariant)
    ∙ zeros_above i (i + 1) (add-one i)
