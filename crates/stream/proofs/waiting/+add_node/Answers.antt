-- `add_node`: an even number of nodes, and the node waits; an odd one, and the node over two is one more, a height up.
use mathlib.Core.Path.{◌≡◌, sym, ap, ◌∙◌}
use mathlib.Core.List.{List, ◌++◌}
use Prim.Native.Nat.{ℕ, ◌+◌, ◌-◌, ◌/◌, ◌%◌}
use native.Mathlib.Omega.{arith}
use Rattle.node.specs.Node.{node_hash}
use Rattle.stream.specs.Stream.{with_node}
use Rattle.stream.proofs.HeightTurns.{goes_up, waits, height_left}
use Rattle.stream.proofs.waiting.+add_node.Goals as goal

pub returns-then-k-eq0 : goal.returns-then-k-eq0
returns-then-k-eq0 t c =
    let a = c.args in
    c.put_array.ensures.0 ∙ sym (waits a.height a.k a.node a.waiting.now (omega arith) c.if-k-eq0.true)

pub add_node-requires : goal.add_node-requires
add_node-requires t c =
    let a = c.args in
    let odd : a.k % 2 ≡ 1 = omega arith in
    let up = height_left a.height a.k c.requires.1 c.requires.2 odd in
    (omega arith, (c.requires.0, up.0, up.1))

pub returns : goal.returns
returns t c =
    let a = c.args in
    let w = a.waiting.now in
    let odd : a.k % 2 ≡ 1 = omega arith in
    let pair = c.join.ensures ∙ ap (λ (v : List ℕ). v ++ a.node) c.array_at-left.ensures in
    let parent = c.node_hash.ensures ∙ ap node_hash pair in
    c.add_node.ensures
    ∙ ap (λ (v : List ℕ). with_node (32 - (a.height + 1)) (a.height + 1) (a.k / 2) v w) parent
    ∙ sym (goes_up a.height a.k a.node w (omega arith) odd)
