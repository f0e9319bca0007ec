-- `node_in`: the lowest level stands in the deal, each other in the buffer.
use mathlib.Core.Path.{sym, ap, ◌∙◌}
use Prim.Native.Nat.{ℕ}
use native.Mathlib.Omega.{arith}
use lib.ListN.{length}
use Rattle.octets.specs.Splice.{part}
use Rattle.tree.specs.PlaceLaws.{leaf_inside, place_inside}
use Rattle.tree.specs.TreeNodesLaws.{node_of_deal, node_of_buffer}
use Rattle.tree.proofs.nodes.node_in.Goals as goal

pub overflow_mul-position : goal.overflow_mul-position
overflow_mul-position c =
    let a = c.args in
    let D = length a.deal.now in
    record { fits = omega (arith, leaf_inside D a.level a.position c.requires.0 (omega arith)) }

pub array_at-requires : goal.array_at-requires
array_at-requires c =
    let a = c.args in
    let D = length a.deal.now in
    (omega arith, leaf_inside D a.level a.position c.requires.0 (omega arith))

pub returns-then-level-eq0 : goal.returns-then-level-eq0
returns-then-level-eq0 c =
    let a = c.args in
    c.array_at.ensures ∙ sym (node_of_deal a.deal.now a.tree.now a.level a.position (omega arith))

pub node_place-requires : goal.node_place-requires
node_place-requires c = (omega arith, c.requires.0)

pub array_at-requires-2 : goal.array_at-requires-2
array_at-requires-2 c =
    let a = c.args in
    let D = length a.deal.now in (
      omega arith,
      omega (arith, c.node_place.ensures, c.requires.1, place_inside D a.level a.position c.requires.0 (omega arith)),
    )

pub returns : goal.returns
returns c =
    let a = c.args in
    c.array_at-2.ensures
    ∙ ap (λ (at : ℕ). part a.tree.now at 32) c.node_place.ensures
    ∙ sym (node_of_buffer a.deal.now a.tree.now a.level a.position (omega arith))
