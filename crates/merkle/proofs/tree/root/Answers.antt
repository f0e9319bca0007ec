-- `root`: one node after the other, or the node over the nodes in eight lanes or in sixteen.
use mathlib.Core.Path.{refl, sym, ap, subst, ◌∙◌}
use mathlib.Core.List.{List}
use Prim.Native.Nat.{ℕ, ◌+◌, ◌-◌, ◌*◌, ◌/◌}
use native.Mathlib.Omega.{arith}
use lib.ListN.{length}
use Rattle.octets.specs.Splice.{part}
use Rattle.octets.specs.SpliceLaws.{part_whole}
use Rattle.lanes.specs.NodeWords.{Holds}
use Rattle.merkle.specs.Tree.{commitment_of, pairs_of}
use Rattle.merkle.specs.TreeLaws.{single}
use Rattle.merkle.proofs.Parts.{over_sixteen, over_parts, sixteenth, all_sixteen}
use Rattle.merkle.proofs.tree.root.Goals as goal

pub returns-then-height-eq3 : goal.returns-then-height-eq3
returns-then-height-eq3 c =
    let a = c.args in
    let run = a.run.now in
    let nodes = c.load_nodes in
    c.over_eight.ensures (λ l. commitment_of 0 (part run (0 + l * 32) 32))
    (λ l b. subst (λ (n : List ℕ). Holds nodes.result l n) (sym (single run (0 + l * 32))) (nodes.ensures l b))
    ∙ over_parts 3 0 a.height 32 (length run) 0 run refl (omega (arith, c.if-height-eq3.true)) c.requires
    ∙ ap (commitment_of a.height) (part_whole run)

pub lane_roots-requires : goal.lane_roots-requires
lane_roots-requires c =
    let a = c.args in
    let e = all_sixteen a.height (length a.run.now) c.requires (omega arith) in
    (sixteenth a.height (length a.run.now) c.requires (omega arith), omega arith)

pub returns : goal.returns
returns c =
    let a = c.args in
    let run = a.run.now in
    let step : ℕ = length run / 16 in
    let x : ℕ → List ℕ = λ l. commitment_of (a.height - 4) (part run (0 + l * step) step) in
    c.over_eight-2.ensures (pairs_of x) (c.level_above.ensures x c.lane_roots.ensures)
    ∙ over_sixteen x
    ∙ over_parts 4 (a.height - 4) a.height step (length run) 0 run
    (sixteenth a.height (length run) c.requires (omega arith)) (omega arith) c.requires
    ∙ ap (commitment_of a.height) (part_whole run)
