-- The path leads where what is left of it leads from the running node.
use Rattle.std.specs.Prelude.{◌*◌, ◌/◌, length, drop}
use Rattle.std.proofs.Common.{sym, ◌∙◌, arith}
use native.Mathlib.Nat.{sub-zero}
use Rattle.paths.proofs.PathLoops.{root_next, root_over}
use Rattle.paths.proofs.path_root.Goals as goal

pub loop-i-init : goal.loop-i-init
loop-i-init c = simp sub-zero

pub loop-i-preserved : goal.loop-i-preserved
loop-i-preserved c =
    let path = c.args.path.now in
    simp (c.node_hash-parent.ensures, c.pair.ensures, c.array_at-sibling.ensures)
    (c.loop-i.invariant
    ∙ root_next (length path / 32) c.loop-i.i c.loop-i.p c.loop-i.running path (omega arith))

pub returns : goal.returns
returns c =
    let path = c.args.path.now in
    let i = c.loop-i.i in
    sym
    (c.loop-i.invariant
    ∙ root_over (length path / 32) i c.loop-i.p c.loop-i.running (drop (i * 32) path) (omega arith))
