-- The last difference of the whole paths is that of what is left of them, on top of the last one seen.
use Rattle.std.specs.Prelude.{◌*◌, ◌/◌, length, drop}
use Rattle.std.proofs.Common.{sym, ◌∙◌, arith}
use native.Mathlib.Nat.{sub-zero}
use Rattle.paths.proofs.PathLoops.{compare_next, compare_over}
use Rattle.paths.proofs.compare_paths.Goals as goal

pub loop-i-init : goal.loop-i-init
loop-i-init c = simp sub-zero

pub loop-i-preserved : goal.loop-i-preserved
loop-i-preserved c =
    let left = c.args.left.now in
    let right = c.args.right.now in
    simp (
      c.node_hash-b.ensures,
      c.node_hash-a.ensures,
      c.compare_above-last.ensures,
      c.pair-right_string.ensures,
      c.array_at-in-loop-i.ensures,
      c.pair-left_string.ensures,
      c.array_at.ensures,
    )
    (c.loop-i.invariant
    ∙ compare_next (length left / 32) c.loop-i.i c.loop-i.p c.loop-i.a left c.loop-i.b right
    c.loop-i.last (omega arith))

pub returns : goal.returns
returns c =
    let left = c.args.left.now in
    let right = c.args.right.now in
    let i = c.loop-i.i in
    sym
    (c.loop-i.invariant
    ∙ compare_over (length left / 32) i c.loop-i.p c.loop-i.a (drop (i * 32) left) c.loop-i.b
    (drop (i * 32) right) c.loop-i.last (omega arith))
