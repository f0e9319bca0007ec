-- `no_stray_bits`: the nodes up to i are passed, and the rest decides.
use mathlib.Core.Path.{sym, ◌∙◌}
use Prim.Native.Nat.{◌+◌, ◌*◌, ◌/◌, ◌<◌}
use native.Mathlib.Nat.{sub-zero}
use native.Mathlib.Omega.{arith}
use lib.ListN.{length, get_or}
use Rattle.stray.specs.StrayBitsLaws.{walk_more, walk_stop, walk_end}
use Rattle.stray.proofs.no_stray_bits.Goals as goal

pub loop-i-init : goal.loop-i-init
loop-i-init c = simp sub-zero

pub returns-then-run-i-ge-LEAST_STRAY : goal.returns-then-run-i-ge-LEAST_STRAY
returns-then-run-i-ge-LEAST_STRAY c =
    let run = c.args.run.now in
    sym (c.loop-i.invariant ∙ walk_stop run (length run / 32) c.loop-i.i (omega arith) (omega arith))

pub loop-i-preserved : goal.loop-i-preserved
loop-i-preserved c =
    let run = c.args.run.now in
    let clear : get_or run (c.loop-i.i * 32 + 31) 0 < 64 = c.if-run-i-ge-LEAST_STRAY.false in
    c.loop-i.invariant ∙ walk_more run (length run / 32) c.loop-i.i (omega arith) clear

pub returns : goal.returns
returns c =
    let run = c.args.run.now in
    sym (c.loop-i.invariant ∙ walk_end run (length run / 32) c.loop-i.i (omega arith))
