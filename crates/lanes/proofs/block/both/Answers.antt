-- `both`: after i turns the first i words of each half stand.
use mathlib.Core.Path.{◌≡◌, refl, sym, ◌∙◌}
use native.Mathlib.Omega.{arith}
use lib.ListN.{length-set}
use lib.Seq.{take_all}
use Rattle.sha256.specs.Table.{table}
use Rattle.lanes.proofs.BlockLaws.{left_more, right_more, both_written}
use borrow.Author.Rules.{rules}
use Rattle.lanes.proofs.block.both.Goals as goal

pub loop-i-init : goal.loop-i-init
unfolding table
loop-i-init c = (refl, refl, refl)

pub loop-i-preserved : goal.loop-i-preserved
loop-i-preserved c =
    let l = c.loop-i in
    let a = c.args in (
      simp length-set l.invariant.0,
      left_more a.left a.right l.w 128 l.i (omega arith) (omega arith) l.invariant.1,
      right_more a.left a.right l.w 128 l.i (omega arith) (omega arith) l.invariant.2,
    )

pub returns : goal.returns
returns c =
    let l = c.loop-i in
    let a = c.args in
    let e : l.i ≡ 128 = omega arith in
    sym (take_all 256 l.w (omega arith))
    ∙ both_written a.left a.right l.w 128 (search rules) (search rules) (rw e at l.invariant.1) (rw e at l.invariant.2)
