-- After i turns the first i bytes of s are written.
use mathlib.Core.Path.{refl, ◌∙◌}
use native.Mathlib.Omega.{arith}
use lib.ListN.{length-set}
use lib.Seq.{paste-zero}
use Rattle.octets.specs.PasteLaws.{paste_next, paste_whole}
use Rattle.octets.proofs.put.Goals as goal

pub loop-i-init : goal.loop-i-init
loop-i-init c = let a = c.args in (paste-zero a.d.now a.at a.s.now, refl)

pub loop-i-preserved : goal.loop-i-preserved
loop-i-preserved c =
    let a = c.args in (
      paste_next a.d.now a.at a.s.now c.loop-i.d c.loop-i.i (omega arith) (omega arith)
          c.loop-i.invariant.0,
      simp length-set (omega arith),
    )

pub returns : goal.returns
returns c =
    let a = c.args in
    c.loop-i.invariant.0 ∙ paste_whole a.d.now a.at a.s.now c.loop-i.i (omega arith)
