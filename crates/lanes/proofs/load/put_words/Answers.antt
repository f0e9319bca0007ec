-- `put_words`: after t turns the first t words of the node are written.
use Prim.Native.Nat.{◌*◌}
use mathlib.Core.Path.{◌≡◌, ◌∙◌}
use native.Mathlib.Omega.{arith}
use lib.ListN.{length, length-set}
use Rattle.octets.specs.PasteLaws.{paste_next, paste_whole}
use borrow.Author.Rules.{rules}
use Rattle.lanes.proofs.load.put_words.Goals as goal

pub loop-t-preserved : goal.loop-t-preserved
loop-t-preserved c =
    let o = c.loop-t in
    let n : length c.args.node ≡ 8 = search rules in (
      simp length-set o.invariant.0,
      paste_next c.args.words.now (8 * c.args.l) c.args.node o.words o.t (omega (arith, c.requires.1))
          (omega arith) o.invariant.1,
    )

pub returns : goal.returns
returns c =
    let o = c.loop-t in
    let n : length c.args.node ≡ 8 = search rules in
    o.invariant.1 ∙ paste_whole c.args.words.now (8 * c.args.l) c.args.node o.t (omega arith)
