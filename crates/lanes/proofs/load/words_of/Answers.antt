-- `words_of`: after t turns the first t words stand.
use Prim.Native.Nat.{◌*◌}
use mathlib.Core.Path.{refl, ◌∙◌}
use native.Mathlib.Omega.{arith}
use Rattle.sha256.specs.TableLaws.{stored_none, stored_more, stored_all}
use Rattle.lanes.proofs.LoadLaws.{part_table}
use Rattle.lanes.proofs.load.words_of.Goals as goal

pub loop-t-init : goal.loop-t-init
loop-t-init c = stored_none _ 8 _ refl

pub loop-t-preserved : goal.loop-t-preserved
loop-t-preserved c = stored_more c.loop-t.invariant (omega arith) refl

pub returns : goal.returns
returns c =
    stored_all c.loop-t.invariant (omega arith)
    ∙ part_table c.args.words.now (8 * c.args.l) 8 (omega (arith, c.requires.1))
