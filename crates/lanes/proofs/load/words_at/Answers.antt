-- `words_at`: after t turns the first t words stand.
use mathlib.Core.Path.{refl, ◌∙◌}
use native.Mathlib.Omega.{arith}
use Rattle.sha256.specs.TableLaws.{stored_none, stored_more, stored_all}
use Rattle.lanes.proofs.LoadLaws.{words_at}
use Rattle.lanes.proofs.load.words_at.Goals as goal

pub loop-t-init : goal.loop-t-init
loop-t-init c = stored_none _ 8 _ refl

pub loop-t-preserved : goal.loop-t-preserved
loop-t-preserved c = stored_more c.loop-t.invariant (omega arith) c.word_at.ensures

pub returns : goal.returns
returns c =
    let a = c.args in
    stored_all c.loop-t.invariant (omega arith) ∙ words_at a.run.now a.at
