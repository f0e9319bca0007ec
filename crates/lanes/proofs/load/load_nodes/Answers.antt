-- `load_nodes`: the words of the nodes below l are loaded.
use native.Mathlib.Omega.{arith}
use Rattle.lanes.proofs.LoadLaws.{words_length, held_nodes}
use Rattle.lanes.proofs.PlacedLaws.{placed_next}
use Rattle.lanes.proofs.load.load_nodes.Goals as goal

pub loop-l-preserved : goal.loop-l-preserved
loop-l-preserved c =
    let o = c.loop-l in
    placed_next _ o.l o.words _ _ (omega arith) (words_length _) o.invariant c.words_at.ensures
    c.put_words.ensures

pub returns : goal.returns
returns c = λ l b.
    let o = c.loop-l in
    let a = c.args in
    held_nodes a.run.now a.step a.at a.count o.l l o.words c.in_lanes.result c.requires.1
    (omega arith) o.invariant b (c.in_lanes.ensures l b)
