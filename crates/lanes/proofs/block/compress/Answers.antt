-- `compress`: in each lane, the rounds, and the sums.
use Rattle.lanes.proofs.BlockLaws.{each_compress}
use mathlib.Core.List.{◌++◌}
use Rattle.lanes.specs.Lanes.{lane}
use Rattle.lanes.proofs.block.compress.Goals as goal

pub returns : goal.returns
returns c =
    let a = c.args in
    each_compress _ a.hash c.rounds-s.result _ (λ l. lane 8 a.left l ++ lane 8 a.right l)
    c.requires c.rounds-s.ensures c.add_to.ensures
