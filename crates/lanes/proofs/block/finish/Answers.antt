-- `finish`: in each lane, the padding block's rounds, the sums, and the last word cleared.
use Rattle.std.proofs.Common.{◌∙◌, ap, List, ℕ, arith}
use Rattle.node.specs.PaddingBlock.{padding_block}
use Rattle.lanes.specs.NodeWords.{cleared}
use Rattle.lanes.proofs.BlockLaws.{each_compress}
use Rattle.lanes.proofs.block.finish.Goals as goal

pub returns : goal.returns
returns c =
    let summed =
    each_compress _ c.args.hash c.padding_rounds-s.result _
    (λ l. padding_block) c.requires c.padding_rounds-s.ensures
    c.add_to.ensures in
    record {
      sized = c.clear_last.ensures.sized;
      words = λ l b.
          c.clear_last.ensures.words l (omega arith) ∙ ap (λ (h : List ℕ). cleared h) (summed.words l b);
    }
