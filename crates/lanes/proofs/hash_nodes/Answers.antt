-- `hash_nodes`: in each lane, the node hash as words.
use mathlib.Core.Path.{ap, ap₂, ◌∙◌}
use native.Mathlib.Omega.{arith}
use Prim.Native.Nat.{ℕ}
use mathlib.Core.List.{List, ◌++◌}
use Rattle.sha256.specs.Fips.{compress}
use Rattle.node.specs.Node.{node_hash_length}
use Rattle.node.specs.PaddingBlock.{padding_block}
use Rattle.lanes.specs.NodeWords.{cleared, node_words}
use Rattle.lanes.specs.NodeWordsLaws.{node_of_nodes}
use Rattle.lanes.proofs.hash_nodes.Goals as goal

pub returns : goal.returns
unfolding node_words
returns c = λ l b x y hx hy.
    let first
    = c.compress.ensures.words l b
    ∙ ap₂ compress (c.in_each_lane-hash.ensures l (omega arith))
    (ap₂ ◌++◌ hx.words hy.words) in
    record {
      sized = node_hash_length (x ++ y);
      words = c.finish.ensures.words l b ∙ ap (λ (h : List ℕ). cleared (compress h padding_block)) first
          ∙ node_of_nodes x y hx.sized hy.sized;
    }
