-- `node_hash`: SHA-256 of 64 bytes is two blocks, of which the second is the padding block.
use mathlib.Core.Path.{◌≡◌}
use lib.ListN.{length}
use Rattle.node.specs.Node.{node_hash_is}
use Rattle.node.specs.PaddingBlockLaws.{sha256_of_64}
use borrow.Author.Rules.{rules}
use Rattle.node.proofs.node_hash.Goals as goal

pub returns : goal.returns
returns c =
    let pair = c.args.pair in
    let l : length pair ≡ 64 = search rules in
    simp (
      node_hash_is pair,
      sha256_of_64 pair l,
      c.digest-node.ensures,
      c.finish.ensures,
      c.compress.ensures,
      c.block_at.ensures,
    )
