use Rattle.octets.specs.Bytes.{bytes_of_slice}
use Rattle.fr32.proofs.WordFormulas.{within_node, across_end}
use Rattle.fr32.proofs.unpadding.raw_word.Goals as goal

pub returns-then-bit-lt192 : goal.returns-then-bit-lt192
returns-then-bit-lt192 c =
    within_node c.args.segment.now c.args.w
    (bytes_of_slice c.args.segment.now c.type_inv.segment) c.requires.1 c.read_u64-low.ensures
    c.read_u64-high.ensures c.across_words.ensures c.if-bit-lt192.true

pub returns : goal.returns
returns c =
    across_end c.args.segment.now c.args.w
    (bytes_of_slice c.args.segment.now c.type_inv.segment) c.requires.1 c.read_u64-low.ensures
    c.read_u64-high.ensures c.across_node_words.ensures c.if-bit-lt192.false
