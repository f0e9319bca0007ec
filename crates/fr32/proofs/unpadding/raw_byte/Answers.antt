use Rattle.octets.specs.Bytes.{bytes_of_slice}
use Rattle.fr32.proofs.ByteFormulas.{within_node, across_end}
use Rattle.fr32.proofs.unpadding.raw_byte.Goals as goal

pub returns-then-bit-lt248 : goal.returns-then-bit-lt248
returns-then-bit-lt248 c =
    within_node c.args.segment.now c.args.p
    (bytes_of_slice c.args.segment.now c.type_inv.segment) c.byte_at-low.ensures
    c.byte_at-high.ensures c.across.ensures c.if-bit-lt248.true

pub returns : goal.returns
returns c =
    across_end c.args.segment.now c.args.p
    (bytes_of_slice c.args.segment.now c.type_inv.segment) c.byte_at-low.ensures
    c.byte_at-high.ensures c.across-2.ensures c.if-bit-lt248.false
