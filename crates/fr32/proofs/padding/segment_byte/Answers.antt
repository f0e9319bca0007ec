use Rattle.octets.specs.Bytes.{bytes_of_slice}
use Rattle.fr32.proofs.ByteFormulas.{at_place, at_last_place}
use Rattle.fr32.proofs.padding.segment_byte.Goals as goal

pub returns-then-place-eq31 : goal.returns-then-place-eq31
returns-then-place-eq31 c =
    at_last_place c.args.raw.now c.args.q
    (bytes_of_slice c.args.raw.now c.type_inv.raw) c.requires.1 c.byte_at-low.ensures
    c.byte_at-high.ensures c.across-byte.ensures c.if-place-eq31.true

pub returns : goal.returns
returns c =
    at_place c.args.raw.now c.args.q
    (bytes_of_slice c.args.raw.now c.type_inv.raw) c.requires.1 c.byte_at-low.ensures
    c.byte_at-high.ensures c.across-byte.ensures c.if-place-eq31.false
