use Rattle.std.proofs.Common.{sym, refl, ◌∙◌}
use Rattle.octets.specs.Bytes.{bytes_of_slice}
use Rattle.fr32.proofs.ByteFormulas.{after_raw, stray}
use Rattle.fr32.proofs.unpadding.only_raw_bits.Goals as goal

pub returns-then-no_stray_bits : goal.returns-then-no_stray_bits
returns-then-no_stray_bits c =
    let segment = c.args.segment.now in
    after_raw c.args.n c.args.n segment c.requires.1 c.raw_byte.ensures refl
    (bytes_of_slice segment c.type_inv.segment)
    (sym c.no_stray_bits.ensures ∙ c.if-no_stray_bits.true)

pub returns-else-no_stray_bits : goal.returns-else-no_stray_bits
returns-else-no_stray_bits c =
    c.if-no_stray_bits.false
    ∙ stray c.args.n c.args.segment.now (sym c.no_stray_bits.ensures ∙ c.if-no_stray_bits.false)
