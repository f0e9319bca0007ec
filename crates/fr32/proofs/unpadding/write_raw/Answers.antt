-- The words and the bytes that are worked out are those of the raw bytes.
use Rattle.std.proofs.Common.{rules, arith}
use Rattle.fr32.specs.Padding.{unpadded}
use Rattle.fr32.specs.UnpaddingLaws.{length_unpadded}
use Rattle.fr32.proofs.ByteFormulas.{raw_place}
use Rattle.fr32.proofs.WordFormulas.{raw_word_place}
use Rattle.fr32.proofs.unpadding.write_raw.Goals as goal

pub returns : goal.returns
returns c =
    let segment = c.args.segment.now in
    c.write.ensures (unpadded c.args.n segment) (length_unpadded c.args.n segment)
    (λ w x h p.
    raw_word_place c.args.n w segment c.requires.1 (omega (arith, h, c.saturating_sub.ensures)) (search rules))
    (λ q x h p. raw_place c.args.n q segment c.requires.1 (search rules) h)
