-- The words and the bytes that are worked out are those of the segment.
use Rattle.std.proofs.Common.{rules, ◌∙◌, sym}
use Rattle.fr32.specs.Padding.{padded}
use Rattle.fr32.specs.PaddingLaws.{length_padded}
use Rattle.fr32.proofs.padding.write_segment.Goals as goal

pub returns : goal.returns
returns c =
    c.write.ensures (padded c.args.raw.now) (length_padded c.args.raw.now ∙ sym c.segment_length-n.ensures)
    (λ w x h p. search rules) (λ q x h p. search rules)
