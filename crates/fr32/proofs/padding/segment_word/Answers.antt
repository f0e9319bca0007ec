use Rattle.octets.specs.Bytes.{bytes_of_slice}
use Rattle.fr32.proofs.WordFormulas.{at_word, at_last_word}
use Rattle.fr32.proofs.padding.segment_word.Goals as goal

pub returns-then-place-eq3 : goal.returns-then-place-eq3
returns-then-place-eq3 c =
    at_last_word c.args.raw.now c.args.w
    (bytes_of_slice c.args.raw.now c.type_inv.raw) c.requires.1 c.read_u64-low.ensures
    c.read_u64-high.ensures c.across_words-word.ensures c.if-place-eq3.true

pub returns : goal.returns
returns c =
    at_word c.args.raw.now c.args.w
    (bytes_of_slice c.args.raw.now c.type_inv.raw) c.requires.1 c.read_u64-low.ensures
    c.read_u64-high.ensures c.across_words-word.ensures c.if-place-eq3.false
