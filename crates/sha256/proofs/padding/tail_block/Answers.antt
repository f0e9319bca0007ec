-- `tail_block`: after i turns the first i words stand.
use Rattle.std.proofs.Common.{refl, ◌∙◌, arith}
use Rattle.sha256.specs.TableLaws.{stored_none, stored_more, stored_all}
use Rattle.sha256.proofs.padding.tail_block.Goals as goal

pub loop-i-init : goal.loop-i-init
loop-i-init c = stored_none _ 16 _ refl

pub loop-i-preserved : goal.loop-i-preserved
loop-i-preserved c =
    stored_more c.loop-i.invariant (omega arith)
    (c.from_be_bytes.ensures
    ∙ simp (
      c.padded_byte-in-loop-i-3.ensures,
      c.padded_byte-in-loop-i-2.ensures,
      c.padded_byte-in-loop-i.ensures,
      c.padded_byte.ensures,
    ))

pub returns : goal.returns
returns c = stored_all c.loop-i.invariant (omega arith)
