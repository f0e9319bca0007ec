-- `padded_block`: a block within the message is the same block of the padded message.
use Rattle.std.proofs.Common.{◌∙◌, arith}
use Rattle.sha256.specs.PaddingLaws.{pad_block}
use Rattle.sha256.proofs.padding.padded_block.Goals as goal

pub returns-then-at-m : goal.returns-then-at-m
returns-then-at-m c =
    let a = c.args in c.block_at.ensures ∙ pad_block a.m.now a.at (omega arith)
