-- `padding_sums`: row by row.
use Rattle.std.proofs.Common.{refl}
use Rattle.sha256.specs.Table.{table}
use Rattle.sha256.specs.TableLaws.{rows}
use Rattle.sha256.specs.Fips.{constants}
use Rattle.node.specs.PaddingBlock.{padding_schedule, padding_sums}
use Rattle.node.proofs.padding_block.padding_sums.Goals as goal

pub returns : goal.returns
unfolding padding_sums padding_schedule constants table
returns c = rows _ _ _ _ _ c.args.turn refl refl refl refl c.requires
