use Rattle.std.proofs.Common.{◌∙◌}
use Rattle.octets.specs.SpliceLaws.{part_range}
use Rattle.octets.proofs.array_at.Goals as goal

pub returns : goal.returns
returns g c = c.copy_from_slice.ensures.after ∙ part_range c.args.d.now c.args.at g.row.N
