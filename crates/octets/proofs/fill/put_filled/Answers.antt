use Rattle.std.proofs.Common.{rules}
use Rattle.octets.proofs.Filling.{filled_written}
use Rattle.octets.proofs.fill.put_filled.Goals as goal

pub returns : goal.returns
returns c =
    filled_written c.args.d.now c.args.at c.args.n c.args.s.now c.requires.0 c.requires.1
    c.put.new.d c.fill.new.self c.put.ensures (c.fill.ensures.after (search rules))
