use Rattle.std.proofs.Common.{◌∙◌, ap, sym, ◌-◌, length, drop, replicate, length-drop, take_all}
use Rattle.std.proofs.Math.Nat.{le_of_eq}
use Rattle.octets.specs.Splice.{splice}
use Rattle.octets.specs.FillLaws.{splice_zeros, filled_end}
use Rattle.octets.proofs.fill.last_node.Goals as goal

pub returns : goal.returns
returns c =
    c.put.ensures
    ∙ ap (splice (replicate 32 0) 0)
    (take_all (length c.args.d.now - c.args.at) (drop c.args.at c.args.d.now)
    (le_of_eq (length-drop c.args.at c.args.d.now)))
    ∙ splice_zeros 32 (drop c.args.at c.args.d.now)
    ∙ sym (filled_end c.args.d.now c.args.at 32 c.requires.0 c.requires.1)
