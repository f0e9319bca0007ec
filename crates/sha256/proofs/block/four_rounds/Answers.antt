-- `four_rounds`: one round after the other.
use Rattle.sha256.specs.BlockLaws.{four_rounds}
use Rattle.sha256.proofs.block.four_rounds.Goals as goal

pub returns : goal.returns
returns g c = λ h e.
    four_rounds _ _ h _ _ _ _ _ c.args.i e c.round-s1.ensures c.round-s2.ensures c.round-s3.ensures c.round.ensures
