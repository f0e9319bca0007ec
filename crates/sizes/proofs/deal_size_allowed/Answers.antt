use Rattle.std.specs.Prelude.{◌^◌, leb}
use Rattle.std.proofs.Common.{◌∙◌}
use Rattle.std.proofs.Math.Bool.{and_assoc}
use Rattle.pow2.specs.Power.{is_power}
use Rattle.sizes.specs.Sizes.{deal_size_allowed}
use Rattle.sizes.proofs.deal_size_allowed.Goals as goal

pub returns : goal.returns
unfolding deal_size_allowed
returns c = let d = c.args.d in c.is_power_between.ensures ∙ and_assoc (leb 512 d) (leb d (2 ^ 36)) (is_power d)
