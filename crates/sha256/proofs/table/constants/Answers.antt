-- `constants`: row by row.
use Rattle.std.proofs.Common.{refl}
use Rattle.sha256.specs.Fips.{constants}
use Rattle.sha256.specs.TableLaws.{rows}
use Rattle.sha256.proofs.table.constants.Goals as goal

pub returns : goal.returns
unfolding constants
returns c = rows _ _ _ _ _ c.args.turn refl refl refl refl c.requires
