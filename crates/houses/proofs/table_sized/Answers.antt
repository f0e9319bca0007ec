use mathlib.Core.Path.{ap}
use lib.ListN.{length}
use lib.Dec.{eqb}
use Rattle.houses.proofs.table_sized.Goals as goal

pub returns : goal.returns
returns c = ap (eqb (length c.args.table.now)) c.entry_count.ensures
