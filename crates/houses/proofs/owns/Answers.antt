use mathlib.Core.Path.{ap}
use Prim.Native.Nat.{ℕ}
use native.Mathlib.Omega.{arith}
use lib.ListN.{get_or}
use lib.Dec.{eqb}
use Rattle.houses.proofs.SlotIn.{slot_in}
use Rattle.houses.proofs.owns.Goals as goal

pub bounds-table-slot_at : goal.bounds-table-slot_at
bounds-table-slot_at c =
    let r = c.requires in
    omega (arith, slot_in c.args.size c.args.place c.args.table.now r.size_value.0 r.size_value.1 r.table_value)

pub returns : goal.returns
returns c = ap (λ (i : ℕ). eqb (get_or c.args.table.now i 0) c.args.house) c.slot_at.ensures
