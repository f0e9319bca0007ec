use mathlib.Core.Path.{ap}
use Prim.Native.Nat.{ℕ, ◌-◌, ◌/◌}
use native.Mathlib.Omega.{arith}
use Rattle.sizes.specs.SizesLaws.{lent_size, entry_place}
use Rattle.houses.proofs.slot_at.Goals as goal

pub index_start-requires : goal.index_start-requires
index_start-requires c = (lent_size c.args.size c.requires.0).allowed

pub overflow_sub-result : goal.overflow_sub-result
overflow_sub-result c =
    let deal = (lent_size c.args.size c.requires.0).deal in
    omega (arith, (entry_place c.args.size c.args.place deal c.requires.1).from_start)

pub returns : goal.returns
returns c = ap (λ (start : ℕ). (c.args.place - start) / 64) c.index_start.ensures
