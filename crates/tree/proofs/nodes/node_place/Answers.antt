-- `node_place`: each step fits, as the place is in the buffer.
use mathlib.Core.Path.{refl}
use Prim.Native.Nat.{◌-◌}
use native.Mathlib.Omega.{arith}
use lib.Pow.{shr_le}
use Rattle.tree.specs.Place.{node_place}
use Rattle.tree.specs.PlaceLaws.{row_small, height_small, place_inside}
use Rattle.tree.proofs.nodes.node_place.Goals as goal

pub overflow_shr-result : goal.overflow_shr-result
overflow_shr-result c = let a = c.args in omega
    (arith, height_small a.size a.height a.position 1 c.requires.1 (omega arith))

pub overflow_sub-result-2 : goal.overflow_sub-result-2
overflow_sub-result-2 c = let a = c.args in shr_le a.size (a.height - 1)

pub overflow_mul-result : goal.overflow_mul-result
overflow_mul-result c = let a = c.args in
    record { fits = omega (arith, row_small a.size a.height a.position 1 c.requires.1) }

pub overflow_add-result : goal.overflow_add-result
unfolding node_place
overflow_add-result c = let a = c.args in
    record { fits = omega (arith, place_inside a.size a.height a.position c.requires.1 c.requires.0) }

pub returns : goal.returns
unfolding node_place
returns c = refl
