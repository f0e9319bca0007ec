-- The slot at an entry place has its byte in a table of the right length.
use mathlib.Core.Path.{◌≡◌}
use mathlib.Core.Bool.{true}
use mathlib.Core.List.{List}
use Prim.Native.Nat.{ℕ, ◌<◌}
use native.Mathlib.Omega.{arith}
use lib.ListN.{length}
use Rattle.sizes.specs.Sizes.{lent_size_allowed, place_allowed}
use Rattle.sizes.specs.SizesLaws.{lent_size}
use Rattle.index.specs.Written.{slot_of}
use Rattle.index.specs.SlotWrittenLaws.{place_slot}
use Rattle.houses.specs.Houses.{table_sized}
use Rattle.houses.specs.HousesLaws.{sized_length}

pub slot_in : (size place : ℕ) (table : List ℕ) → lent_size_allowed size ≡ true → place_allowed size place ≡ true
    → table_sized size table ≡ true → slot_of size place < length table
slot_in size place table l p t =
    omega (arith, (place_slot size place (lent_size size l).deal p).0, sized_length size table t)
