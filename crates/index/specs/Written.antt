-- A deal in which one slot is replaced, or bytes below the index. What changes with them, and what not: SlotWrittenLaws
-- and AreaWrittenLaws.
use Rattle.std.specs.Prelude.{ℕ, ◌-◌, ◌/◌, List, length}
use Rattle.octets.specs.Splice.{splice}
use Rattle.sizes.specs.Sizes.{index_start, slot_place}

-- the slot at an entry place
abbrev pub slot_of : ℕ → ℕ → ℕ
slot_of d place = (place - index_start d) / 64

-- the deal with other bytes in slot i
unfoldable pub with_slot : List ℕ → ℕ → List ℕ → List ℕ
with_slot deal i entry = splice deal (slot_place (length deal) i) entry

-- the deal with other bytes from an offset on
unfoldable pub with_area : List ℕ → ℕ → List ℕ → List ℕ
with_area deal offset bytes = splice deal offset bytes
