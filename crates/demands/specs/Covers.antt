-- Which bytes of a deal its standing entries cover.
use Rattle.std.specs.Prelude.{Bool, ◌&&◌, ℕ, List, length}
use Rattle.sizes.specs.Sizes.{area}
use Rattle.entries.specs.Entry.{offset_in, size_in}
use Rattle.index.specs.Slots.{slot_at, standing}
use Rattle.room.specs.Room.{overlap}

-- the entry in slot j stands, and its area has a byte in common with the n bytes from o
unfoldable pub covers : List ℕ → ℕ → ℕ → ℕ → Bool
covers deal n o j =
    let entry = slot_at deal j in
    standing (length deal) entry && overlap o n (offset_in entry) (area (size_in entry))
