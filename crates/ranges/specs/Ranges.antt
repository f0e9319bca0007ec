-- Which bytes the slots of a deal take up: those of their standing entries' areas, and none where they are free.
use Rattle.std.specs.Prelude.{ℕ, List}
use Rattle.index.specs.Slots.{row_at, row_offset, row_area, Row}
use Rattle.room.specs.Room.{Range, range}

abbrev pub row_range : Row → Range
row_range row = range (row_offset row) (row_area row)

abbrev pub ranges_of : List ℕ → ℕ → Range
ranges_of deal i = row_range (row_at deal i)
