-- Whether a slot keeps a segment, as a function of its row and of the bytes of its area alone (KeepRowsLaws.keeps_row).
use Rattle.std.specs.Prelude.{Bool, ◌&&◌, ℕ, List, length, eqb}
use Rattle.octets.specs.Equality.{same_bytes}
use Rattle.index.specs.KeptRows.{row_kept}
use Rattle.index.specs.Slots.{Row}
use Rattle.booking.specs.Write.{area_bytes}

-- the row is kept, with the segment's size, and the bytes are those of the segment's area
unfoldable pub row_keeps : List ℕ → Row → List ℕ → Bool
row_keeps segment row bytes =
    row_kept row bytes && (eqb row.size (length segment) && same_bytes bytes (area_bytes segment))
