-- Whether an entry is kept, as a function of its row and of the bytes of its area alone (KeptRowsLaws.kept-row).
use Rattle.std.specs.Prelude.{Bool, ◌&&◌, ℕ, List}
use Rattle.octets.specs.Equality.{same_bytes}
use Rattle.octets.specs.Splice.{part}
use Rattle.merkle.specs.Tree.{commitment_of}
use Rattle.sizes.specs.Sizes.{segment_level}
use Rattle.index.specs.Slots.{row_offset, row_area, Row}

-- the bytes of a row's area; none for a free row
abbrev pub area_of : List ℕ → Row → List ℕ
area_of deal row = part deal (row_offset row) (row_area row)

-- the row's commitment is that of these bytes
unfoldable pub row_kept : Row → List ℕ → Bool
row_kept row bytes = row.stands && same_bytes (commitment_of (segment_level row.size) bytes) row.commitment
