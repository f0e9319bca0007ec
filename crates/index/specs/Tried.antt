-- What the search for a commitment asks of a slot, in steps: its row, whether its area was tried before, and whether it
-- is kept.
use Rattle.std.specs.Prelude.{◌≡◌, Bool, ◌&&◌, ℕ, ◌<◌, List, length, get_or}
use Rattle.rules.specs.Choice.{choose}
use Rattle.octets.specs.Equality.{same_bytes}
use Rattle.merkle.specs.NodeSource.{NodeSource}
use Rattle.sizes.specs.Sizes.{segment_level, segment_position}
use Rattle.index.specs.Slots.{entry_at, free, row_of, Row}
use Rattle.index.specs.declared.Area.{Area}

-- the row of the entry at a place, where it stands and names this commitment
abbrev pub naming_row : List ℕ → List ℕ → ℕ → Row
naming_row deal commitment place =
    let row = row_of (length deal) (entry_at deal place) in
    choose (same_bytes row.commitment commitment) row free

-- a row is that of a kept entry: it stands, and the node over its area is the commitment that it names
abbrev pub kept_by : NodeSource → Row → Bool
kept_by nodes row =
    row.stands
    && same_bytes (nodes (segment_level row.size) (segment_position row.offset row.size)) row.commitment

-- no area
abbrev pub no_area : Area
no_area = record { offset = 0; bytes = 0 }

-- an area is one of those that were tried
abbrev pub TriedBefore : List Area → Area → Type 0
TriedBefore tried area =
    (j : ℕ) × (j < length tried) × ((get_or tried j no_area).offset ≡ area.offset)
    × ((get_or tried j no_area).bytes ≡ area.bytes)
