-- A segment and its entry as they are written into a deal (document 01, "Booking, finding, building, settling": the
-- segment and its entry are written; no other byte changes).
use Rattle.std.specs.Prelude.{ℕ, List, length}
use Rattle.octets.specs.Splice.{splice}
use Rattle.octets.specs.Fill.{zero_filled}
use Rattle.merkle.specs.Tree.{commitment_of}
use Rattle.sizes.specs.Sizes.{area, segment_level}
use Rattle.entries.specs.Entry.{entry_of}
use Rattle.index.specs.Written.{with_slot, with_area}

-- the area of a segment as it stands in a deal: its bytes, and zeros after them (document 02, request (iii))
abbrev pub area_bytes : List ℕ → List ℕ
area_bytes segment = zero_filled (area (length segment)) segment

-- the commitment of a segment: of all bytes of its area
abbrev pub segment_commitment : List ℕ → List ℕ
segment_commitment segment = commitment_of (segment_level (length segment)) (area_bytes segment)

-- its entry, which holds the size before the zeros
abbrev pub new_entry : List ℕ → ℕ → List ℕ
new_entry segment offset = entry_of (segment_commitment segment) offset (length segment)

-- the deal with the area written at an offset, and the entry in slot i
unfoldable pub written_deal : List ℕ → List ℕ → ℕ → ℕ → List ℕ
written_deal deal segment i offset = with_slot (with_area deal offset (area_bytes segment)) i (new_entry segment offset)

-- the same by a commitment and the entry's place, as the code writes it (WriteLaws.written-at)
abbrev pub written_at : List ℕ → List ℕ → List ℕ → ℕ → ℕ → List ℕ
written_at deal segment commitment offset place =
    splice (splice deal offset (area_bytes segment)) place (entry_of commitment offset (length segment))
