-- The slots of a deal's index (document 01, "Entries and the index area").
use Rattle.std.specs.Prelude.{Bool, true, false, ◌&&◌, ℕ, List, length, replicate, Option, Some, None}
use Rattle.rules.specs.Choice.{choose}
use Rattle.octets.specs.Equality.{same_bytes}
use Rattle.octets.specs.Splice.{part}
use Rattle.merkle.specs.NodeSource.{NodeSource}
use Rattle.sizes.specs.Sizes.{segment_size_allowed, offset_allowed, area, slot_place, segment_level, segment_position}
use Rattle.entries.specs.Entry.{commitment_in, offset_in, size_in, is_kind}
use Rattle.entries.specs.declared.EntryKind.{EntryKind}
use Rattle.entries.specs.declared.Fields.{Fields}
use Rattle.lent.specs.LentDeal.{LentDeal, deal_size}

-- the 64 bytes at a place, and those in slot i
abbrev pub entry_at : List ℕ → ℕ → List ℕ
entry_at deal place = part deal place 64

abbrev pub slot_at : List ℕ → ℕ → List ℕ
slot_at deal i = entry_at deal (slot_place (length deal) i)

-- standing: the entry is valid, its size is allowed, and so is its offset (house rule)
unfoldable pub standing : ℕ → List ℕ → Bool
standing d entry =
    is_kind EntryKind.Valid entry
    && (segment_size_allowed d (size_in entry) && offset_allowed d (offset_in entry) (size_in entry))

-- the node over the area at an entry's offset, by a source of the deal's nodes
abbrev pub node_over : NodeSource → List ℕ → List ℕ
node_over nodes entry = nodes (segment_level (size_in entry)) (segment_position (offset_in entry) (size_in entry))

-- kept: standing, and the commitment is that of the whole area at the offset. What stands there after the segment's
-- size is not asked to be zeros (docs/DECISIONS.md, request (iii))
unfoldable pub kept : NodeSource → ℕ → List ℕ → Bool
kept nodes d entry = standing d entry && same_bytes (node_over nodes entry) (commitment_in entry)

-- slot i of a lent deal keeps its entry
abbrev pub kept_at : LentDeal → ℕ → Bool
kept_at deal i = kept deal.nodes (deal_size deal) (slot_at deal.bytes i)

-- a row says what stands in a slot: commitment, offset and size. A slot without a standing entry is free
pub record Row : Type 0 where
  pub stands : Bool
  pub commitment : List ℕ
  pub offset : ℕ
  pub size : ℕ

abbrev pub free : Row
free = record { stands = false; commitment = replicate 32 0; offset = 0; size = 0 }

abbrev pub holds : List ℕ → ℕ → ℕ → Row
holds commitment offset size = record { stands = true; commitment = commitment; offset = offset; size = size }

-- the row that the code's fields of an entry are, where one stands
abbrev pub row_as : Option Fields → Row
row_as None = free
row_as (Some fields) = holds fields.commitment fields.offset fields.size

-- the row of an entry
unfoldable pub row_of : ℕ → List ℕ → Row
row_of d entry = choose (standing d entry) (holds (commitment_in entry) (offset_in entry) (size_in entry)) free

-- the same for a kept entry alone
unfoldable pub kept_row : NodeSource → ℕ → List ℕ → Row
kept_row nodes d entry =
    choose (kept nodes d entry) (holds (commitment_in entry) (offset_in entry) (size_in entry)) free

-- the rows of a deal, slot by slot
abbrev pub row_at : List ℕ → ℕ → Row
row_at deal i = row_of (length deal) (slot_at deal i)

-- where a row's bytes start, and how many they are: none for a free row
abbrev pub row_offset : Row → ℕ
row_offset row = choose row.stands row.offset 0

abbrev pub row_area : Row → ℕ
row_area row = choose row.stands (area row.size) 0
