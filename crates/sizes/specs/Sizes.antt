-- Allowed sizes, offsets and places (document 01, "Numbers that bound the work" and "Entries and the index area").
use Rattle.std.specs.Prelude.{Bool, ◌&&◌, ℕ, zero, suc, ◌+◌, ◌-◌, ◌*◌, ◌/◌, ◌%◌, ◌^◌, max, eqb, leb, ltb}
use Rattle.rules.specs.Choice.{choose}
use Rattle.pow2.specs.Power.{is_power, height}

-- a deal size D that a record may be checked against: a power of two from 512 to 2 ^ 36
unfoldable pub deal_size_allowed : ℕ → Bool
deal_size_allowed d = leb 512 d && (leb d (2 ^ 36) && is_power d)

-- the size of a lent deal: a power of two from 512 to 2 ^ 24
unfoldable pub lent_size_allowed : ℕ → Bool
lent_size_allowed d = leb 512 d && (leb d (2 ^ 24) && is_power d)

-- a number doubled until it is at or above the size, at most n times
unfoldable pub doubled_to : ℕ → ℕ → ℕ → ℕ
doubled_to zero a size = a
doubled_to (suc n) a size = choose (leb size a) a (doubled_to n (2 * a) size)

-- the bytes that a segment of a size takes up in the deal: the smallest power of two at or above both the size and 128
-- (document 02, request (iii); AreaLaws.area_least). 28 doublings reach 2 ^ 35, half of the largest deal
unfoldable pub area : ℕ → ℕ
area size = doubled_to 28 128 size

-- a segment size T, before the zero trailer: from 1 to D / 2 (document 02, request (iii))
unfoldable pub segment_size_allowed : ℕ → ℕ → Bool
segment_size_allowed d size = leb 1 size && leb size (d / 2)

-- the number of index entries
unfoldable pub entry_count : ℕ → ℕ
entry_count d = max 4 (d / 131072)

-- the index start: the index is the last 64 bytes times the number of entries
unfoldable pub index_start : ℕ → ℕ
index_start d = d - 64 * entry_count d

-- the offset is a multiple of the segment's area, which ends by the index start
unfoldable pub offset_allowed : ℕ → ℕ → ℕ → Bool
offset_allowed d offset size = eqb (offset % area size) 0 && leb (offset + area size) (index_start d)

-- an entry place: a multiple of 64 in the index area
unfoldable pub place_allowed : ℕ → ℕ → Bool
place_allowed d place = eqb (place % 64) 0 && (leb (index_start d) place && ltb place d)

-- the place of the entry in slot i
unfoldable pub slot_place : ℕ → ℕ → ℕ
slot_place d i = index_start d + 64 * i

-- levels above the 32-byte nodes: of the deal's commitment, and of a segment's
unfoldable pub deal_level : ℕ → ℕ
deal_level d = height d - 5

unfoldable pub segment_level : ℕ → ℕ
segment_level size = height (area size) - 5

-- the number of nodes of the two paths: log2 (D / A) for the segment's area A, and log2 (D / 64)
abbrev pub segment_path_levels : ℕ → ℕ → ℕ
segment_path_levels d size = deal_level d - segment_level size

abbrev pub entry_path_levels : ℕ → ℕ
entry_path_levels d = deal_level d - 1

-- the position of a segment's node on its level, and of an entry's on level 1
unfoldable pub segment_position : ℕ → ℕ → ℕ
segment_position offset size = offset / area size

abbrev pub entry_position : ℕ → ℕ
entry_position place = place / 64
