-- Two deals of which a house cannot tell one from the other (document 02, request (x)): "where no standing area
-- overlaps another .., change only the bytes and commitments of the other's segments, same slots standing with the same
-- sizes and offsets and no stray bits". What follows: Isolation.
use Rattle.std.specs.Prelude.{◌≡◌, true, false, ℕ, ◌<◌, List, length, get_or}
use Rattle.stray.specs.StrayBits.{no_stray_bits}
use Rattle.sizes.specs.Sizes.{entry_count, index_start}
use Rattle.index.specs.Slots.{slot_at, standing, row_at}
use Rattle.houses.specs.Houses.{owned}
use Rattle.demands.specs.Covers.{covers}

-- the byte at p lies in no area of a standing entry that is somebody else's, the other house's or nobody's
abbrev pub NotOthers : List ℕ → List ℕ → ℕ → ℕ → Type 0
NotOthers deal table house p =
    (i : ℕ) → i < entry_count (length deal) → owned table house i ≡ false → covers deal 1 p i ≡ false

-- for a house, by a table: of one deal "only the bytes and commitments of the other's segments" are changed in another
pub record OthersChanged (table : List ℕ) (house : ℕ) (deal other : List ℕ) : Type 0 where
  pub same_length : length other ≡ length deal
  -- "no stray bits"
  pub clear : no_stray_bits deal ≡ true
  pub other_clear : no_stray_bits other ≡ true
  -- "same slots standing with the same sizes and offsets" (size and offset of a free slot are 0)
  pub same_standing : (i : ℕ) → i < entry_count (length deal) → (row_at other i).stands ≡ (row_at deal i).stands
  pub same_sizes : (i : ℕ) → i < entry_count (length deal) → (row_at other i).size ≡ (row_at deal i).size
  pub same_offsets : (i : ℕ) → i < entry_count (length deal) → (row_at other i).offset ≡ (row_at deal i).offset
  -- the house's own standing entries are as they were, all 64 bytes ..
  pub own_entries : (i : ℕ) → i < entry_count (length deal) → owned table house i ≡ true
      → standing (length deal) (slot_at deal i) ≡ true → slot_at other i ≡ slot_at deal i
  -- .. and so is every byte below the index that is not in an area of somebody else's
  pub other_bytes : (p : ℕ) → p < index_start (length deal) → NotOthers deal table house p
      → get_or other p 0 ≡ get_or deal p 0
