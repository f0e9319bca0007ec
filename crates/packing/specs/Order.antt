-- The order of collection, from numbers alone (document 02, request (viii)): "standing segments .. by falling A, equal
-- ones by old offset, packed from 0, entries .. from the first slot in that order". The new slot of a slot's bytes is
-- the number of those that come before them, their new offset is the sum of the areas of these.
use Rattle.std.specs.Prelude.{Bool, ◌&&◌, ◌||◌, not, ℕ, eqb, ltb}
use Rattle.rules.specs.Choice.{choose}
use Rattle.rules.specs.Search.{lowest}
use Rattle.room.specs.Room.{Range, is_empty, is_missing, fits}
use Rattle.packing.specs.Total.{total}

-- a range comes before another: its area is larger, or as large and at a lower offset
unfoldable pub comes_first : Range → Range → Bool
comes_first r s = ltb s.area r.area || (eqb r.area s.area && ltb r.offset s.offset)

-- 1 for a range that has bytes: a slot with a standing entry
abbrev pub range_count : Range → ℕ
range_count r = choose (is_empty r) 0 1

abbrev pub range_area : Range → ℕ
range_area r = r.area

-- of the first ranges, those that come before the range of slot j: their measures together
unfoldable pub sum_before : (Range → ℕ) → (ℕ → Range) → ℕ → ℕ → ℕ
sum_before measure ranges slots j = total (λ i. choose (comes_first (ranges i) (ranges j)) (measure (ranges i)) 0) slots

-- the slot and the offset that slot j moves to
abbrev pub new_slot : (ℕ → Range) → ℕ → ℕ → ℕ
new_slot ranges slots j = sum_before range_count ranges slots j

abbrev pub new_offset : (ℕ → Range) → ℕ → ℕ → ℕ
new_offset ranges slots j = sum_before range_area ranges slots j

-- how many of the first ranges have bytes, and how many bytes they have together
abbrev pub ranges_count : (ℕ → Range) → ℕ → ℕ
ranges_count ranges slots = total (λ i. range_count (ranges i)) slots

abbrev pub ranges_area : (ℕ → Range) → ℕ → ℕ
ranges_area ranges slots = total (λ i. range_area (ranges i)) slots

-- the range of slot i does not fit beside those of the lower slots
abbrev pub overlaps_lower : (ℕ → Range) → ℕ → Bool
overlaps_lower ranges i = not (fits ranges i (ranges i).area (ranges i).offset)

-- no two of the first ranges overlap
unfoldable pub none_overlaps : (ℕ → Range) → ℕ → Bool
none_overlaps ranges slots = is_missing (lowest (overlaps_lower ranges) 0 slots)
