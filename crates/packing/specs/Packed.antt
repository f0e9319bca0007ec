-- Ranges packed into new ones: each that has bytes in its new slot, at its new offset, and the slots past their number
-- free.
use Rattle.std.specs.Prelude.{◌≡◌, false, ℕ, ◌≤◌, ◌<◌}
use Rattle.room.specs.Room.{Range, range, is_empty}
use Rattle.packing.specs.Order.{new_slot, new_offset, ranges_count}

pub record Packed (ranges new : ℕ → Range) (slots : ℕ) : Type 0 where
  pub moved : (j : ℕ) → j < slots → is_empty (ranges j) ≡ false
      → new (new_slot ranges slots j) ≡ range (new_offset ranges slots j) (ranges j).area
  pub free : (x : ℕ) → ranges_count ranges slots ≤ x → x < slots → new x ≡ range 0 0

-- the range of the new slot x is that of an old one with bytes, at its new offset
pub record From (ranges new : ℕ → Range) (slots x : ℕ) : Type 0 where
  pub old : ℕ
  pub old_in : old < slots
  pub full : is_empty (ranges old) ≡ false
  pub moves : new_slot ranges slots old ≡ x
  pub offset_is : (new x).offset ≡ new_offset ranges slots old
  pub area_is : (new x).area ≡ (ranges old).area
