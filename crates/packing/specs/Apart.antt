-- Ranges of which no two have a byte in common, and what else the laws of packing ask of ranges.
use Rattle.std.specs.Prelude.{◌≡◌, true, ◌≢◌, ◌⊎◌, ℕ, ◌+◌, ◌^◌, ◌≤◌, ◌<◌}
use Rattle.room.specs.Room.{Range, is_empty, overlaps}

-- of the n numbers from o and the m numbers from p the ones end by the start of the others
abbrev pub Beside : ℕ → ℕ → ℕ → ℕ → Type 0
Beside o n p m = (p + m ≤ o) ⊎ (o + n ≤ p)

-- so do any two different ones of the first n ranges, range k being the a k numbers from o k
abbrev pub Apart : (ℕ → ℕ) → (ℕ → ℕ) → ℕ → Type 0
Apart o a n = (i j : ℕ) → i < n → j < n → i ≢ j → Beside (o i) (a i) (o j) (a j)

abbrev pub RangesApart : (ℕ → Range) → ℕ → Type 0
RangesApart ranges slots = Apart (λ i. (ranges i).offset) (λ i. (ranges i).area) slots

-- two of the first ranges, of an upper and of a lower slot, have a byte in common
pub record TwoOverlap (ranges : ℕ → Range) (slots : ℕ) : Type 0 where
  pub upper : ℕ
  pub lower : ℕ
  pub in_slots : upper < slots
  pub below : lower < upper
  pub common : overlaps (ranges upper).offset (ranges upper).area (ranges lower) ≡ true

-- those without bytes start at 0, as those of free slots do
abbrev pub EmptyAtZero : (ℕ → Range) → ℕ → Type 0
EmptyAtZero ranges slots = (i : ℕ) → i < slots → is_empty (ranges i) ≡ true → (ranges i).offset ≡ 0

-- each area is none, or a power of two from 128 on
abbrev pub PowerAreas : (ℕ → Range) → ℕ → Type 0
PowerAreas ranges slots =
    (i : ℕ) → i < slots → ((ranges i).area ≡ 0) ⊎ ((k : ℕ) × (7 ≤ k) × ((ranges i).area ≡ 2 ^ k))
