-- Free slots and free places of a deal, from numbers alone: which bytes each slot takes up (document 01, "Booking,
-- finding, building, settling": book).
use Rattle.std.specs.Prelude.{◌≡◌, Bool, true, false, ◌&&◌, ℕ, ◌+◌, ◌*◌, ◌/◌, ◌^◌, ◌≤◌, ◌<◌, List, get_or, eqb, ltb}
use Rattle.std.specs.Prelude.{Option}
use Rattle.std.specs.Prelude.{Some, None}
use Rattle.rules.specs.Search.{lowest}
use Rattle.room.specs.declared.Range as Declared

-- the bytes that a slot takes up, offset and area: those of its standing entry's area, and none, from 0, where it is
-- free
abbrev pub Range : Type 0
Range = Declared.Range

abbrev pub range : ℕ → ℕ → Range
range offset area = record { offset = offset; area = area }

-- the ranges that a list has, slot by slot; none from its end on
abbrev pub ranges_in : List Range → ℕ → Range
ranges_in ranges i = get_or ranges i (range 0 0)

-- the first ranges are the same, and end by a limit
abbrev pub SameBelow : ℕ → (ℕ → Range) → (ℕ → Range) → Type 0
SameBelow slots r s = (i : ℕ) → i < slots → r i ≡ s i

abbrev pub EndBy : ℕ → ℕ → (ℕ → Range) → Type 0
EndBy limit slots ranges = (i : ℕ) → i < slots → (ranges i).offset + (ranges i).area ≤ limit

-- no range ends beyond the largest deal
abbrev pub Bounded : ℕ → List Range → Type 0
Bounded slots ranges = EndBy (2 ^ 36) slots (ranges_in ranges)

-- a slot that takes up no bytes is free
abbrev pub is_empty : Range → Bool
is_empty r = eqb r.area 0

-- the n bytes from o and the m bytes from p have a byte in common
unfoldable pub overlap : ℕ → ℕ → ℕ → ℕ → Bool
overlap o n p m = ltb o (p + m) && ltb p (o + n)

-- a slot's bytes overlap the n bytes from o
abbrev pub overlaps : ℕ → ℕ → Range → Bool
overlaps o n r = overlap o n r.offset r.area

abbrev pub is_missing : Option ℕ → Bool
is_missing (Some i) = false
is_missing None = true

-- the lowest free slot
abbrev pub lowest_free_slot : (ℕ → Range) → ℕ → Option ℕ
lowest_free_slot ranges slots = lowest (λ i. is_empty (ranges i)) 0 slots

-- the lowest slot whose bytes overlap the n bytes from o; these fit where there is none
abbrev pub lowest_overlap : (ℕ → Range) → ℕ → ℕ → ℕ → Option ℕ
lowest_overlap ranges slots o n = lowest (λ i. overlaps o n (ranges i)) 0 slots

abbrev pub fits : (ℕ → Range) → ℕ → ℕ → ℕ → Bool
fits ranges slots n o = is_missing (lowest_overlap ranges slots o n)

-- the lowest k such that the n bytes from k * n fit and end by the limit
abbrev pub lowest_place : (ℕ → Range) → ℕ → ℕ → ℕ → Option ℕ
lowest_place ranges slots n limit = lowest (λ k. fits ranges slots n (k * n)) 0 (limit / n)
