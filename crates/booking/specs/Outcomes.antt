-- What a booking may come to once no rule refuses it: none of the house's slots keeps the segment, or the lowest one
-- that does (15), or the house holds half the slots or more (22).
use Rattle.std.specs.Prelude.{◌≡◌, false, Bool, ℕ, ◌<◌, List, length}
use Rattle.rules.specs.SearchLaws.{IsLowest}
use Rattle.sizes.specs.Sizes.{entry_count, slot_place}
use Rattle.entries.specs.Entry.{offset_in}
use Rattle.lent.specs.LentDeal.{LentDeal, deal_size}
use Rattle.index.specs.Slots.{slot_at}
use Rattle.room.specs.Decide.{holds_half}
use Rattle.room.specs.declared.Booked.{Booked}
use Rattle.booking.specs.Booking.{keeps_own, held_in}
use Rattle.booking.specs.BookableLaws.{BookableFor}

-- nothing refuses before the slots are looked at, and none of the house's keeps the segment (15)
pub record Unkept (deal : LentDeal) (table : List ℕ) (house : ℕ) (segment : List ℕ) : Type 0 where
  pub bookable : BookableFor deal table house segment
  pub none_keeps : (j : ℕ) → j < entry_count (deal_size deal) → keeps_own deal table house segment j ≡ false

-- code 15: slot i is the lowest one of the house that keeps the segment
pub record KeptAt (deal : LentDeal) (table : List ℕ) (house : ℕ) (segment : List ℕ) (i : ℕ) : Type 0 where
  pub bookable : BookableFor deal table house segment
  pub lowest_keeping_lem : IsLowest (keeps_own deal table house segment) 0 (entry_count (deal_size deal)) i

-- code 22: the house holds half the slots or more
abbrev pub quota_reached : LentDeal → List ℕ → ℕ → Bool
quota_reached deal table house = holds_half (entry_count (deal_size deal)) (held_in deal.bytes table house)

-- the answer 15, with offset and entry place of a slot
abbrev pub answer15 : List ℕ → ℕ → Booked
answer15 deal i = record { code = 15; offset = offset_in (slot_at deal i); place = slot_place (length deal) i }
