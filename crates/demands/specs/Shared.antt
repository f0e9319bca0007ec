-- A deal that is shared by the two houses alone (document 02, request (x)).
use Rattle.std.specs.Prelude.{◌≡◌, true, ℕ, ◌*◌, ◌≤◌, ◌<◌, length}
use Rattle.sizes.specs.Sizes.{entry_count}
use Rattle.index.specs.Slots.{slot_at, standing}
use Rattle.houses.specs.Houses.{house_allowed, owner_at}
use Rattle.booking.specs.Booking.{held_in}
use Rattle.demands.specs.Calls.{DealAndTable}

pub record Shared (now : DealAndTable) : Type 0 where
  -- no standing entry is nobody's
  pub all_owned : (i : ℕ) → i < entry_count (length now.deal)
      → standing (length now.deal) (slot_at now.deal i) ≡ true → house_allowed (owner_at now.table i) ≡ true
  -- and no house holds more than half the slots
  pub half_at_most : (house : ℕ) → 2 * held_in now.deal now.table house ≤ entry_count (length now.deal)
