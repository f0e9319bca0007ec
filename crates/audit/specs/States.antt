-- The states of slots, and their numbers (Audit.slot_state).
use Rattle.std.specs.Prelude.{ℕ}
use Rattle.audit.specs.declared.SlotState.{SlotState}
use Rattle.audit.specs.declared.SlotState.TheVariants.{
  Blank,
  Damaged,
  NotStanding,
  Overlapping,
  OtherCommitment,
  Kept,
}

-- the number of a state
abbrev pub number : SlotState → ℕ
number Blank = 0
number Damaged = 1
number NotStanding = 2
number Overlapping = 3
number OtherCommitment = 4
number Kept = 5
