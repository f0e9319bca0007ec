-- What booking decides and answers, from numbers alone (document 01, "Codes and their order": 15, 13, 14; document 02,
-- request (x): 22, "after 15 and before 13").
use Rattle.std.specs.Prelude.{Bool, ℕ, ◌*◌, ◌<◌, leb}
use Rattle.rules.specs.Choice.{choose}
use Rattle.std.specs.Prelude.{Option, Some, None, Result, Ok, Err}
use Rattle.rules.specs.declared.Refusal.{Refusal}
use Rattle.rules.specs.Answers.{number}
use Rattle.sizes.specs.Sizes.{entry_count, index_start, slot_place}
use Rattle.room.specs.Room.{Range, lowest_free_slot, lowest_place}
use Rattle.room.specs.declared.Booked.{Booked}
use Rattle.room.specs.declared.Decision as Declared
use Rattle.room.specs.declared.Decision.TheVariants as De
use Rattle.room.specs.declared.Placed.{Placed}
use Rattle.room.specs.declared.Unbooked.{Unbooked}
use Rattle.room.specs.declared.Unbooked.TheVariants as Un

-- what booking decides: a refusal, by its code, the slot that keeps the segment already, or slot and offset for it
pub data Decision : Type 0 where
  Refuse : ℕ → Decision
  Already : ℕ → Decision
  Place : ℕ → ℕ → Decision

-- the decision that one in code stands for, with its reason read as a code
abbrev pub decision_with : {R : Type 0} → (R → ℕ) → Declared.Decision R → Decision
decision_with read (De.Refuse reason) = Refuse (read reason)
decision_with read (De.Already i) = Already i
decision_with read (De.Place i offset) = Place i offset

-- with a refusal for its reason, which is read as its number
abbrev pub decision_of : Declared.Decision Refusal → Decision
decision_of x = decision_with number x

-- 15 where the segment is kept already
abbrev pub unless_kept : Option ℕ → Decision → Decision
unless_kept (Some i) other = Already i
unless_kept None other = other

-- 22: "A house that holds half the slots or more"
abbrev pub holds_half : ℕ → ℕ → Bool
holds_half slots held = leb slots (2 * held)

-- 13 with no free slot, and with one at hand 14 with no free place
abbrev pub in_room : ℕ → Option ℕ → Option ℕ → Decision
in_room n None at = Refuse 13
in_room n (Some i) None = Refuse 14
in_room n (Some i) (Some k) = Place i (k * n)

-- for n bytes of a house in a deal of d bytes, with the number of slots that the house holds and the slot, if any, that
-- keeps them already
unfoldable pub decide : ℕ → (ℕ → Range) → ℕ → ℕ → Option ℕ → Decision
decide d ranges held n keeping =
    unless_kept keeping
    (choose (holds_half (entry_count d) held) (Refuse 22)
    (in_room n (lowest_free_slot ranges (entry_count d)) (lowest_place ranges (entry_count d) n (index_start d))))

-- the answer: offset and entry place
abbrev pub answer_to : ℕ → (ℕ → Range) → Decision → Booked
answer_to d ranges (Refuse code) = record { code = code; offset = 0; place = 0 }
answer_to d ranges (Already i) = record { code = 15; offset = (ranges i).offset; place = slot_place d i }
answer_to d ranges (Place i offset) = record { code = 0; offset = offset; place = slot_place d i }

-- the answer that a result stands for, with its reason read as a code
abbrev pub booked_with : {R : Type 0} → (R → ℕ) → Result Placed (Unbooked R) → Booked
booked_with read (Ok at) = record { code = 0; offset = at.offset; place = at.place }
booked_with read (Err (Un.Already at)) = record { code = 15; offset = at.offset; place = at.place }
booked_with read (Err (Un.Refused reason)) = record { code = read reason; offset = 0; place = 0 }

-- with a refusal for its reason, which is read as its number
abbrev pub booked_of : Result Placed (Unbooked Refusal) → Booked
booked_of x = booked_with number x

-- the slot that is decided on is one of the first
abbrev pub SlotBelow : ℕ → Decision → Type 0
SlotBelow slots (Refuse code) = Unit {0}
SlotBelow slots (Already i) = i < slots
SlotBelow slots (Place i offset) = i < slots
