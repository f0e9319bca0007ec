use mathlib.Core.Path.{◌≡◌, sym, ap, ◌∙◌, subst}
use mathlib.Core.Bool.{true}
use Prim.Native.Nat.{ℕ, ◌<◌}
use native.Mathlib.Omega.{arith}
use Rattle.sizes.specs.Sizes.{entry_count, lent_size_allowed}
use Rattle.sizes.specs.SizesLaws.{lent_size}
use Rattle.room.specs.Room.{ranges_in}
use Rattle.room.specs.RoomLaws.{slots_high}
use Rattle.room.specs.Decide.{SlotBelow, answer_to, decision_with}
use Rattle.room.specs.declared.Decision.{Decision}
use Rattle.room.specs.declared.Booked.{Booked}
use Rattle.room.specs.Room.{Range}
use Rattle.std.specs.Prelude.{List}
use Rattle.room.specs.declared.Decision.TheVariants.{Already, Place}
use Rattle.room.proofs.deciding.answer.Goals as goal

-- the answer to a decision
abbrev answered : {R : Type 0} → ℕ → List Range → (R → ℕ) → Decision R → Booked
answered size ranges read x = answer_to size (ranges_in ranges) (decision_with read x)

-- the slot that is decided on is below the count of slots
module _ {R : Type 0} (size : ℕ) (d : Decision R) (h : (read : R → ℕ) × SlotBelow (entry_count size) (decision_with read d)) where
  keeping_below : (i : ℕ) → d ≡ Already i → i < entry_count size
  keeping_below i e = subst (λ (x : Decision R). SlotBelow (entry_count size) (decision_with h.0 x)) e h.1

  place_below : (i offset : ℕ) → d ≡ Place i offset → i < entry_count size
  place_below i offset e = subst (λ (x : Decision R). SlotBelow (entry_count size) (decision_with h.0 x)) e h.1

  keeping_high : (i : ℕ) → lent_size_allowed size ≡ true → d ≡ Already i → i < 128
  keeping_high i f e = omega (arith, keeping_below i e, slots_high size f)

pub offset_bounds-ranges-i : goal.offset_bounds-ranges-i
offset_bounds-ranges-i g c =
    let h = keeping_high c.args.size c.args.decision c.requires.slot_below c.in-Already.i c.requires.size_value c.in-Already.is in
    omega arith

pub bounds-ranges-i : goal.bounds-ranges-i
bounds-ranges-i g c =
    keeping_high c.args.size c.args.decision c.requires.slot_below c.in-Already.i c.requires.size_value c.in-Already.is

pub slot_place-requires : goal.slot_place-requires
slot_place-requires g c = (
  (lent_size c.args.size c.requires.size_value).allowed,
  keeping_below c.args.size c.args.decision c.requires.slot_below c.in-Already.i c.in-Already.is,
)

pub slot_place-requires-in-Place : goal.slot_place-requires-in-Place
slot_place-requires-in-Place g c = (
  (lent_size c.args.size c.requires.size_value).allowed,
  place_below c.args.size c.args.decision c.requires.slot_below c.in-Place.i c.in-Place.offset c.in-Place.is,
)

pub returns-in-Refuse : goal.returns-in-Refuse
returns-in-Refuse g c read = sym (ap (answered c.args.size c.args.ranges.now read) c.in-Refuse.is)

pub returns-in-Already : goal.returns-in-Already
returns-in-Already g c read =
    let offset = (ranges_in c.args.ranges.now c.in-Already.i).offset in
    ap (λ (p : ℕ). record { code = 15; offset = offset; place = p }) c.slot_place.ensures
    ∙ sym (ap (answered c.args.size c.args.ranges.now read) c.in-Already.is)

pub returns-in-Place : goal.returns-in-Place
returns-in-Place g c read =
    let offset = c.in-Place.offset in
    ap (λ (p : ℕ). record { code = 0; offset = offset; place = p }) c.slot_place-in-Place.ensures
    ∙ sym (ap (answered c.args.size c.args.ranges.now read) c.in-Place.is)
