use mathlib.Core.Path.{◌≡◌, sym, ◌∙◌}
use mathlib.Core.Bool.{Bool, true}
use Prim.Native.Nat.{ℕ, ◌*◌, ◌/◌, ◌^◌, ◌≤◌}
use native.Mathlib.Omega.{arith}
use Rattle.rules.specs.SearchLaws.{found_below}
use Rattle.sizes.specs.Sizes.{lent_size_allowed, entry_count}
use Rattle.sizes.specs.SizesLaws.{lent_size, index_start_le}
use Rattle.room.specs.Room.{ranges_in, fits}
use Rattle.room.specs.RoomLaws.{slots_high, free_slot_position, first_end, first_free_slot, first_place}
use Rattle.room.specs.OverlapLaws.{place_ends}
use Rattle.room.proofs.Decided.{is_kept_lem, half_held, no_slot, no_place, is_placed}
use Rattle.room.specs.Room.{Range}
use Rattle.std.specs.Prelude.{List, length, take}
use Rattle.room.proofs.deciding.decide.Goals as goal

-- the count of slots that was answered is at most 128
few : (size n : ℕ) → lent_size_allowed size ≡ true → n ≡ entry_count size → n ≤ 128
few size n h e = omega (arith, e, slots_high size h)

-- and so they are among the ranges
held_in : (size n : ℕ) (ranges : List Range) → lent_size_allowed size ≡ true → n ≡ entry_count size → length ranges ≡ 128
    → n ≤ length ranges
held_in size n ranges h e l = omega (arith, few size n h e)

-- the places where the area fits
abbrev fits_at : List Range → ℕ → ℕ → ℕ → Bool
fits_at ranges slots area k = fits (ranges_in ranges) slots area (k * area)

pub returns-in-Some : goal.returns-in-Some
returns-in-Some c =
    is_kept_lem c.args.size (ranges_in c.args.ranges.now) c.args.held c.args.area c.args.keeping c.in-Some.i c.in-Some.is

-- the quota
pub overflow_mul-held : goal.overflow_mul-held
overflow_mul-held c =
    omega (
      arith,
      few c.args.size c.entry_count-slots.result c.requires.size_value c.entry_count-slots.ensures,
      c.entry_count-slots.ensures,
      c.requires.area_nonzero.2,
    )

pub returns-then-slots-held : goal.returns-then-slots-held
returns-then-slots-held c =
    let s = c.args in
    half_held s.size (ranges_in s.ranges.now) s.held s.area s.keeping
    c.in_default.is c.entry_count-slots.result c.entry_count-slots.ensures c.if-slots-held.true

-- the slots are the first of the ranges
pub shared_ref_as_front-ranges : goal.shared_ref_as_front-ranges
shared_ref_as_front-ranges c =
    omega (arith, few c.args.size c.entry_count-slots.result c.requires.size_value c.entry_count-slots.ensures)

pub returns-in_default-lowest_free_slot : goal.returns-in_default-lowest_free_slot
returns-in_default-lowest_free_slot c =
    let s = c.args in
    let within = held_in s.size _ s.ranges.now c.requires.size_value c.entry_count-slots.ensures c.told-ranges in
    no_slot s.size (ranges_in s.ranges.now) s.held s.area s.keeping
    c.in_default.is c.entry_count-slots.result c.entry_count-slots.ensures c.if-slots-held.false
    (sym (c.lowest_free_slot.ensures ∙ free_slot_position (take c.entry_count-slots.result s.ranges.now) ∙ first_free_slot _ s.ranges.now within)
    ∙ c.in_default-lowest_free_slot.is)

pub index_start-requires : goal.index_start-requires
index_start-requires c = (lent_size c.args.size c.requires.size_value).allowed

pub lowest_place-requires : goal.lowest_place-requires
lowest_place-requires c =
    let d = c.args.size in
    let t = (lent_size d c.requires.size_value).deal in
    record {
      area = (
        c.requires.area_nonzero.0,
        omega (arith, c.requires.area_nonzero.1, t.size_high),
        omega (arith, c.index_start.ensures, index_start_le d, t.size_high),
      );
      bounded =
          first_end c.entry_count-slots.result c.args.ranges.now
          (held_in d _ c.args.ranges.now c.requires.size_value c.entry_count-slots.ensures c.told-ranges) (2 ^ 36)
          (λ i h.
          omega (
            arith,
            c.requires.end_by i (omega (arith, c.entry_count-slots.ensures)),
            index_start_le d,
            t.size_high,
          ));
    }

pub returns-in_default-lowest_place : goal.returns-in_default-lowest_place
returns-in_default-lowest_place c =
    let s = c.args in
    let within = held_in s.size _ s.ranges.now c.requires.size_value c.entry_count-slots.ensures c.told-ranges in
    no_place s.size (ranges_in s.ranges.now) s.held s.area s.keeping
    c.in_default.is c.entry_count-slots.result c.entry_count-slots.ensures c.if-slots-held.false
    c.in-Some-lowest_free_slot.i (sym (c.lowest_free_slot.ensures ∙ free_slot_position (take c.entry_count-slots.result s.ranges.now) ∙ first_free_slot _ s.ranges.now within)
    ∙ c.in-Some-lowest_free_slot.is)
    c.index_start.result c.index_start.ensures
    (sym (c.lowest_place.ensures ∙ first_place _ s.ranges.now within _ _) ∙ c.in_default-lowest_place.is)

-- the free place
pub overflow_mul-result : goal.overflow_mul-result
overflow_mul-result c =
    let a = c.args in
    let s = c.args in
    let within = held_in s.size _ s.ranges.now c.requires.size_value c.entry_count-slots.ensures c.told-ranges in
    let k = c.in-Some-lowest_place.k in
    let limit = c.index_start.result in
    let below =
    found_below (fits_at a.ranges.now c.entry_count-slots.result a.area) (limit / a.area) k
    (sym (c.lowest_place.ensures ∙ first_place _ s.ranges.now within _ _) ∙ c.in-Some-lowest_place.is) in
    omega (
      arith,
      (place_ends k a.area limit c.requires.area_nonzero.0).0 below,
      c.index_start.ensures,
      index_start_le a.size,
      (lent_size a.size c.requires.size_value).deal.size_high,
    )

pub returns : goal.returns
returns c =
    let s = c.args in
    let within = held_in s.size _ s.ranges.now c.requires.size_value c.entry_count-slots.ensures c.told-ranges in
    is_placed s.size (ranges_in s.ranges.now) s.held s.area s.keeping
    c.in_default.is c.entry_count-slots.result c.entry_count-slots.ensures c.if-slots-held.false
    c.in-Some-lowest_free_slot.i (sym (c.lowest_free_slot.ensures ∙ free_slot_position (take c.entry_count-slots.result s.ranges.now) ∙ first_free_slot _ s.ranges.now within)
    ∙ c.in-Some-lowest_free_slot.is)
    c.index_start.result c.index_start.ensures c.in-Some-lowest_place.k
    (sym (c.lowest_place.ensures ∙ first_place _ s.ranges.now within _ _) ∙ c.in-Some-lowest_place.is)
