-- A turn of the gathering: slot i is added to the ranges of the slots before it.
use Rattle.std.proofs.Common.{
  ◌≡◌,
  refl,
  zero,
  suc,
  replicate,
  sym,
  ap,
  ◌∙◌,
  subst,
  ⊎_elim,
  eq-or-lt_of_le,
  ℕ,
  ◌+◌,
  ◌≤◌,
  ◌<◌,
  List,
  length,
  get_or,
  set,
  get_or-set_same,
  get_or-set_other,
  arith,
  Option,
  Some,
  None,
}
use Rattle.entries.specs.declared.Fields.{Fields}
use Rattle.sizes.specs.Sizes.{area, slot_place}
use Rattle.index.specs.Slots.{Row, entry_at, row_as, row_of, row_at}
use Rattle.room.specs.Room.{Range, range, SameBelow, ranges_in}
use Rattle.ranges.specs.Ranges.{row_range, ranges_of}

module _ (deal : List ℕ) (i place : ℕ) (answer : Option Fields) (p : place ≡ slot_place (length deal) i)
    (e : row_as answer ≡ row_of (length deal) (entry_at deal place)) where
  -- the range of the entry that was read is that of the slot
  read_range : row_range (row_as answer) ≡ ranges_of deal i
  read_range = ap row_range (e ∙ ap (λ (at : ℕ). row_of (length deal) (entry_at deal at)) p)

  module _ (ranges : List Range) (h : i < length ranges) (g : SameBelow i (ranges_in ranges) (ranges_of deal)) where
    pub gathered_some : (fields : Fields) → answer ≡ Some fields
        → SameBelow (i + 1) (ranges_in (set ranges i (range fields.offset (area fields.size)))) (ranges_of deal)
    gathered_some fields f j l =
        let within : j ≤ i = omega arith in
        ⊎_elim
        (λ same.
        subst (λ (k : ℕ). get_or (set ranges i (range fields.offset (area fields.size))) k (range 0 0) ≡ ranges_of deal k)
        (sym same)
        (get_or-set_same ranges i (range fields.offset (area fields.size)) (range 0 0) h
        ∙ sym (ap (λ (x : Option Fields). row_range (row_as x)) f)
        ∙ read_range))
        (λ less. get_or-set_other ranges i j (range fields.offset (area fields.size)) (range 0 0) (omega arith) ∙ g j less)
        (eq-or-lt_of_le within)

    -- a slot that nothing is written for holds what the array began with: none
    pub gathered_none : answer ≡ None → ranges_in ranges i ≡ range 0 0
        → SameBelow (i + 1) (ranges_in ranges) (ranges_of deal)
    gathered_none f z j l =
        let within : j ≤ i = omega arith in
        ⊎_elim
        (λ same.
        subst (λ (k : ℕ). ranges_in ranges k ≡ ranges_of deal k) (sym same)
        (z ∙ sym (ap (λ (x : Option Fields). row_range (row_as x)) f) ∙ read_range))
        (λ less. g j less)
        (eq-or-lt_of_le within)

-- an array of one range has it in each place, and from its end on
pub all_none : (n j : ℕ) → get_or (replicate n (range 0 0)) j (range 0 0) ≡ range 0 0
all_none zero j = refl
all_none (suc n) zero = refl
all_none (suc n) (suc j) = all_none n j
