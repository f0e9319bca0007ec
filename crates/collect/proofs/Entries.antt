-- The entry of a slot as it is read, and as it is written in its new slot.
use Rattle.std.proofs.Common.{◌≡◌, refl, sym, ap, ◌∙◌, true, ℕ, List, length, Option, Some, None}
use Rattle.octets.specs.Splice.{splice}
use Rattle.octets.specs.SpliceLaws.{splice_nothing}
use Rattle.sizes.specs.Sizes.{slot_place}
use Rattle.entries.specs.Entry.{entry_of}
use Rattle.entries.specs.declared.Fields.{Fields}
use Rattle.index.specs.Slots.{Row, entry_at, slot_at, standing, row_as, row_of, row_at}
use Rattle.index.specs.SlotsLaws.{answer_stands}
use Rattle.collect.specs.Collect.{entry_moved}

module _ (deal : List ℕ) (j place : ℕ) (read : Option Fields) (p : place ≡ slot_place (length deal) j)
    (e : row_as read ≡ row_of (length deal) (entry_at deal place)) where
  here : row_as read ≡ row_at deal j
  here = e ∙ ap (λ (at : ℕ). row_of (length deal) (entry_at deal at)) p

  pub nothing_written : read ≡ None → (new : List ℕ) (at o : ℕ) → new ≡ splice new at (entry_moved (row_at deal j) o)
  nothing_written h new at o =
      let none : entry_moved (row_at deal j) o ≡ entry_moved (row_as None) o =
      ap (λ (r : Row). entry_moved r o) (sym here ∙ ap row_as h) in
      sym (ap (splice new at) none ∙ splice_nothing new at)

  module _ (row : Fields) (h : read ≡ Some row) where
    pub slot_stands : standing (length deal) (slot_at deal j) ≡ true
    slot_stands = (answer_stands (length deal) (slot_at deal j) (row_as read) here (ap (λ (x : Option Fields). (row_as x).stands) h)).is_standing

    pub entry_is : (o : ℕ) → entry_of row.commitment o row.size ≡ entry_moved (row_at deal j) o
    entry_is o = ap (λ (r : Row). entry_moved r o) (sym (ap row_as h) ∙ here)
