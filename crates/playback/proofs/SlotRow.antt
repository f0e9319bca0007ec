-- The row of a slot that a cancellation names.
use Rattle.std.specs.Prelude.{◌≡◌, true, ℕ, ◌<◌, List, length}
use Rattle.std.proofs.Common.{ap, ◌∙◌, arith}
use Rattle.sizes.specs.Sizes.{lent_size_allowed, place_allowed}
use Rattle.sizes.specs.SizesLaws.{lent_size}
use Rattle.index.specs.Written.{slot_of}
use Rattle.index.specs.SlotWrittenLaws.{place_slot}
use Rattle.room.specs.RoomLaws.{slots_high}
use Rattle.playback.specs.declared.LedgerRow.{LedgerRow}
use Rattle.playback.specs.Ledger.{ledger_row}
use Rattle.playback.proofs.Read.{row_read, read_is}

module _ (d place slot : ℕ) (t : lent_size_allowed d ≡ true) (allowed : place_allowed d place ≡ true)
    (e : slot ≡ slot_of d place) where
  -- a slot of the index is one of the ledger's
  pub slot_below : slot < 128
  slot_below = omega (arith, e, (place_slot d place (lent_size d t).deal allowed).0, slots_high d t)

  -- the row that is read there
  pub slot_row : (ledger : List LedgerRow) → length ledger ≡ 128
      → row_read ledger slot ≡ ledger_row ledger (slot_of d place)
  slot_row ledger l = read_is ledger slot (omega (arith, slot_below, l)) ∙ ap (ledger_row ledger) e
