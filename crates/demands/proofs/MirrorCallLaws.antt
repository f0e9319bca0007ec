-- One call on a deal that a ledger mirrors, by the plain form: for a line that names the call the rules give on the
-- ledger what the call was answered, and the ledger after the line mirrors the deal and the table after the call.
use Rattle.std.specs.Prelude.{◌≡◌, refl, Bool, true, ◌&&◌, not, ◌≢◌, ℕ, zero, suc, ◌/◌, ◌≤◌, ◌<◌, set, eqb, leb}
use Rattle.std.proofs.Math.Path.{sym, ap, ap₂, subst, subst₂}
use Rattle.std.proofs.Common.{◌∙◌, arith, length-set, get_or-set_same, get_or-set_other}
use Rattle.std.proofs.Math.Decide.{ℕ_discrete}
use mathlib.Core.List.{List}
use Rattle.std.proofs.Math.ListN.{length}
use borrow.Author.Tests.{leb-true}
use Rattle.rules.specs.Choice.{choose}
use Rattle.rules.specs.RefusalLaws.{and_left}
use Rattle.rules.specs.Refusals.{first_refusal, unless_refused}
use Rattle.rules.specs.SearchLaws.{found_below}
use Rattle.octets.specs.Equality.{same_bytes}
use Rattle.sizes.specs.Sizes.{segment_size_allowed, area, entry_count, slot_place}
use Rattle.sizes.specs.SizesLaws.{DealSize, lent_size}
use Rattle.entries.specs.Entry.{commitment_in, offset_in, size_in}
use Rattle.lent.specs.LentDeal.{LentDeal, lent_deal}
use Rattle.index.specs.Slots.{slot_at, standing}
use Rattle.index.specs.SlotsLaws.{zero_free}
use Rattle.index.specs.Written.{slot_of}
use Rattle.room.specs.RoomLaws.{slots_high}
use Rattle.room.specs.Decide.{answer_to, SlotBelow}
use Rattle.room.specs.DecideLaws.{decides_below, answer_cong}
use Rattle.room.specs.Decide.{Decision}
use Rattle.room.specs.Decide.{Refuse, Already, Place}
use Rattle.ranges.specs.Ranges.{ranges_of}
use Rattle.houses.specs.Houses.{owner_at, with_owner}
use Rattle.houses.specs.HousesLaws.{owner_here, owner_other}
use Rattle.houses.specs.Deciding.{decide_for, place_rules}
use Rattle.booking.specs.Write.{segment_commitment, written_deal}
use Rattle.booking.specs.WriteLaws.{Fits, written_length, slot_same, offset_written, size_written}
use Rattle.booking.specs.KeepLaws.{keeps_stands, keeps_written}
use Rattle.booking.specs.Booking.{keeps_own, lowest_keeping, held_in, decision, booked_deal, booked_table}
use Rattle.booking.specs.Booking.{deal_after, table_after}
use Rattle.booking.specs.BookableLaws.{BookableFor, area_some}
use Rattle.booking.proofs.BookingLaws.{decision_is, answer_is}
use Rattle.booking.proofs.BookedLaws.{booked_fits, booked_slot_in}
use Rattle.cancel.specs.Cancel.{cancel_code}
use Rattle.cancel.proofs.CancelLaws.{cancelled_length, cancelled_slot_in, cancelled_slot, cancelled_slot_other}
use Rattle.cancel.proofs.OwnerCancelLaws.{cancelled_owner_other}
use Rattle.clerk_log.specs.Log.{booking_logged, cancelling_logged}
use Rattle.clerk_log.specs.declared.Line.TheVariants.{Booking as booking, Cancelling as cancelling}
use Rattle.clerk_log.specs.declared.BookingLine.{BookingLine}
use Rattle.clerk_log.specs.declared.CancellingLine.{CancellingLine}
use Rattle.playback.specs.declared.LedgerRow.{LedgerRow}
use Rattle.playback.specs.Ledger.{vacant, is_vacant, ledger_row, ledger_ranges, ledger_owners}
use Rattle.playback.specs.Ledger.{ledger_decision, ledger_answer, ledger_cancel_code, booked_row, after_decision}
use Rattle.playback.specs.Ledger.{ledger_after}
use Rattle.demands.specs.Calls.{book_segment, cancel_place, DealAndTable, answer_in, after_plain_call}
use Rattle.demands.specs.Day.{entry_row, Names}
use Rattle.demands.specs.KeepsOnly.{KeepsOnly}
use Rattle.demands.proofs.KeepsOnlyLaws.{keeps_commitment_lem}
use Rattle.demands.specs.Mirror.{slot_row, Mirrors}
use Rattle.demands.proofs.MirrorLaws.{same_ranges, same_decided, same_place_code}
use Rattle.demands.proofs.LoggedLaws.{logged_booking, logged_cancelling, refused_cancelling}

abbrev row : ℕ → List ℕ → ℕ → ℕ → ℕ → LedgerRow
row house commitment size offset place =
    record { house = house; commitment = commitment; size = size; offset = offset; place = place }

-- the row for slot i, by its bytes, its owner and the deal's size
abbrev row_by : ℕ → List ℕ → ℕ → ℕ → LedgerRow
row_by i entry owner d =
    choose (standing d entry)
    (row owner (commitment_in entry) (size_in entry) (offset_in entry) (slot_place d i)) vacant

-- a slot that holds what it held, and is whose it was
slot_row_same : (was now : DealAndTable) (i : ℕ) → length now.deal ≡ length was.deal
    → slot_at now.deal i ≡ slot_at was.deal i → owner_at now.table i ≡ owner_at was.table i
    → slot_row now i ≡ slot_row was i
slot_row_same was now i size slot owner =
    ap (row_by i (slot_at now.deal i) (owner_at now.table i)) size
    ∙ ap₂ (λ (e : List ℕ) (o : ℕ). row_by i e o (length was.deal)) slot owner

-- one row of the ledger is set, and one slot changes accordingly
set_mirrors : (ledger : List LedgerRow) (was now : DealAndTable) (i : ℕ) (new : LedgerRow) → Mirrors ledger was
    → length now.deal ≡ length was.deal → i < 128 → new ≡ slot_row now i
    → ((j : ℕ) → j < entry_count (length was.deal) → j ≢ i → slot_row now j ≡ slot_row was j)
    → Mirrors (set ledger i new) now
set_mirrors ledger was now i new m size below here others =
    record {
      all_rows = length-set ledger i new ∙ m.all_rows;
      row_is = λ j h.
          let h' : j < entry_count (length was.deal) = omega (arith, ap entry_count size) in
          elim (ℕ_discrete j i) [
            | yes same ↦
                ap (ledger_row (set ledger i new)) same
                ∙ get_or-set_same ledger i new vacant (omega (arith, m.all_rows))
                ∙ here
                ∙ ap (slot_row now) (sym same)
            | no ne ↦ get_or-set_other ledger i j new vacant ne ∙ m.row_is j h' ∙ sym (others j h' ne)
          ];
    }

module _ {ledger : List LedgerRow} {was : DealAndTable} (m : Mirrors ledger was) (P : List ℕ → Type 0)
    (k : KeepsOnly P was.deal) where
  abbrev d : ℕ
  d = length was.deal

  abbrev deal : LentDeal
  deal = lent_deal was.deal

  sized : DealSize (length was.deal)
  sized = (lent_size d k.sound.size_allowed).deal

  few : entry_count (length was.deal) ≤ 128
  few = slots_high d k.sound.size_allowed

  -- a booking that gets a line, of a segment that shares commitment and size with no other of the kind
  module _ (house : ℕ) (segment : List ℕ)
      (apart : (s : List ℕ) → P s → segment_commitment s ≡ segment_commitment segment → length s ≡ length segment
      → s ≡ segment) (logged : booking_logged (answer_in was house segment).code ≡ true) (line : BookingLine)
      (named : Names (book_segment house segment) (booking line)) where
    ready : BookableFor (lent_deal was.deal) was.table house segment
    ready = logged_booking deal was.table house segment logged

    some : 1 ≤ length segment
    unfolding segment_size_allowed
    some =
        let n = length segment in
        leb-true 1 n (and_left (leb 1 n) (leb n (d / 2)) ready.bookable.segment_allowed)

    -- by a house, a commitment and a size
    abbrev decided_on : ℕ → List ℕ → ℕ → Decision
    decided_on by commitment size =
        decide_for d (ledger_ranges ledger) (ledger_owners ledger) by (area size)
        (λ i. eqb (ledger_row ledger i).size size && same_bytes (ledger_row ledger i).commitment commitment)

    same_decision : ledger_decision (length was.deal) ledger line
        ≡ decision (lent_deal was.deal) was.table house segment
    unfolding ledger_decision
    same_decision =
        ap₂ (λ (by : ℕ) (commitment : List ℕ). decided_on by commitment line.size) named.0 named.1
        ∙ ap (decided_on house (segment_commitment segment)) named.2
        ∙ same_decided m sized P k segment some apart house
        ∙ sym (decision_is deal was.table house segment ready)

    slot_below : SlotBelow (entry_count d) (decision deal was.table house segment)
    slot_below =
        subst (SlotBelow (entry_count d)) (sym (decision_is deal was.table house segment ready))
        (decides_below d (ranges_of was.deal) (held_in was.deal was.table house) (area (length segment))
        (lowest_keeping deal was.table house segment) (area_some ready.bookable)
        (found_below (keeps_own deal was.table house segment) (entry_count d)))

    -- the answer on the ledger is that of the booking
    pub same_answer_lem : ledger_answer (length was.deal) ledger line ≡ answer_in was house segment
    same_answer_lem =
        ap (answer_to d (ledger_ranges ledger)) same_decision
        ∙ answer_cong d (ledger_ranges ledger) (ranges_of was.deal) (same_ranges m sized)
        (decision deal was.table house segment) slot_below
        ∙ sym (answer_is deal was.table house segment (decision deal was.table house segment) refl)

    -- the segment is written in slot i: its row is that of the line
    module _ (i o : ℕ) (e : decision (lent_deal was.deal) was.table house segment ≡ Place i o) where
      facts : Fits was.deal segment i o
      facts = booked_fits deal was.table house segment i o e

      in_table : i < length was.table
      in_table = booked_slot_in deal was.table house segment i o e

      abbrev after : DealAndTable
      after = record { deal = written_deal was.deal segment i o; table = with_owner was.table i house }

      new_stands : standing (length after.deal) (slot_at after.deal i) ≡ true
      new_stands = keeps_stands (lent_deal after.deal) segment i (keeps_written facts)

      new_entry_lem : entry_row after i ≡ row house (segment_commitment segment) (length segment) o (slot_place d i)
      new_entry_lem =
          let entry = slot_at after.deal i in
          let t = subst DealSize (sym (written_length facts)) sized in
          let at = slot_place (length after.deal) i in
          ap₂ (λ (h : ℕ) (c : List ℕ). row h c (size_in entry) (offset_in entry) at)
          (owner_here was.table i house in_table)
          (keeps_commitment_lem after.deal segment i t (keeps_written facts))
          ∙ ap₂ (λ (n p : ℕ). row house (segment_commitment segment) n p at) (size_written facts) (offset_written facts)
          ∙ ap (λ (n : ℕ). row house (segment_commitment segment) (length segment) o (slot_place n i))
          (written_length facts)

      new_row : booked_row d line i o ≡ slot_row after i
      new_row =
          ap₂ (λ (h : ℕ) (c : List ℕ). row h c line.size o (slot_place d i)) named.0 named.1
          ∙ ap (λ (n : ℕ). row house (segment_commitment segment) n o (slot_place d i)) named.2
          ∙ sym (ap (λ (b : Bool). choose b (entry_row after i) vacant) new_stands ∙ new_entry_lem)

      written_mirrors : Mirrors (set ledger i (booked_row d line i o)) after
      written_mirrors =
          set_mirrors ledger was after i (booked_row d line i o) m (written_length facts)
          (omega (arith, few, facts.slot_in)) new_row
          (λ j h ne.
          slot_row_same was after j (written_length facts) (slot_same facts j h ne)
          (owner_other was.table i house in_table j ne))

    -- the ledger after the line mirrors what the booking leaves
    after_mirrors : (x : Decision) → decision deal was.table house segment ≡ x
        → Mirrors (after_decision d ledger line x)
        (record { deal = deal_after was.deal segment x; table = table_after was.table house x })
    after_mirrors (Refuse c) e = record { all_rows = m.all_rows; row_is = m.row_is }
    after_mirrors (Already i) e = record { all_rows = m.all_rows; row_is = m.row_is }
    after_mirrors (Place i o) e = written_mirrors i o e

    pub booking_mirrored : Mirrors (ledger_after (length was.deal) ledger (booking line))
        (after_plain_call (book_segment house segment) was)
    unfolding ledger_after booked_deal booked_table
    booking_mirrored =
        subst
        (λ (x : Decision). Mirrors (after_decision d ledger line x) (after_plain_call (book_segment house segment) was))
        (sym same_decision) (after_mirrors (decision deal was.table house segment) refl)

  -- a cancellation that gets a line
  module _ (house place : ℕ)
      (logged : cancelling_logged (cancel_code (lent_deal was.deal) was.table house place) ≡ true)
      (line : CancellingLine) (named : Names (cancel_place house place) (cancelling line)) where
    abbrev code : ℕ
    code = cancel_code deal was.table house place

    abbrev slot : ℕ
    slot = slot_of d place

    abbrev left : DealAndTable
    left = after_plain_call (cancel_place house place) was

    -- the code on the ledger is that of the cancellation
    pub same_code : ledger_cancel_code (length was.deal) ledger line
        ≡ cancel_code (lent_deal was.deal) was.table house place
    unfolding ledger_cancel_code
    same_code =
        ap₂
        (λ (by at : ℕ).
        first_refusal
        (place_rules d (ledger_owners ledger) by at (not (is_vacant (ledger_row ledger (slot_of d at))))))
        named.0 named.1
        ∙ same_place_code m sized house place
        ∙ sym (logged_cancelling deal was.table house place logged).code_is

    -- the ledger after the line mirrors what the cancellation leaves: with code 0 the slot is vacant
    zeroed_mirrors : cancel_code deal was.table house place ≡ 0 → Mirrors (set ledger slot vacant) left
    zeroed_mirrors e =
        let size = cancelled_length deal was.table house place in
        let blank = ap (standing (length left.deal)) (cancelled_slot deal was.table house place e)
        ∙ zero_free (length left.deal) in
        set_mirrors ledger was left slot vacant m size
        (omega (arith, few, cancelled_slot_in deal was.table house place e))
        (sym (ap (λ (b : Bool). choose b (entry_row left slot) vacant) blank))
        (λ j h ne.
        slot_row_same was left j size (cancelled_slot_other deal was.table house place j h ne)
        (cancelled_owner_other deal was.table house place j ne))

    by_code : (c : ℕ) → cancel_code deal was.table house place ≡ c
        → Mirrors (unless_refused c (λ (r : ℕ). ledger) (set ledger slot vacant)) left
    by_code zero e = zeroed_mirrors e
    by_code (suc c) e =
        subst (Mirrors ledger) (sym (refused_cancelling was house place (λ z. omega (arith, e, z)))) m

    pub cancelling_mirrored : Mirrors (ledger_after (length was.deal) ledger (cancelling line))
        (after_plain_call (cancel_place house place) was)
    unfolding ledger_after
    cancelling_mirrored =
        subst₂
        (λ (c p : ℕ). Mirrors (unless_refused c (λ (r : ℕ). ledger) (set ledger (slot_of d p) vacant)) left)
        (sym same_code) (sym named.1) (by_code code refl)
