-- A ledger's rows after one is stored, and what stays as it is from line to line: the length of the ledger, and that
-- its segments end by the index start.
use Rattle.std.specs.Prelude.{◌≡◌, Bool, true, false, ◌&&◌, ◌≢◌, ℕ, zero, suc, ◌+◌, ◌≤◌, ◌<◌, length, get_or, set}
use Rattle.std.specs.Prelude.{replicate}
use Rattle.std.proofs.Math.Path.{refl, subst}
use Rattle.std.proofs.Common.{sym, ap, ◌∙◌, length-set, get_or-set_same, get_or-set_other}
use Rattle.std.proofs.Math.Decide.{dec_lt, ℕ_discrete}
use native.Mathlib.Omega.{arith}
use mathlib.Core.List.{List}
use Rattle.std.proofs.lemmas.List.{length-map, length-replicate}
use Rattle.std.proofs.Math.ListN.{get_or-map}
use Rattle.std.proofs.Math.Seq.{set_out}
use Rattle.rules.specs.Choice.{choose}
use Rattle.rules.specs.Refusals.{unless_refused}
use Rattle.rules.specs.RefusalLaws.{and_left, and_right}
use Rattle.rules.specs.Search.{lowest}
use Rattle.rules.specs.SearchLaws.{found_below}
use Rattle.sizes.specs.Sizes.{lent_size_allowed, segment_size_allowed, entry_count, index_start, area}
use Rattle.sizes.specs.SizesLaws.{lent_size, SegmentSize, segment_size}
use Rattle.index.specs.Written.{slot_of}
use Rattle.room.specs.Room.{EndBy}
use Rattle.room.specs.Decide.{SlotBelow}
use Rattle.room.specs.DecideLaws.{decides_place, decides_below}
use Rattle.room.specs.Decide.{Decision}
use Rattle.room.specs.Decide.{Refuse, Already, Place}
use Rattle.houses.specs.Houses.{house_allowed, held_count}
use Rattle.clerk_log.specs.Log.{booking_logged, line_allowed}
use Rattle.clerk_log.specs.declared.Line.{Line}
use Rattle.clerk_log.specs.declared.Line.TheVariants.{Booking as booking, Cancelling as cancelling}
use Rattle.clerk_log.specs.declared.BookingLine.{BookingLine}
use Rattle.playback.specs.declared.LedgerRow.{LedgerRow}
use Rattle.playback.specs.Ledger.{vacant, is_vacant, empty_ledger, ledger_row, ledger_range, ledger_ranges}
use Rattle.playback.specs.Ledger.{ledger_owners, ledger_decision, ledger_cancel_code, booked_row}
use Rattle.playback.specs.Ledger.{after_decision, ledger_after}
use Rattle.playback.specs.Steps.{Fits, keeps_at}

-- whose a row is; 0 past the end of the ledger, as in a vacant row
pub owner_at_lem : (ledger : List LedgerRow) (i : ℕ) → get_or (ledger_owners ledger) i 0 ≡ (ledger_row ledger i).house
owner_at_lem ledger i = get_or-map (λ (row : LedgerRow). row.house) ledger i vacant

pub owners_length : (ledger : List LedgerRow) → length (ledger_owners ledger) ≡ length ledger
owners_length ledger = length-map ledger (λ (row : LedgerRow). row.house)

-- rows of which none holds anything
pub vacant_at : (n i : ℕ) → ledger_row (replicate n vacant) i ≡ vacant
vacant_at zero i = refl
vacant_at (suc n) zero = refl
vacant_at (suc n) (suc i) = vacant_at n i

-- the rows after one is stored
module _ (ledger : List LedgerRow) (i : ℕ) (row : LedgerRow) where
  pub row_here : i < length ledger → ledger_row (set ledger i row) i ≡ row
  row_here h = get_or-set_same ledger i row vacant h

  pub row_other : (j : ℕ) → j ≢ i → ledger_row (set ledger i row) j ≡ ledger_row ledger j
  row_other j ne = get_or-set_other ledger i j row vacant ne

  module _ (limit : ℕ) where
    -- the segment of a row ends by the limit
    Ends : LedgerRow → Type 0
    Ends x = (ledger_range x).offset + (ledger_range x).area ≤ limit

    -- segments that end by a limit, with one more that does
    pub ends_set : (slots : ℕ) → EndBy limit slots (ledger_ranges ledger)
        → (ledger_range row).offset + (ledger_range row).area ≤ limit
        → EndBy limit slots (ledger_ranges (set ledger i row))
    unfolding Ends
    ends_set slots ends e j l =
        elim (dec_lt i (length ledger)) [
          | yes h ↦
              elim (ℕ_discrete j i) [
                | yes same ↦ subst Ends (sym (ap (ledger_row (set ledger i row)) same ∙ row_here h)) e
                | no ne ↦ subst Ends (sym (row_other j ne)) (ends j l)
              ]
          | no h ↦
              subst (λ (rows : List LedgerRow). Ends (ledger_row rows j)) (sym (set_out ledger i row (omega arith)))
              (ends j l)
        ]

-- the length of the ledger stays
after_decision_length : (d : ℕ) (ledger : List LedgerRow) (line : BookingLine) (x : Decision)
    → length (after_decision d ledger line x) ≡ length ledger
after_decision_length d ledger line (Refuse code) = refl
after_decision_length d ledger line (Already i) = refl
after_decision_length d ledger line (Place i offset) = length-set ledger i (booked_row d line i offset)

unless_length : (code : ℕ) (ledger other : List LedgerRow) → length other ≡ length ledger
    → length (unless_refused code (λ (c : ℕ). ledger) other) ≡ length ledger
unless_length zero ledger other e = e
unless_length (suc code) ledger other e = refl

pub after_length : (d : ℕ) (ledger : List LedgerRow) (line : Line) → length (ledger_after d ledger line) ≡ length ledger
unfolding ledger_after
after_length d ledger (booking line) = after_decision_length d ledger line (ledger_decision d ledger line)
after_length d ledger (cancelling line) =
    unless_length (ledger_cancel_code d ledger line) ledger (set ledger (slot_of d line.place) vacant)
    (length-set ledger (slot_of d line.place) vacant)

pub empty_length : length empty_ledger ≡ 128
empty_length = length-replicate 128 vacant

-- the empty ledger fits every lent deal
pub empty_fits : (d : ℕ) → lent_size_allowed d ≡ true → Fits d empty_ledger
empty_fits d t =
    record {
      size_allowed = t;
      ends = λ i h.
          subst (λ (row : LedgerRow). (ledger_range row).offset + (ledger_range row).area ≤ index_start d)
          (sym (vacant_at 128 i)) (omega arith);
    }

-- a line for a booking that may stand in a log is for a size that is allowed
pub size_allowed_in : (d : ℕ) (line : BookingLine) → line_allowed d (booking line) ≡ true
    → segment_size_allowed d line.size ≡ true
size_allowed_in d line e =
    let house = house_allowed line.house in
    let size = segment_size_allowed d line.size in
    let code = booking_logged line.answer.code in
    and_left size code (and_right house (size && code) e)

-- an area or none is at most the area
or_nothing : (b : Bool) (n : ℕ) → choose b 0 n ≤ n
or_nothing true n = omega arith
or_nothing false n = omega arith

-- what is decided for a booking of a size that is allowed
module _ (d : ℕ) (ledger : List LedgerRow) (line : BookingLine) (t : lent_size_allowed d ≡ true)
    (s : segment_size_allowed d line.size ≡ true) where
  -- the area of its segment
  sized : SegmentSize d line.size
  sized = segment_size d line.size (lent_size d t).deal s

  -- the slots that the house holds
  held : ℕ
  held = held_count (ledger_ranges ledger) (ledger_owners ledger) line.house (entry_count d)

  -- the slot that is decided on is one of the index
  pub decision_below : SlotBelow (entry_count d) (ledger_decision d ledger line)
  unfolding ledger_decision held
  decision_below =
      decides_below d (ledger_ranges ledger) held (area line.size) (lowest (keeps_at ledger line) 0 (entry_count d))
      (omega (arith, sized.area_low)) (λ i e. found_below (keeps_at ledger line) (entry_count d) i e)

  -- the segment ends by the index start
  placed_ends : (i offset : ℕ) → ledger_decision d ledger line ≡ Place i offset
      → offset + area line.size ≤ index_start d
  unfolding ledger_decision held
  placed_ends i offset e =
      ((decides_place d (ledger_ranges ledger) held (area line.size) (lowest (keeps_at ledger line) 0 (entry_count d))
      (omega (arith, sized.area_low)) i offset).0 e).2.free_place.ends

  -- and so the ledger fits with its row
  pub booking_fits : Fits d ledger → Fits d (ledger_after d ledger (booking line))
  unfolding ledger_after
  booking_fits f = by_decision (ledger_decision d ledger line) refl
    where
      by_decision : (x : Decision) → ledger_decision d ledger line ≡ x → Fits d (after_decision d ledger line x)
      by_decision (Refuse code) e = f
      by_decision (Already i) e = f
      by_decision (Place i offset) e =
          record {
            size_allowed = t;
            ends =
                ends_set ledger i (booked_row d line i offset) (index_start d) (entry_count d) f.ends
                (omega (
                  arith,
                  or_nothing (is_vacant (booked_row d line i offset)) (area line.size),
                  placed_ends i offset e,
                ));
          }

-- a ledger without a row fits, as it did with it
unless_fits : (d code : ℕ) (ledger other : List LedgerRow) → Fits d ledger → Fits d other
    → Fits d (unless_refused code (λ (c : ℕ). ledger) other)
unless_fits d zero ledger other f g = g
unless_fits d (suc code) ledger other f g = f

-- a line that may stand in a log leaves a ledger that fits
pub after_fits : (d : ℕ) (ledger : List LedgerRow) (line : Line) → Fits d ledger → line_allowed d line ≡ true
    → Fits d (ledger_after d ledger line)
unfolding ledger_after
after_fits d ledger (booking line) f a = booking_fits d ledger line f.size_allowed (size_allowed_in d line a) f
after_fits d ledger (cancelling line) f a =
    unless_fits d (ledger_cancel_code d ledger line) ledger (set ledger (slot_of d line.place) vacant) f
    (record {
      size_allowed = f.size_allowed;
      ends = ends_set ledger (slot_of d line.place) vacant (index_start d) (entry_count d) f.ends (omega arith);
    })
