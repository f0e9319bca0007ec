-- What a line and the rules come to, from what the code finds on the way.
use Rattle.std.specs.Prelude.{◌≡◌, refl, Bool, true, false, not, ℕ, List, Result, Ok, Err, set, eqb}
use Rattle.std.proofs.Common.{sym, ap, ◌∙◌, arith}
use mathlib.Core.Bool.{and-true}
use Rattle.rules.specs.declared.Refusal.{Refusal}
use Rattle.rules.specs.Choice.{choose}
use Rattle.sizes.specs.Sizes.{lent_size_allowed, segment_size_allowed, entry_count, slot_place}
use Rattle.room.specs.declared.Range.{Range}
use Rattle.room.specs.Room.{SameBelow}
use Rattle.room.specs.RoomLaws.{slots_high}
use Rattle.room.specs.Decide.{Decision, Refuse, Already, Place, answer_to, SlotBelow}
use Rattle.room.specs.DecideLaws.{answer_cong}
use Rattle.room.specs.Decide.{decision_of}
use Rattle.room.specs.declared.Decision as Declared
use Rattle.room.specs.declared.Decision.TheVariants as De
use Rattle.room.specs.declared.Booked.{Booked}
use Rattle.clerk_log.specs.declared.Line.{Line}
use Rattle.clerk_log.specs.declared.Line.TheVariants.{Booking as booking, Cancelling as cancelling}
use Rattle.clerk_log.specs.declared.BookingLine.{BookingLine}
use Rattle.clerk_log.specs.declared.CancellingLine.{CancellingLine}
use Rattle.playback.specs.declared.LedgerRow.{LedgerRow}
use Rattle.playback.specs.Ledger.{ledger_ranges, ledger_decision, ledger_answer, ledger_cancel_code, after_decision}
use Rattle.playback.specs.Ledger.{ledger_after}
use Rattle.playback.specs.LedgerLaws.{decision_below}
use Rattle.playback.specs.Playback.{code_alone, ruling, same_answer, confirms}

choose_on : {A : Type 0} (b : Bool) (x y : A) → b ≡ true → x ≡ choose b x y
choose_on true x y e = refl
choose_on false x y e = let z : ◌≡◌ {A = ℕ} 0 1 = cc in absurd (omega arith)

choose_off : {A : Type 0} (b : Bool) (x y : A) → b ≡ false → y ≡ choose b x y
choose_off true x y e = let z : ◌≡◌ {A = ℕ} 0 1 = cc in absurd (omega arith)
choose_off false x y e = refl

-- what comes of a line: with its answer the ledger after it, and with another what the rules give
module _ (d : ℕ) (ledger : List LedgerRow) (line : Line) where
  abbrev pub Outcome : Type 0
  Outcome = Result (Unit {0}) Booked

  abbrev pub outcome : Outcome
  outcome = choose (confirms d ledger line) (Ok tt) (Err (ruling d ledger line))

  abbrev pub left : List LedgerRow
  left = choose (confirms d ledger line) (ledger_after d ledger line) ledger

  pub outcome_other : (ruled : Booked) → ruled ≡ ruling d ledger line → confirms d ledger line ≡ false
      → ◌≡◌ {A = Outcome} (Err ruled) outcome
  outcome_other ruled r e =
      ap (λ (x : Booked). Err x) r ∙ choose_off (confirms d ledger line) (Ok tt) (Err (ruling d ledger line)) e

  pub left_other : confirms d ledger line ≡ false → ledger ≡ left
  left_other e = choose_off (confirms d ledger line) (ledger_after d ledger line) ledger e

  pub outcome_same : confirms d ledger line ≡ true → ◌≡◌ {A = Outcome} (Ok tt) outcome
  outcome_same e = choose_on (confirms d ledger line) (Ok tt) (Err (ruling d ledger line)) e

  -- and the other way round
  pub other_of : (ruled : Booked) → ◌≡◌ {A = Outcome} (Err ruled) outcome
      → (confirms d ledger line ≡ false) × (ruled ≡ ruling d ledger line)
  other_of ruled = go (confirms d ledger line)
    where
      go : (b : Bool) → ◌≡◌ {A = Outcome} (Err ruled) (choose b (Ok tt) (Err (ruling d ledger line)))
          → (b ≡ false) × (ruled ≡ ruling d ledger line)
      go true e = let z : ◌≡◌ {A = ℕ} 0 1 = cc in absurd (omega arith)
      go false e = (refl, cc)

  pub same_of : (given : Outcome) → ((ruled : Booked) → given ≡ Err ruled → ⊥) → given ≡ outcome
      → confirms d ledger line ≡ true
  same_of given other = go (confirms d ledger line)
    where
      go : (b : Bool) → given ≡ choose b (Ok tt) (Err (ruling d ledger line)) → b ≡ true
      go true e = refl
      go false e = absurd (other (ruling d ledger line) e)

  pub left_is : confirms d ledger line ≡ true → left ≡ ledger_after d ledger line
  left_is e = sym (choose_on (confirms d ledger line) (ledger_after d ledger line) ledger e)

  pub left_same : (after : List LedgerRow) → after ≡ ledger_after d ledger line → confirms d ledger line ≡ true
      → after ≡ left
  left_same after a e = a ∙ choose_on (confirms d ledger line) (ledger_after d ledger line) ledger e

-- a cancellation: its code alone is compared
module _ (d : ℕ) (ledger : List LedgerRow) (line : CancellingLine) (code : ℕ)
    (is_code : code ≡ ledger_cancel_code d ledger line) where
  pub ruled_code : code_alone code ≡ ruling d ledger (cancelling line)
  unfolding ruling
  ruled_code = ap code_alone is_code

  pub confirms_code : confirms d ledger (cancelling line) ≡ eqb code line.code
  unfolding ruling
  confirms_code =
      and-true (eqb (ledger_cancel_code d ledger line) line.code) ∙ ap (λ (c : ℕ). eqb c line.code) (sym is_code)

-- a booking: the answer to what is decided
module _ (d : ℕ) (ledger : List LedgerRow) (line : BookingLine) (t : lent_size_allowed d ≡ true)
    (s : segment_size_allowed d line.size ≡ true) (made : Decision) (is_made : made ≡ ledger_decision d ledger line)
  where
    -- its slot is one of the index
    pub made_below : SlotBelow (entry_count d) made
    made_below = rw is_made (decision_below d ledger line t s)

    -- the ranges that are read give the ledger's answer
    pub ruled_booking : (ranges : ℕ → Range) → SameBelow 128 ranges (ledger_ranges ledger)
        → answer_to d ranges made ≡ ruling d ledger (booking line)
    unfolding ruling
    ruled_booking ranges same =
        answer_cong d ranges (ledger_ranges ledger) (λ i h. same i (omega (arith, slots_high d t))) made made_below
        ∙ ap (answer_to d (ledger_ranges ledger)) is_made

    pub after_booking : after_decision d ledger line made ≡ ledger_after d ledger (booking line)
    unfolding ledger_after
    after_booking = ap (after_decision d ledger line) is_made

    -- the row of the place that is decided on, stored
    pub stored : (slot offset place : ℕ) → place ≡ slot_place d slot → made ≡ Place slot offset
        → set ledger slot (record {
          house = line.house;
          commitment = line.commitment;
          size = line.size;
          offset = offset;
          place = place;
        }) ≡ ledger_after d ledger (booking line)
    stored slot offset place e m =
        ap
        (λ (p : ℕ).
        set ledger slot
        (record {
          house = line.house;
          commitment = line.commitment;
          size = line.size;
          offset = offset;
          place = p;
        }))
        e
        ∙ sym (ap (after_decision d ledger line) m)
        ∙ after_booking

-- an answer compared with the line's
pub confirms_booking : (d : ℕ) (ledger : List LedgerRow) (line : BookingLine) (ruled : Booked)
    → ruled ≡ ruling d ledger (booking line) → confirms d ledger (booking line) ≡ same_answer ruled line.answer
confirms_booking d ledger line ruled r = ap (λ (x : Booked). same_answer x line.answer) (sym r)

-- a decision that is no place changes nothing
pub nothing_stored : (d : ℕ) (ledger : List LedgerRow) (line : BookingLine) (x : Decision)
    → ((i offset : ℕ) → x ≡ Place i offset → ⊥) → ledger ≡ after_decision d ledger line x
nothing_stored d ledger line (Refuse code) h = refl
nothing_stored d ledger line (Already i) h = refl
nothing_stored d ledger line (Place i offset) h = absurd (h i offset refl)

pub no_place : (x : Declared.Decision Refusal) → ((i offset : ℕ) → x ≡ De.Place i offset → ⊥) → (i offset : ℕ)
    → decision_of x ≡ Place i offset → ⊥
no_place (De.Refuse refusal) h i offset e = let z : ◌≡◌ {A = ℕ} 0 1 = cc in absurd (omega arith)
no_place (De.Already j) h i offset e = let z : ◌≡◌ {A = ℕ} 0 1 = cc in absurd (omega arith)
no_place (De.Place j at) h i offset e = h j at refl

-- the test that an answer is another
pub is_other : (b c : Bool) → c ≡ not b → c ≡ true → b ≡ false
is_other true c e f = cc
is_other false c e f = refl

pub is_same : (b c : Bool) → c ≡ not b → c ≡ false → b ≡ true
is_same true c e f = refl
is_same false c e f = cc
