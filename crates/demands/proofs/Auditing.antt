-- Request (xi), the audit of a deal (document 02: "For every slot, write one byte into a lent buffer: 0 blank, 1
-- damaged, 2 valid but not standing, 3 standing and overlapping a standing entry in a lower slot, 4 standing but its
-- commitment is wrong, 5 kept. The lowest number that applies is written. Order 2, 11, 12 for a buffer shorter than the
-- number of slots; bytes past that number stay. A deal made only by our bookings from all zeros shows only 0 and 5").
use Rattle.std.specs.Prelude.{◌≡◌, true, false, ◌↔◌, ◌≢◌, ℕ, ◌≤◌, ◌<◌, List, length, get_or}
use Rattle.std.proofs.Common.{sym, ap, subst, arith}
use Rattle.std.proofs.lemmas.List.{length-replicate}
use Rattle.rules.specs.SearchLaws.{IsLowest}
use Rattle.sizes.specs.Sizes.{lent_size_allowed, entry_count}
use Rattle.entries.specs.declared.EntryKind.{EntryKind}
use Rattle.lent.specs.LentDeal.{lent_deal}
use Rattle.index.specs.Slots.{kept_at}
use Rattle.audit.specs.Audit.{is_kind_at, stands_at, audit_code, audited_states}
use Rattle.audit.specs.SlotStateLaws.{applies, state_lowest, state_1, state_2, state_3, state_4}
use Rattle.audit.specs.SlotStateLaws.{OverlapsStanding, overlaps_standing}
use Rattle.audit.specs.AuditLaws.{Audits, audits, states_left, audited_after, audited_length}
use Rattle.demands.specs.Calls.{DealAndTable}
use Rattle.demands.specs.DealCalls.{DealCall, run_deal_calls, all_zero_deal}
use Rattle.demands.proofs.DealCallsLaws.{deal_run_length}
use Rattle.demands.specs.Sound.{IsBlank, IsKept, Sound}
use Rattle.demands.proofs.SoundLaws.{zeros_sound, run_sound}
use Rattle.demands.specs.Shown.{shown_for, ShowsOnly0And5}
use Rattle.demands.proofs.ShownLaws as L

-- 0 is answered exactly if the deal's size is allowed, no node has stray bits, and the buffer has a byte for every
-- slot. Any other code leaves the buffer as it is.
pub audits_exactly : (deal states : List ℕ) → (audit_code deal states ≡ 0) ↔ Audits deal states
audits_exactly = audits

pub refused_auditing : (deal states : List ℕ) → audit_code deal states ≢ 0 → audited_states deal states ≡ states
refused_auditing = states_left

-- The audit answered 0.
module _ (deal states : List ℕ) (e : audit_code deal states ≡ 0) where
  -- The buffer is as long as it was, and its bytes past the number of slots are as they were.
  pub length_stays : length (audited_states deal states) ≡ length states
  length_stays = audited_length deal states

  pub later_bytes_stay : (i : ℕ) → entry_count (length deal) ≤ i
      → get_or (audited_states deal states) i 0 ≡ get_or states i 0
  later_bytes_stay = audited_after deal states e

  module _ (i : ℕ) (h : i < entry_count (length deal)) where
    -- The byte for slot i is the lowest number that applies: ..
    pub lowest_is_written : IsLowest (applies deal i) 0 6 (shown_for deal states i)
    lowest_is_written = subst (IsLowest (applies deal i) 0 6) (sym (L.shown_is deal states e i h)) (state_lowest deal i)

    -- .. 0 exactly if the slot is blank, 64 zero bytes; ..
    pub shows_0 : (shown_for deal states i ≡ 0) ↔ IsBlank deal i
    shows_0 = L.shown_0 deal states e i h

    -- .. 1 exactly if its entry is damaged; ..
    pub shows_1 : (shown_for deal states i ≡ 1) ↔ (is_kind_at EntryKind.Damaged deal i ≡ true)
    shows_1 = L.shown_as deal states e i h 1 (state_1 deal i)

    -- .. 2 exactly if it is valid but does not stand; ..
    pub shows_2 : (shown_for deal states i ≡ 2)
        ↔ ((is_kind_at EntryKind.Valid deal i ≡ true) × (stands_at deal i ≡ false))
    shows_2 = L.shown_as deal states e i h 2 (state_2 deal i)

    -- .. 3 exactly if it stands and overlaps a standing entry in a lower slot, whatever its commitment; ..
    pub shows_3 : (shown_for deal states i ≡ 3) ↔ ((stands_at deal i ≡ true) × OverlapsStanding deal i)
    shows_3 =
        let state = state_3 deal i in
        let some = overlaps_standing deal i in
        L.shown_as deal states e i h 3 (
          λ s. let p = state.0 s in (p.0, some.0 p.1),
          λ p. state.1 (p.0, some.1 p.1),
        )

    -- .. 4 exactly if it stands and overlaps none there, but its commitment is wrong: it is not kept; ..
    pub shows_4 : (shown_for deal states i ≡ 4)
        ↔ ((stands_at deal i ≡ true) × (OverlapsStanding deal i → ⊥) × (kept_at (lent_deal deal) i ≡ false))
    shows_4 =
        let state = state_4 deal i in
        let none = L.none_standing deal i in
        L.shown_as deal states e i h 4 (
          λ s. let p = state.0 s in (p.0, none.0 p.1, p.2),
          λ p. state.1 (p.0, none.1 p.1, p.2),
        )

    -- .. and 5 exactly if it is kept and overlaps none there.
    pub shows_5 : (shown_for deal states i ≡ 5) ↔ (IsKept deal i × (OverlapsStanding deal i → ⊥))
    shows_5 = L.shown_5 deal states e i h

-- Only 0 and 5 are shown exactly if the deal is sound: its size is allowed and no node has stray bits, every slot is
-- blank or kept, and no standing area overlaps another.
pub only_0_and_5_exactly : (deal states : List ℕ) → entry_count (length deal) ≤ length states
    → ShowsOnly0And5 deal states ↔ Sound deal
only_0_and_5_exactly deal states room = (L.shows_sound deal states, L.sound_shows deal states room)

-- A deal that shows only 0 and 5 does so after any run of our calls, bookings, cancellations and collections of both
-- houses, whatever their codes and whatever is lent them.
pub still_only_0_and_5 : (was : DealAndTable) (calls : List DealCall) (states : List ℕ)
    → ShowsOnly0And5 was.deal states → ShowsOnly0And5 (run_deal_calls was calls).deal states
still_only_0_and_5 was calls states s =
    let room = ((audits was.deal states).0 s.answers_0).room in
    let slots = ap entry_count (deal_run_length calls was) in
    L.sound_shows (run_deal_calls was calls).deal states (omega (arith, room, slots))
    (run_sound calls was (L.shows_sound was.deal states s))

-- "A deal made only by our bookings from all zeros shows only 0 and 5": so after any run of them from an all-zero deal
-- of an allowed size, whatever the table held, and with cancellations and collections among them too.
pub from_zeros_only_0_and_5 : (d : ℕ) (table : List ℕ) (calls : List DealCall) (states : List ℕ)
    → lent_size_allowed d ≡ true → entry_count d ≤ length states
    → ShowsOnly0And5 (run_deal_calls (all_zero_deal d table) calls).deal states
from_zeros_only_0_and_5 d table calls states l room =
    let start = all_zero_deal d table in
    let slots = ap entry_count (length-replicate {A = ℕ} d 0) in
    still_only_0_and_5 start calls states
    (L.sound_shows start.deal states (omega (arith, room, slots)) (zeros_sound d l))
