-- A ledger that the two houses share, neither with more than half the slots, as a deal is shared (Shared): the rules
-- give no 13 on it, and it stays so after every line. So no line with code 13 is confirmed from an empty ledger.
use Rattle.std.proofs.Math.Path.{◌≡◌, refl, sym, ap}
use Rattle.std.proofs.Common.{◌∙◌, true≢false, ⊎_elim, length-set, get_or-set_same, get_or-set_other, ne_eqb, leb-false}
use Rattle.std.specs.Prelude.{Bool, ◌&&◌, not, ◌≢◌, ℕ, zero, suc, ◌+◌, ◌*◌, ◌≤◌, ◌<◌, set}
use Rattle.std.proofs.Math.Bool.{true, false}
use Rattle.std.proofs.Math.Decide.{ℕ_discrete}
use native.Mathlib.Omega.{arith}
use mathlib.Core.List.{List, [], ◌∷◌}
use Rattle.std.proofs.Math.ListN.{length-replicate, get_or-replicate, get_or-map}
use Rattle.std.proofs.Math.Dec.{eqb}
use Rattle.rules.specs.Choice.{choose}
use Rattle.rules.specs.Refusals.{Rule, first_refusal, unless_refused}
use Rattle.rules.specs.RefusalLaws.{none_refused, and_left, and_right}
use Rattle.rules.specs.Search.{one, count, lowest}
use Rattle.rules.specs.SearchLaws.{count_cong}
use Rattle.std.proofs.Common.{Option}
use Rattle.sizes.specs.Sizes.{lent_size_allowed, segment_size_allowed, area, entry_count}
use Rattle.sizes.specs.SizesLaws.{DealSize, lent_size, segment_size}
use Rattle.index.specs.Written.{slot_of}
use Rattle.index.specs.SlotWrittenLaws.{place_slot}
use Rattle.room.specs.Room.{is_empty}
use Rattle.room.specs.RoomLaws.{slots_high}
use Rattle.room.specs.Decide.{decide, answer_to}
use Rattle.room.specs.DecideLaws.{decides_13, decides_place}
use Rattle.room.specs.declared.Booked.{Booked}
use Rattle.room.specs.Decide.{Decision}
use Rattle.room.specs.Decide.{Refuse, Already, Place}
use Rattle.houses.specs.Houses.{house_allowed, owned, holds, held_count}
use Rattle.houses.specs.Deciding.{place_rules}
use Rattle.clerk_log.specs.Log.{booking_logged, booking_allowed, line_allowed}
use Rattle.clerk_log.specs.declared.Line.{Line}
use Rattle.clerk_log.specs.declared.Line.TheVariants.{Booking as booking, Cancelling as cancelling}
use Rattle.clerk_log.specs.LineFits.{AllFit}
use Rattle.clerk_log.specs.declared.BookingLine.{BookingLine}
use Rattle.clerk_log.specs.declared.CancellingLine.{CancellingLine}
use Rattle.playback.specs.declared.LedgerRow.{LedgerRow}
use Rattle.playback.specs.Playback.{Code, LineNumber}
use Rattle.playback.specs.Ledger.{vacant, is_vacant, empty_ledger, ledger_row, ledger_range, ledger_ranges}
use Rattle.playback.specs.Ledger.{ledger_owners}
use Rattle.playback.specs.Ledger.{same_segment, ledger_decision, ledger_cancel_code, booked_row, after_decision}
use Rattle.playback.specs.Ledger.{ledger_after}
use Rattle.playback.specs.Playback.{ruling, confirms, no_rows, play_from}
use Rattle.demands.proofs.HeldLaws.{count_both, count_none, slots_even, and_none}
use Rattle.demands.proofs.QuotaLaws.{one_of_two, is_house}
use Rattle.demands.proofs.PlayLaws.{answers_same}
use Rattle.demands.specs.SharedLedger.{held_by, SharedLedger, Not13, None13}

-- how many pass two tests that agree everywhere but at k
count_but_one : (p q : ℕ → Bool) (k i n : ℕ) → ((j : ℕ) → j ≢ k → p j ≡ q j) → count p i n ≤ one (p k) + count q i n
count_but_one p q k i zero same = omega arith
count_but_one p q k i (suc n) same =
    elim (ℕ_discrete i k) [
      | yes here ↦
          let rest = count_cong p q (suc i) n (λ j l m. same j (λ s. omega arith)) in
          omega (arith, ap (λ (x : ℕ). one (p x)) here, rest)
      | no ne ↦
          let first : one (p i) ≡ one (q i) = ap one (same i ne) in
          omega (arith, first, count_but_one p q k (suc i) n same)
    ]

-- a test counts once at most
one_most : (b : Bool) → one b ≤ 1
one_most true = omega arith
one_most false = omega arith

-- a house holds a row
abbrev row_held : ℕ → LedgerRow → Bool
row_held house row = not (is_empty (ledger_range row)) && eqb row.house house

-- by the ledger's ranges and owners
holds_row : (ledger : List LedgerRow) (house i : ℕ)
    → holds (ledger_ranges ledger) (ledger_owners ledger) house i ≡ row_held house (ledger_row ledger i)
holds_row ledger house i =
    ap (λ (owner : ℕ). not (is_empty (ledger_ranges ledger i)) && eqb owner house)
    (get_or-map (λ (row : LedgerRow). row.house) ledger i vacant)

module _ (d : ℕ) (l : lent_size_allowed d ≡ true) where
  sized : DealSize d
  sized = (lent_size d l).deal

  few : entry_count d ≤ 128
  few = slots_high d l

  -- one row is set
  module _ {ledger : List LedgerRow} (s : SharedLedger d ledger) (k : ℕ) (k_in : k < entry_count d)
      (new : LedgerRow) where
    abbrev after : List LedgerRow
    after = set ledger k new

    -- it stands there, and each house holds that row more at most
    row_here : ledger_row after k ≡ new
    row_here = get_or-set_same ledger k new vacant (omega (arith, k_in, few, s.all_rows))

    held_after : (house : ℕ) → held_by d after house ≤ one (row_held house new) + held_by d ledger house
    unfolding held_count
    held_after house =
        let p = holds (ledger_ranges after) (ledger_owners after) house in
        let q = holds (ledger_ranges ledger) (ledger_owners ledger) house in
        let here : p k ≡ row_held house new = holds_row after house k ∙ ap (row_held house) row_here in
        let most = count_but_one p q k 0 (entry_count d)
        (λ j ne.
        holds_row after house j
        ∙ ap (row_held house) (get_or-set_other ledger k j new vacant ne)
        ∙ sym (holds_row ledger house j)) in
        omega (arith, most, ap one here)

    -- every row that holds something is a house's where the new one is
    owned_after : (is_vacant new ≡ false → house_allowed new.house ≡ true) → (i : ℕ) → i < entry_count d
        → is_vacant (ledger_row after i) ≡ false → house_allowed (ledger_row after i).house ≡ true
    owned_after own i h v =
        elim (ℕ_discrete i k) [
          | yes here ↦
              let row : ledger_row after i ≡ new = ap (ledger_row after) here ∙ row_here in
              ap (λ (r : LedgerRow). house_allowed r.house) row ∙ own (sym (ap is_vacant row) ∙ v)
          | no ne ↦
              let row = get_or-set_other ledger k i new vacant ne in
              ap (λ (r : LedgerRow). house_allowed r.house) row
              ∙ s.all_owned i h (sym (ap is_vacant row) ∙ v)
        ]

  -- a booking's line that may stand in the log
  module _ {ledger : List LedgerRow} (s : SharedLedger d ledger) (line : BookingLine)
      (a : booking_allowed d line ≡ true) where
    abbrev size_there : Bool
    size_there = segment_size_allowed d line.size

    abbrev listed : Bool
    listed = booking_logged line.answer.code

    house_there : house_allowed line.house ≡ true
    house_there = and_left (house_allowed line.house) (size_there && listed) a

    area_there : 0 < area line.size
    area_there =
        let size = and_left size_there listed (and_right (house_allowed line.house) (size_there && listed) a) in
        omega (arith, (segment_size d line.size sized size).area_low)

    -- what the rules decide for it
    abbrev keeping : Option ℕ
    keeping =
        lowest
        (λ i. owned (ledger_owners ledger) line.house i && same_segment line (ledger_row ledger i)) 0 (entry_count d)

    abbrev decided : Decision
    decided = decide d (ledger_ranges ledger) (held_by d ledger line.house) (area line.size) keeping

    -- where every row holds something, the two houses hold all of them, and so half each: 22 comes before 13
    all_held : ((j : ℕ) → j < entry_count d → is_empty (ledger_ranges ledger j) ≡ false)
        → held_by d ledger 1 + held_by d ledger 2 ≡ entry_count d
    unfolding held_count
    all_held full =
        count_both (holds (ledger_ranges ledger) (ledger_owners ledger) 1)
        (holds (ledger_ranges ledger) (ledger_owners ledger) 2) 0 (entry_count d)
        (λ j x y.
        let h : j < entry_count d = omega arith in
        rw (holds_row ledger 1 j, holds_row ledger 2 j, full j h)
        (one_of_two (ledger_row ledger j).house (s.all_owned j h (taken j (full j h)))))
      where
        taken : (j : ℕ) → is_empty (ledger_ranges ledger j) ≡ false → is_vacant (ledger_row ledger j) ≡ false
        taken j e = by_test (is_vacant (ledger_row ledger j)) e
          where
            by_test : (b : Bool) → eqb (choose b 0 (area (ledger_row ledger j).size)) 0 ≡ false → b ≡ false
            by_test true f = f
            by_test false f = refl

    -- so 13 is not decided, nor answered
    not_13 : decided ≡ Refuse 13 → ⊥
    not_13 e =
        let x = (decides_13 d (ledger_ranges ledger) (held_by d ledger line.house) (area line.size) keeping).0 e in
        let both = all_held x.2.none_free in
        let below = leb-false (entry_count d) (2 * held_by d ledger line.house) x.1 in
        ⊎_elim
        (λ is_1. omega (arith, both, below, ap (held_by d ledger) is_1, s.half_at_most 1, s.half_at_most 2))
        (λ is_2. omega (arith, both, below, ap (held_by d ledger) is_2, s.half_at_most 1, s.half_at_most 2))
        (is_house line.house house_there)

    ruled_not_13 : (ruling d ledger (booking line)).code ≢ 13
    unfolding ruling ledger_decision
    ruled_not_13 = by_decision decided refl
      where
        by_decision : (x : Decision) → decided ≡ x → (answer_to d (ledger_ranges ledger) x).code ≢ 13
        by_decision (Refuse c) e z = not_13 (e ∙ ap Refuse z)
        by_decision (Already i) e z = omega arith
        by_decision (Place i o) e z = omega arith

    -- a place: the house held fewer than half of an even number of slots
    placed : (i o : ℕ) → decided ≡ Place i o → SharedLedger d (set ledger i (booked_row d line i o))
    placed i o e =
        let held = held_by d ledger line.house in
        let x = (decides_place d (ledger_ranges ledger) held (area line.size) keeping area_there i o).0 e in
        let i_in : i < entry_count d = omega (arith, x.2.free_slot.below) in
        let new = booked_row d line i o in
        let below = leb-false (entry_count d) (2 * held) x.1 in
        record {
          all_rows = length-set ledger i new ∙ s.all_rows;
          all_owned = owned_after s i i_in new (λ v. house_there);
          half_at_most = λ house.
              let most = held_after s i i_in new house in
              elim (ℕ_discrete line.house house) [
                | yes same ↦
                    omega (
                      arith,
                      most,
                      below,
                      slots_even d sized,
                      one_most (row_held house new),
                      ap (held_by d ledger) same,
                    )
                | no ne ↦
                    let none : one (row_held house new) ≡ 0 =
                    ap (λ (b : Bool). one (not (is_empty (ledger_range new)) && b)) (ne_eqb line.house house ne)
                    ∙ ap one (and_none (not (is_empty (ledger_range new)))) in
                    omega (arith, most, none, s.half_at_most house)
              ];
        }

    -- so the ledger stays shared
    booked_shared : SharedLedger d (ledger_after d ledger (booking line))
    unfolding ledger_after ledger_decision
    booked_shared = by_decision decided refl
      where
        by_decision : (x : Decision) → decided ≡ x → SharedLedger d (after_decision d ledger line x)
        by_decision (Refuse c) e = s
        by_decision (Already i) e = s
        by_decision (Place i o) e = placed i o e

  -- a cancellation's line: a row is vacant, or nothing changes
  cancelled_shared : {ledger : List LedgerRow} → SharedLedger d ledger → (line : CancellingLine)
      → SharedLedger d (ledger_after d ledger (cancelling line))
  unfolding ledger_after ledger_cancel_code
  cancelled_shared {ledger} s line = by_code (first_refusal rules) refl
    where
      rules : List Rule
      rules =
          place_rules d (ledger_owners ledger) line.house line.place
          (not (is_vacant (ledger_row ledger (slot_of d line.place))))

      by_code : (c : ℕ) → first_refusal rules ≡ c
          → SharedLedger d (unless_refused c (λ (r : ℕ). ledger) (set ledger (slot_of d line.place) vacant))
      by_code (suc c) e = s
      by_code zero e =
          let slot = slot_of d line.place in
          let allowed = (none_refused rules (omega arith, (omega arith, tt)) e).0 in
          let slot_in = (place_slot d line.place sized allowed).0 in
          record {
            all_rows = length-set ledger slot vacant ∙ s.all_rows;
            all_owned = owned_after s slot slot_in vacant (λ v. absurd (true≢false v));
            half_at_most = λ house.
                omega (arith, held_after s slot slot_in vacant house, s.half_at_most house);
          }

  -- either
  line_shared : {ledger : List LedgerRow} → SharedLedger d ledger → (line : Line) → line_allowed d line ≡ true
      → SharedLedger d (ledger_after d ledger line)
  line_shared s (booking line) a = booked_shared s line a
  line_shared s (cancelling line) a = cancelled_shared s line

  -- an empty ledger: no row holds anything
  empty_shared : SharedLedger d empty_ledger
  unfolding held_count
  empty_shared =
      record {
        all_rows = length-replicate 128 vacant;
        all_owned = λ i h v.
            let row = get_or-replicate 128 i vacant vacant (omega (arith, few)) in
            absurd (true≢false (sym (ap is_vacant row) ∙ v));
        half_at_most = λ house.
            let none =
            count_none (holds (ledger_ranges empty_ledger) (ledger_owners empty_ledger) house) 0 (entry_count d)
            (λ j x y.
            holds_row empty_ledger house j
            ∙ ap (row_held house) (get_or-replicate 128 j vacant vacant (omega (arith, few)))) in
            omega (arith, none);
      }

  -- a line that is confirmed does not say 13
  confirmed_not_13 : {ledger : List LedgerRow} → SharedLedger d ledger → (line : Line) → line_allowed d line ≡ true
      → confirms d ledger line ≡ true → Not13 line
  confirmed_not_13 {ledger} s (booking line) a e =
      λ z.
      ruled_not_13 s line a
      (ap (λ (b : Booked). b.code) (answers_same (ruling d ledger (booking line)) line.answer e) ∙ z)
  confirmed_not_13 s (cancelling line) a e = tt

  -- and none of the lines of a log that is confirmed does
  played_none_13 : (ls : List Line) {ledger : List LedgerRow} (number : ℕ) → SharedLedger d ledger → AllFit d ls
      → (play_from d ledger number ls).verdict ≡ Code 0 → None13 ls
  unfolding play_from
  played_none_13 [] number s f e = tt
  played_none_13 (line ∷ later) {ledger} number s f e =
      by_test (confirms d ledger line) refl e
      (played_none_13 later (suc number) (line_shared s line f.0) f.2)
    where
      by_test : (b : Bool) → confirms d ledger line ≡ b
          → (choose b (play_from d (ledger_after d ledger line) (suc number) later)
          (no_rows (LineNumber number) (ruling d ledger line))).verdict ≡ Code 0
          → ((play_from d (ledger_after d ledger line) (suc number) later).verdict ≡ Code 0 → None13 later)
          → None13 (line ∷ later)
      by_test true t v rest = (confirmed_not_13 s line f.0 t, rest v)
      by_test false t v rest = let z : ◌≡◌ {A = ℕ} 0 1 = cc in absurd (omega arith)

  -- so it is from an empty ledger
  pub log_none_13 : (ls : List Line) → AllFit d ls → (play_from d empty_ledger 1 ls).verdict ≡ Code 0 → None13 ls
  log_none_13 ls f = played_none_13 ls 1 empty_shared f
