-- What a ledger that mirrors a deal and its table shows: the bytes that the slots take up, the slots that a house
-- holds, and so, where no two segments share commitment and size, what the rules decide for a booking and for a
-- cancellation. Where no entry stands the table may hold anything while the row is nobody's: owners agree only where an
-- entry stands, and nothing more is asked. An empty ledger mirrors an all-zero deal.
use Rattle.std.specs.Prelude.{◌≡◌, refl, Bool, true, false, ◌&&◌, not, ℕ, zero, suc, ◌+◌, ◌/◌, ◌≤◌, ◌<◌, List, ◌∷◌}
use Rattle.std.specs.Prelude.{length, replicate, eqb, leb}
use Rattle.std.proofs.Common.{sym, ap, ap₂, ◌∙◌, true≢false, arith}
use Rattle.std.proofs.lemmas.List.{length-replicate, get_or-replicate}
use Rattle.std.proofs.Math.ListN.{get_or-map}
use borrow.Author.Tests.{eqb-true, eq-eqb, ne_eqb, leb-true, not-true, not-false}
use Rattle.rules.specs.Choice.{choose}
use Rattle.rules.specs.RefusalLaws.{and_left, and_right, and_both, and_same, not_passed}
use Rattle.rules.specs.Refusals.{first_refusal, first_of}
use Rattle.rules.specs.Search.{lowest}
use Rattle.rules.specs.SearchLaws.{lowest_cong, count_cong}
use Rattle.octets.specs.Equality.{same_bytes}
use Rattle.octets.specs.EqualityLaws.{same_true, same_of}
use Rattle.sizes.specs.Sizes.{lent_size_allowed, segment_size_allowed, area, entry_count, place_allowed}
use Rattle.sizes.specs.SizesLaws.{DealSize, lent_size}
use Rattle.entries.specs.Entry.{commitment_in, size_in}
use Rattle.lent.specs.LentDeal.{lent_deal}
use Rattle.index.specs.Slots.{slot_at, entry_at, standing}
use Rattle.index.specs.SlotsLaws.{stands}
use Rattle.index.specs.Written.{slot_of}
use Rattle.index.specs.SlotWrittenLaws.{place_slot}
use Rattle.room.specs.Room.{SameBelow, is_empty, Range}
use Rattle.room.specs.RoomLaws.{slots_high}
use Rattle.room.specs.Decide.{decide}
use Rattle.room.specs.DecideLaws.{decide_cong}
use Rattle.ranges.specs.Ranges.{ranges_of}
use Rattle.ranges.specs.RangesLaws.{range_stands, range_free, range_empty}
use Rattle.houses.specs.Houses.{owner_at, owned, holds, held_count}
use Rattle.houses.specs.Deciding.{decide_for, place_rules}
use Rattle.booking.specs.Write.{segment_commitment}
use Rattle.booking.specs.Booking.{keeps_segment, keeps_own, held_in}
use Rattle.booking.specs.KeepLaws.{keeps_stands}
use Rattle.playback.specs.declared.LedgerRow.{LedgerRow}
use Rattle.playback.specs.Ledger.{vacant, is_vacant, empty_ledger, ledger_row, ledger_range, ledger_ranges}
use Rattle.playback.specs.Ledger.{ledger_owners}
use Rattle.playback.specs.Playback.{and_row, rows_from}
use Rattle.demands.specs.Calls.{DealAndTable}
use Rattle.demands.specs.DealCalls.{all_zero_deal}
use Rattle.demands.specs.Day.{entry_row, standing_from}
use Rattle.demands.proofs.ZeroDealLaws.{none_stands}
use Rattle.demands.proofs.HeldLaws.{and_none}
use Rattle.demands.specs.KeepsOnly.{KeepsOne, KeepsOnly}
use Rattle.demands.proofs.KeepsOnlyLaws.{keeps_size, keeps_commitment_lem}
use Rattle.demands.specs.Mirror.{Mirrors}

-- two tests of which each is passed where the other is
both_ways : (a b : Bool) → (a ≡ true → b ≡ true) → (b ≡ true → a ≡ true) → a ≡ b
both_ways true true f g = refl
both_ways true false f g = sym (f refl)
both_ways false true f g = g refl
both_ways false false f g = refl

module _ {ledger : List LedgerRow} {now : DealAndTable} (m : Mirrors ledger now)
    (t : DealSize (length now.deal)) where
  abbrev d : ℕ
  d = length now.deal

  abbrev stands_in : ℕ → Bool
  stands_in i = standing d (slot_at now.deal i)

  -- the row of a slot: that of its standing entry, or vacant
  pub row_standing : (i : ℕ) → i < entry_count d → stands_in i ≡ true → ledger_row ledger i ≡ entry_row now i
  row_standing i h s = m.row_is i h ∙ ap (λ (b : Bool). choose b (entry_row now i) vacant) s

  row_vacant : (i : ℕ) → i < entry_count d → stands_in i ≡ false → ledger_row ledger i ≡ vacant
  row_vacant i h s = m.row_is i h ∙ ap (λ (b : Bool). choose b (entry_row now i) vacant) s

  -- a standing entry has a size from 1 on
  size_some : (i : ℕ) → stands_in i ≡ true → 1 ≤ size_in (slot_at now.deal i)
  unfolding segment_size_allowed
  size_some i s =
      let size = size_in (slot_at now.deal i) in
      let allowed = (stands d (slot_at now.deal i) s).size_allowed in
      leb-true 1 size (and_left (leb 1 size) (leb size (d / 2)) allowed)

  pub vacant_is : (i : ℕ) → i < entry_count (length now.deal)
      → not (is_vacant (ledger_row ledger i)) ≡ standing (length now.deal) (slot_at now.deal i)
  vacant_is i h = by_test (stands_in i) refl
    where
      by_test : (b : Bool) → stands_in i ≡ b → not (is_vacant (ledger_row ledger i)) ≡ stands_in i
      by_test true s =
          let size = size_in (slot_at now.deal i) in
          ap (λ (r : LedgerRow). not (is_vacant r)) (row_standing i h s)
          ∙ ap not (ne_eqb size 0 (λ z. omega (arith, size_some i s)))
          ∙ sym s
      by_test false s = ap (λ (r : LedgerRow). not (is_vacant r)) (row_vacant i h s) ∙ sym s

  -- the bytes that the slots take up
  pub same_ranges : SameBelow (entry_count (length now.deal)) (ledger_ranges ledger) (ranges_of now.deal)
  same_ranges i h = by_test (stands_in i) refl
    where
      by_test : (b : Bool) → stands_in i ≡ b → ledger_ranges ledger i ≡ ranges_of now.deal i
      by_test true s =
          let size = size_in (slot_at now.deal i) in
          ap ledger_range (row_standing i h s)
          ∙ rw (ne_eqb size 0 (λ z. omega (arith, size_some i s)))
          (sym (range_stands d (slot_at now.deal i) s))
      by_test false s = ap ledger_range (row_vacant i h s) ∙ sym (range_free d (slot_at now.deal i) s)

  -- whose a standing entry is, and how many slots a house holds
  owner_is : (i : ℕ) → i < entry_count d → stands_in i ≡ true → owner_at (ledger_owners ledger) i ≡ owner_at now.table i
  owner_is i h s =
      get_or-map (λ (row : LedgerRow). row.house) ledger i vacant
      ∙ ap (λ (row : LedgerRow). row.house) (row_standing i h s)

  owned_is : (house i : ℕ) → i < entry_count d → stands_in i ≡ true
      → owned (ledger_owners ledger) house i ≡ owned now.table house i
  owned_is house i h s = ap (λ (owner : ℕ). eqb owner house) (owner_is i h s)

  same_holds : (house i : ℕ) → i < entry_count d
      → holds (ledger_ranges ledger) (ledger_owners ledger) house i ≡ holds (ranges_of now.deal) now.table house i
  same_holds house i h =
      ap (λ (r : Range). not (is_empty r) && owned (ledger_owners ledger) house i) (same_ranges i h)
      ∙ and_same (not (is_empty (ranges_of now.deal i))) (owned (ledger_owners ledger) house i)
      (owned now.table house i)
      (λ taken.
      owned_is house i h
      (not-false (stands_in i)
      (sym (range_empty d (slot_at now.deal i) t) ∙ not-true (is_empty (ranges_of now.deal i)) taken)))

  pub same_held : (house : ℕ)
      → held_count (ledger_ranges ledger) (ledger_owners ledger) house (entry_count (length now.deal))
      ≡ held_in now.deal now.table house
  unfolding held_count
  same_held house =
      count_cong (holds (ledger_ranges ledger) (ledger_owners ledger) house)
      (holds (ranges_of now.deal) now.table house) 0 (entry_count d)
      (λ j a b. same_holds house j (omega arith))

  -- a segment with some bytes that none of a kind shares commitment and size with, where the standing entries keep
  -- segments of that kind alone: a row is of equal T and commitment exactly if its slot keeps the segment
  module _ (P : List ℕ → Type 0) (k : KeepsOnly P now.deal) (segment : List ℕ) (some : 1 ≤ length segment)
      (apart : (s : List ℕ) → P s → segment_commitment s ≡ segment_commitment segment → length s ≡ length segment
      → s ≡ segment) where
    abbrev same_as : LedgerRow → Bool
    same_as row = eqb row.size (length segment) && same_bytes row.commitment (segment_commitment segment)

    -- an entry that names the segment's size and commitment keeps a segment of the kind with both, which is this one
    named_keeps : (i : ℕ) → KeepsOne P now.deal i → same_as (entry_row now i) ≡ true
        → keeps_segment (lent_deal now.deal) segment i ≡ true
    named_keeps i one e =
        let size = size_in (slot_at now.deal i) in
        let commitment = commitment_in (slot_at now.deal i) in
        let sized = eqb size (length segment) in
        let named = same_bytes commitment (segment_commitment segment) in
        let same = apart one.segment one.of_kind_lem
        (sym (keeps_commitment_lem now.deal one.segment i t one.keeps_it)
        ∙ same_true commitment (segment_commitment segment) (and_right sized named e))
        (sym (keeps_size now.deal one.segment i t one.keeps_it)
        ∙ eqb-true size (length segment) (and_left sized named e)) in
        ap (λ (s : List ℕ). keeps_segment (lent_deal now.deal) s i) (sym same) ∙ one.keeps_it

    keeps_named : (i : ℕ) → keeps_segment (lent_deal now.deal) segment i ≡ true → same_as (entry_row now i) ≡ true
    keeps_named i e =
        let size = size_in (slot_at now.deal i) in
        let commitment = commitment_in (slot_at now.deal i) in
        and_both (eqb size (length segment)) (same_bytes commitment (segment_commitment segment))
        (eq-eqb size (length segment) (keeps_size now.deal segment i t e))
        (same_of commitment (segment_commitment segment) (keeps_commitment_lem now.deal segment i t e))

    same_keeps : (i : ℕ) → i < entry_count d
        → same_as (ledger_row ledger i) ≡ keeps_segment (lent_deal now.deal) segment i
    same_keeps i h = by_test (stands_in i) refl
      where
        by_test : (b : Bool) → stands_in i ≡ b
            → same_as (ledger_row ledger i) ≡ keeps_segment (lent_deal now.deal) segment i
        by_test true s =
            ap same_as (row_standing i h s)
            ∙ both_ways (same_as (entry_row now i)) (keeps_segment (lent_deal now.deal) segment i)
            (named_keeps i (k.each_keeps i h s)) (keeps_named i)
        by_test false s =
            ap same_as (row_vacant i h s)
            ∙ ap (λ (b : Bool). b && same_bytes vacant.commitment (segment_commitment segment))
            (ne_eqb 0 (length segment) (λ z. omega (arith, some)))
            ∙ sym
            (not_passed (keeps_segment (lent_deal now.deal) segment i)
            (λ e. true≢false (sym (keeps_stands (lent_deal now.deal) segment i e) ∙ s)))

    same_own : (house i : ℕ) → i < entry_count d
        → (owned (ledger_owners ledger) house i && same_as (ledger_row ledger i))
        ≡ keeps_own (lent_deal now.deal) now.table house segment i
    same_own house i h =
        ap (λ (b : Bool). owned (ledger_owners ledger) house i && b) (same_keeps i h)
        ∙ own_cong (keeps_segment (lent_deal now.deal) segment i) refl
      where
        own_cong : (b : Bool) → keeps_segment (lent_deal now.deal) segment i ≡ b
            → (owned (ledger_owners ledger) house i && b) ≡ (owned now.table house i && b)
        own_cong true e =
            ap (λ (o : Bool). o && true) (owned_is house i h (keeps_stands (lent_deal now.deal) segment i e))
        own_cong false e = and_none (owned (ledger_owners ledger) house i) ∙ sym (and_none (owned now.table house i))

    -- so the rules decide for a booking of it as on the deal
    pub same_decided : (house : ℕ)
        → decide_for (length now.deal) (ledger_ranges ledger) (ledger_owners ledger) house (area (length segment))
        (λ i.
        eqb (ledger_row ledger i).size (length segment)
        && same_bytes (ledger_row ledger i).commitment (segment_commitment segment))
        ≡ decide_for (length now.deal) (ranges_of now.deal) now.table house (area (length segment))
        (keeps_segment (lent_deal now.deal) segment)
    same_decided house =
        let n = area (length segment) in
        let test : ℕ → Bool = λ i. owned (ledger_owners ledger) house i && same_as (ledger_row ledger i) in
        let held = held_in now.deal now.table house in
        ap (λ (m : ℕ). decide d (ledger_ranges ledger) m n (lowest test 0 (entry_count d))) (same_held house)
        ∙ decide_cong d (ledger_ranges ledger) (ranges_of now.deal) same_ranges held n (lowest test 0 (entry_count d))
        ∙ ap (decide d (ranges_of now.deal) held n)
        (lowest_cong test (keeps_own (lent_deal now.deal) now.table house segment) 0 (entry_count d)
        (λ j a b. same_own house j (omega arith)))

  -- and so they do for a cancellation
  module _ (house place : ℕ) where
    abbrev slot : ℕ
    slot = slot_of d place

    by_place : (b : Bool) → place_allowed d place ≡ b
        → first_of b 6
        (first_of (not (is_vacant (ledger_row ledger slot)) && owned (ledger_owners ledger) house slot) 16 0)
        ≡ first_of b 6 (first_of (standing d (entry_at now.deal place) && owned now.table house slot) 16 0)
    by_place false e = refl
    by_place true e =
        let at = place_slot d place t e in
        ap (λ (b : Bool). first_of b 16 0)
        (ap (λ (b : Bool). b && owned (ledger_owners ledger) house slot) (vacant_is slot at.0)
        ∙ and_same (stands_in slot) (owned (ledger_owners ledger) house slot) (owned now.table house slot)
        (owned_is house slot at.0)
        ∙ ap (λ (p : ℕ). standing d (entry_at now.deal p) && owned now.table house slot) (sym at.1))

    pub same_place_code :
        first_refusal
        (place_rules (length now.deal) (ledger_owners ledger) house place
        (not (is_vacant (ledger_row ledger (slot_of (length now.deal) place)))))
        ≡ first_refusal
        (place_rules (length now.deal) now.table house place
        (standing (length now.deal) (entry_at now.deal place)))
    same_place_code = by_place (place_allowed d place) refl

-- an empty ledger mirrors an all-zero deal, with whatever table
pub empty_mirrors : (d : ℕ) (table : List ℕ) → lent_size_allowed d ≡ true → Mirrors empty_ledger (all_zero_deal d table)
empty_mirrors d table l =
    let n = length (replicate {A = ℕ} d 0) in
    let allowed : lent_size_allowed n ≡ true = ap lent_size_allowed (length-replicate {A = ℕ} d 0) ∙ l in
    record {
      all_rows = length-replicate 128 vacant;
      row_is = λ i h.
          let few = slots_high n allowed in
          get_or-replicate 128 i vacant vacant (omega arith)
          ∙ sym
          (ap (λ (b : Bool). choose b (entry_row (all_zero_deal d table) i) vacant)
          (none_stands d i (lent_size n allowed).deal h));
    }

-- the rows of a ledger that mirrors a deal are its standing entries, those among the n slots from i on
pub rows_stand : (n i : ℕ) {ledger : List LedgerRow} {now : DealAndTable} → Mirrors ledger now
    → DealSize (length now.deal) → i + n ≤ entry_count (length now.deal)
    → rows_from ledger i n ≡ standing_from now i n
unfolding rows_from standing_from
rows_stand zero i m t h = refl
rows_stand (suc n) i {ledger} {now} m t h =
    by_test (standing (length now.deal) (slot_at now.deal i)) refl (rows_stand n (suc i) m t (omega arith))
  where
    in_index : i < entry_count (length now.deal)
    in_index = omega arith

    by_test : (b : Bool) → standing (length now.deal) (slot_at now.deal i) ≡ b
        → rows_from ledger (suc i) n ≡ standing_from now (suc i) n
        → and_row (ledger_row ledger i) (rows_from ledger (suc i) n)
        ≡ choose b (entry_row now i ∷ standing_from now (suc i) n) (standing_from now (suc i) n)
    by_test true s rest =
        let taken = not-true (is_vacant (ledger_row ledger i)) (vacant_is m t i in_index ∙ s) in
        rw taken (ap₂ ◌∷◌ (row_standing m t i in_index s) rest)
    by_test false s rest =
        let empty = not-false (is_vacant (ledger_row ledger i)) (vacant_is m t i in_index ∙ s) in
        rw empty rest
