-- What booking decides on a ledger, from the numbers that the code reads of it.
use mathlib.Core.Path.{◌≡◌, refl, sym, ap, ap₂, ◌∙◌, subst}
use mathlib.Core.Bool.{true}
use Prim.Native.Nat.{ℕ, ◌+◌, ◌≤◌, ◌<◌}
use native.Mathlib.Omega.{arith}
use Rattle.std.specs.Prelude.{List, length, map, take}
use Rattle.std.proofs.Common.{length-take}
use Rattle.std.proofs.Math.ListN.{get_or-map}
use Rattle.std.proofs.lemmas.List.{length-map, get_or-take}
use Rattle.std.proofs.Common.{Option}
use Rattle.rules.specs.Search.{lowest}
use Rattle.sizes.specs.Sizes.{segment_size_allowed, area, entry_count, index_start}
use Rattle.sizes.specs.SizesLaws.{SegmentSize, lent_size, segment_size}
use Rattle.room.specs.Room.{range, ranges_in, SameBelow, EndBy}
use Rattle.room.specs.declared.Range.{Range}
use Rattle.room.specs.RoomLaws.{slots_high}
use Rattle.room.specs.Decide.{decide}
use Rattle.room.specs.DecideLaws.{decide_cong}
use Rattle.room.specs.Decide.{Decision}
use Rattle.houses.specs.Houses.{held_count}
use Rattle.houses.specs.HousesLaws.{held_cong}
use Rattle.clerk_log.specs.declared.BookingLine.{BookingLine}
use Rattle.playback.specs.declared.LedgerRow.{LedgerRow}
use Rattle.playback.specs.Ledger.{vacant, ledger_range, ledger_ranges, ledger_owners, ledger_decision}
use Rattle.playback.specs.Steps.{Fits, keeps_at}

-- the area of a segment whose size is allowed
pub area_fits : (d size : ℕ) (ledger : List LedgerRow) → Fits d ledger → segment_size_allowed d size ≡ true
    → (0 < area size) × (area size ≤ d)
area_fits d size ledger f s =
    let z : SegmentSize d size = segment_size d size (lent_size d f.size_allowed).deal s in
    (omega (arith, z.area_low), omega (arith, z.area_half))

-- the ranges of the rows, as a list
pub ranges_same : (ledger : List LedgerRow) (i : ℕ) → ranges_in (map ledger_range ledger) i ≡ ledger_ranges ledger i
ranges_same ledger i = get_or-map ledger_range ledger i vacant

module _ (d : ℕ) (ledger : List LedgerRow) (f : Fits d ledger) (sized : length ledger ≡ 128) (ranges : List Range)
    (all : ranges ≡ map ledger_range ledger) where
  same : (i : ℕ) → ranges_in ranges i ≡ ledger_ranges ledger i
  same i = ap (λ (r : List Range). ranges_in r i) all ∙ ranges_same ledger i

  pub same_below : SameBelow 128 (ranges_in ranges) (ledger_ranges ledger)
  same_below i h = same i

  pub ranges_sized : length ranges ≡ 128
  ranges_sized = ap length all ∙ length-map ledger ledger_range ∙ sized

  -- the ranges end by the index start
  pub ranges_end : EndBy (index_start d) (entry_count d) (ranges_in ranges)
  ranges_end i h = subst (λ (r : Range). r.offset + r.area ≤ index_start d) (sym (same i)) (f.ends i h)

  module _ (slots : ℕ) (is_slots : slots ≡ entry_count d) where
    pub slots_few : slots ≤ 128
    slots_few = omega (arith, is_slots, slots_high d f.size_allowed)

    pub slots_taken : slots ≡ length (take slots ranges)
    slots_taken = simp (length-take, ranges_sized) (omega (arith, slots_few))

    taken_same : SameBelow slots (ranges_in (take slots ranges)) (ledger_ranges ledger)
    taken_same i h = get_or-take slots ranges i (range 0 0) h ∙ same i

    -- what is decided by them
    pub decided : (line : BookingLine) (owners : List ℕ) (held n : ℕ) (keeping : Option ℕ)
        → owners ≡ ledger_owners ledger
        → held ≡ held_count (ranges_in (take slots ranges)) owners line.house (length (take slots ranges))
        → keeping ≡ lowest (keeps_at ledger line) 0 (entry_count d) → n ≡ area line.size
        → (made : Decision) → made ≡ decide d (ranges_in ranges) held n keeping → made ≡ ledger_decision d ledger line
    unfolding ledger_decision
    decided line owners held n keeping b c e g made m =
        let table = ledger_owners ledger in
        let all = held_count (ledger_ranges ledger) table line.house (entry_count d) in
        let kept = lowest (keeps_at ledger line) 0 (entry_count d) in
        let h : held ≡ all =
        c
        ∙ ap₂ (λ (o : List ℕ) (k : ℕ). held_count (ranges_in (take slots ranges)) o line.house k) b (sym slots_taken)
        ∙ held_cong slots (ranges_in (take slots ranges)) (ledger_ranges ledger) table table line.house taken_same
        (λ i l. refl)
        ∙ ap (held_count (ledger_ranges ledger) table line.house) is_slots in
        m
        ∙ decide_cong d (ranges_in ranges) (ledger_ranges ledger) (λ i h. same i) held n keeping
        ∙ ap₂ (λ (x : ℕ) (y : Option ℕ). decide d (ledger_ranges ledger) x n y) h e
        ∙ ap (λ (x : ℕ). decide d (ledger_ranges ledger) all x kept) g
