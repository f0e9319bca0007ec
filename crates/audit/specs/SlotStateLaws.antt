-- The state of a slot: some number applies, the lowest that does is written, and what each says.
use Rattle.std.specs.Prelude.{◌≡◌, refl, Bool, true, false, ◌&&◌, not, ◌↔◌, ℕ, zero, suc, ◌≤◌, ◌<◌}
use Rattle.std.specs.Prelude.{List, [], ◌∷◌, length, get_or, eqb}
use Rattle.std.proofs.Common.{sym, ap, subst, arith}
use Rattle.std.proofs.lemmas.Bool.{false≢true}
use borrow.Author.Tests.{eq-eqb, not-true}
use Rattle.rules.specs.RefusalLaws.{and_left, and_right}
use Rattle.rules.specs.SearchLaws.{IsLowest}
use Rattle.sizes.specs.Sizes.{segment_size_allowed, offset_allowed}
use Rattle.entries.specs.Entry.{kind_of, kind_number, is_kind, offset_in, size_in}
use Rattle.entries.specs.declared.EntryKind.{EntryKind}
use Rattle.entries.specs.declared.EntryKind.TheVariants.{Blank, Damaged, Valid}
use Rattle.lent.specs.LentDeal.{lent_deal}
use Rattle.index.specs.Slots.{standing, slot_at, kept_at}
use Rattle.index.specs.KeptLaws.{kept_stands}
use Rattle.room.specs.Room.{Range, overlaps, fits}
use Rattle.room.specs.RoomLaws.{fits_false}
use Rattle.room.specs.OverlapLaws.{overlap_true}
use Rattle.ranges.specs.Ranges.{ranges_of}
use Rattle.ranges.specs.RangesLaws.{range_free}
use Rattle.packing.specs.Order.{overlaps_lower}
use Rattle.audit.specs.Audit.{is_kind_at, stands_at, applying, lowest_applying, slot_state}

-- the lowest test of a list that is passed: it is, and those before it are not
lowest_passes : (tests : List Bool) → lowest_applying tests < length tests
    → get_or tests (lowest_applying tests) false ≡ true
lowest_passes [] h = absurd (omega arith)
lowest_passes (true ∷ later) h = refl
lowest_passes (false ∷ later) h = lowest_passes later (omega arith)

lowest_first : (tests : List Bool) (j : ℕ) → j < lowest_applying tests → get_or tests j false ≡ false
lowest_first [] j h = absurd (omega arith)
lowest_first (true ∷ later) j h = absurd (omega arith)
lowest_first (false ∷ later) zero h = refl
lowest_first (false ∷ later) (suc j) h = lowest_first later j (omega arith)

-- and no test that is passed comes before it
lowest_le : (tests : List Bool) (k : ℕ) → get_or tests k false ≡ true → lowest_applying tests ≤ k
lowest_le [] k e = absurd (false≢true e)
lowest_le (true ∷ later) k e = omega arith
lowest_le (false ∷ later) zero e = absurd (false≢true e)
lowest_le (false ∷ later) (suc k) e = omega (arith, lowest_le later k e)

-- a test that is not passed together with one that is
second_fails : (a b : Bool) → (a && b) ≡ false → a ≡ true → b ≡ false
second_fails true b e f = e
second_fails false b e f = absurd (false≢true f)

-- an entry is of the kind that it is read as; a valid one is of no other kind, and a standing one is valid
pub is_kind_lem : (entry : List ℕ) (kind : EntryKind) → kind_of entry ≡ kind → is_kind kind entry ≡ true
unfolding is_kind
is_kind_lem entry kind e = eq-eqb (kind_number (kind_of entry)) (kind_number kind) (ap kind_number e)

valid_only : (entry : List ℕ) → is_kind Valid entry ≡ true
    → (is_kind Blank entry ≡ false) × (is_kind Damaged entry ≡ false)
unfolding is_kind
valid_only entry = by (kind_of entry)
  where
    by : (kind : EntryKind) → eqb (kind_number kind) 2 ≡ true
        → (eqb (kind_number kind) 0 ≡ false) × (eqb (kind_number kind) 1 ≡ false)
    by Blank e = (sym e, refl)
    by Damaged e = (refl, sym e)
    by Valid e = (refl, refl)

damaged_only : (entry : List ℕ) → is_kind Damaged entry ≡ true → is_kind Blank entry ≡ false
unfolding is_kind
damaged_only entry = by (kind_of entry)
  where
    by : (kind : EntryKind) → eqb (kind_number kind) 1 ≡ true → eqb (kind_number kind) 0 ≡ false
    by Blank e = sym e
    by Damaged e = refl
    by Valid e = refl

pub standing_valid : (d : ℕ) (entry : List ℕ) → standing d entry ≡ true → is_kind Valid entry ≡ true
unfolding standing
standing_valid d entry e =
    let size = segment_size_allowed d (size_in entry) in
    let offset = offset_allowed d (offset_in entry) (size_in entry) in
    and_left (is_kind Valid entry) (size && offset) e

module _ (deal : List ℕ) (i : ℕ) where
  -- whether state k applies
  abbrev pub applies : ℕ → Bool
  applies k = get_or (applying deal i) k false

  bounded_by : (k : ℕ) → applies k ≡ true → slot_state deal i ≤ k
  unfolding slot_state
  bounded_by k e = lowest_le (applying deal i) k e

  -- some state applies: an entry is of one kind, a valid one stands or not, and a standing one is kept or not
  pub some_state : slot_state deal i ≤ 5
  some_state = by_kind (kind_of (slot_at deal i)) refl
    where
      by_tests : (s k : Bool) → is_kind_at Valid deal i ≡ true → stands_at deal i ≡ s → kept_at (lent_deal deal) i ≡ k
          → slot_state deal i ≤ 5
      by_tests false k v e f = omega (arith, bounded_by 2 (rw (v, e)))
      by_tests true false v e f = omega (arith, bounded_by 4 (rw (e, f)))
      by_tests true true v e f = bounded_by 5 f

      by_kind : (kind : EntryKind) → kind_of (slot_at deal i) ≡ kind → slot_state deal i ≤ 5
      by_kind Blank e = omega (arith, bounded_by 0 (is_kind_lem (slot_at deal i) Blank e))
      by_kind Damaged e = omega (arith, bounded_by 1 (is_kind_lem (slot_at deal i) Damaged e))
      by_kind Valid e =
          by_tests (stands_at deal i) (kept_at (lent_deal deal) i) (is_kind_lem (slot_at deal i) Valid e) refl refl

  -- the state is the lowest that applies
  pub state_lowest : IsLowest applies 0 6 (slot_state deal i)
  unfolding slot_state
  state_lowest =
      let high = some_state in
      record {
        from = omega arith;
        below = omega arith;
        passes = lowest_passes (applying deal i) (omega arith);
        first = λ j a b. lowest_first (applying deal i) j b;
      }

  -- it is state k: k applies, and nothing lower does
  this_applies : (k : ℕ) → slot_state deal i ≡ k → applies k ≡ true
  this_applies k e = subst (λ (n : ℕ). applies n ≡ true) e state_lowest.passes

  lower_fails : (k j : ℕ) → slot_state deal i ≡ k → j < k → applies j ≡ false
  lower_fails k j e h = state_lowest.first j (omega arith) (omega arith)

  abbrev stands : Bool
  stands = stands_at deal i

  abbrev over : Bool
  over = overlaps_lower (ranges_of deal) i

  abbrev keeps : Bool
  keeps = kept_at (lent_deal deal) i

  -- an entry that stands is neither blank nor damaged, and a kept one stands
  stands_only : stands ≡ true
      → (is_kind_at Blank deal i ≡ false) × (is_kind_at Damaged deal i ≡ false) × (is_kind_at Valid deal i ≡ true)
  stands_only s =
      let v = standing_valid (length deal) (slot_at deal i) s in
      let o = valid_only (slot_at deal i) v in
      (o.0, o.1, v)

  keeps_stands : keeps ≡ true → stands ≡ true
  keeps_stands k = kept_stands (lent_deal deal).nodes (length deal) (slot_at deal i) k

  -- what each state says
  pub state_0 : (slot_state deal i ≡ 0) ↔ (is_kind_at Blank deal i ≡ true)
  unfolding slot_state
  state_0 = (λ e. this_applies 0 e, λ b. rw b)

  pub state_1 : (slot_state deal i ≡ 1) ↔ (is_kind_at Damaged deal i ≡ true)
  unfolding slot_state
  state_1 = (λ e. this_applies 1 e, λ d. rw (damaged_only (slot_at deal i) d, d))

  pub state_2 : (slot_state deal i ≡ 2) ↔ ((is_kind_at Valid deal i ≡ true) × (stands_at deal i ≡ false))
  unfolding slot_state
  state_2 = (
    λ e.
        let v = is_kind_at Valid deal i in
        let a = this_applies 2 e in
        (and_left v (not stands) a, not-true stands (and_right v (not stands) a)),
    λ p. let o = valid_only (slot_at deal i) p.0 in rw (o.0, o.1, p.0, p.1),
  )

  pub state_3 : (slot_state deal i ≡ 3)
      ↔ ((stands_at deal i ≡ true) × (overlaps_lower (ranges_of deal) i ≡ true))
  unfolding slot_state
  state_3 = (
    λ e. let a = this_applies 3 e in (and_left stands over a, and_right stands over a),
    λ p. let o = stands_only p.0 in rw (o.0, o.1, o.2, p.0, p.1),
  )

  pub state_4 : (slot_state deal i ≡ 4)
      ↔ ((stands_at deal i ≡ true) × (overlaps_lower (ranges_of deal) i ≡ false) × (kept_at (lent_deal deal) i ≡ false))
  unfolding slot_state
  state_4 = (
    λ e.
        let a = this_applies 4 e in
        let s = and_left stands (not keeps) a in
        let alone = second_fails stands over (lower_fails 4 3 e (omega arith)) s in
        (s, alone, not-true keeps (and_right stands (not keeps) a)),
    λ p. let o = stands_only p.0 in rw (o.0, o.1, o.2, p.0, p.1, p.2),
  )

  pub state_5 : (slot_state deal i ≡ 5)
      ↔ ((kept_at (lent_deal deal) i ≡ true) × (overlaps_lower (ranges_of deal) i ≡ false))
  unfolding slot_state
  state_5 = (
    λ e.
        let k = this_applies 5 e in
        (k, second_fails stands over (lower_fails 5 3 e (omega arith)) (keeps_stands k)),
    λ p.
        let s = keeps_stands p.0 in
        let o = stands_only s in
        rw (o.0, o.1, o.2, s, p.1, p.0),
  )

  -- an entry in a lower slot that stands, and whose area has a byte in common with that of slot i
  pub record OverlapsStanding : Type 0 where
    pub lower : ℕ
    pub below : lower < i
    pub lower_stands : stands_at deal lower ≡ true
    pub common : overlaps (ranges_of deal i).offset (ranges_of deal i).area (ranges_of deal lower) ≡ true

  -- a slot without a standing entry has no bytes that could be overlapped
  common_stands : (j : ℕ) → overlaps (ranges_of deal i).offset (ranges_of deal i).area (ranges_of deal j) ≡ true
      → stands_at deal j ≡ true
  common_stands j c = by_test (stands_at deal j) refl
    where
      by_test : (b : Bool) → stands_at deal j ≡ b → b ≡ true
      by_test true e = refl
      by_test false e =
          let o = (ranges_of deal i).offset in
          let n = (ranges_of deal i).area in
          let none = subst (λ (r : Range). overlaps o n r ≡ true) (range_free (length deal) (slot_at deal j) e) c in
          absurd (omega (arith, ((overlap_true o n 0 0).0 none).0))

  pub overlaps_standing : (overlaps_lower (ranges_of deal) i ≡ true) ↔ OverlapsStanding
  overlaps_standing =
      let n = (ranges_of deal i).area in
      let o = (ranges_of deal i).offset in
      let some = fits_false (ranges_of deal) i n o in (
        λ e.
            let f = some.0 (not-true (fits (ranges_of deal) i n o) e) in
            record { lower = f.0; below = f.1; lower_stands = common_stands f.0 f.2; common = f.2 },
        λ s. ap not (some.1 (s.lower, s.below, s.common)),
      )
