-- An audit shows only 0 and 5 exactly where the deal is sound.
use Rattle.std.specs.Prelude.{◌≡◌, refl, Bool, true, false, not, ◌↔◌, ℕ, ◌≤◌, ◌<◌, List, length, replicate, eqb}
use Rattle.std.proofs.Common.{sym, ap, ◌∙◌, true≢false, inl, inr, ⊎_elim, arith}
use Rattle.rules.specs.Choice.{choose}
use Rattle.std.proofs.Common.{Option}
use Rattle.std.proofs.Common.{Some, None}
use Rattle.rules.specs.RefusalLaws.{not_passed}
use Rattle.rules.specs.Search.{lowest}
use Rattle.rules.specs.SearchLaws.{lowest_missing, lowest_none}
use Rattle.octets.specs.Equality.{all_zero}
use Rattle.octets.specs.EqualityLaws.{zero_true}
use Rattle.octets.specs.SpliceLaws.{part_length}
use Rattle.sizes.specs.Sizes.{entry_count, slot_place}
use Rattle.sizes.specs.SizesLaws.{lent_size}
use Rattle.entries.specs.Entry.{checksum_right, kind_of, kind_number, is_kind}
use Rattle.entries.specs.declared.EntryKind.{EntryKind}
use Rattle.index.specs.Slots.{slot_at, standing}
use Rattle.index.specs.SlotsLaws.{zero_free}
use Rattle.index.specs.KeptRowsLaws.{slot_within}
use Rattle.room.specs.Room.{Range, is_missing, fits}
use Rattle.room.specs.RoomLaws.{fits_true}
use Rattle.room.specs.OverlapLaws.{overlap_false}
use Rattle.ranges.specs.Ranges.{ranges_of}
use Rattle.ranges.specs.RangesLaws.{range_free}
use Rattle.packing.specs.Order.{overlaps_lower, none_overlaps}
use Rattle.audit.specs.Audit.{slot_state, audit_code}
use Rattle.audit.specs.SlotStateLaws.{state_0, state_5}
use Rattle.audit.specs.SlotStateLaws.{OverlapsStanding, overlaps_standing}
use Rattle.audit.specs.AuditLaws.{audits, audited_at}
use Rattle.demands.specs.Sound.{IsBlank, IsKept, Sound}
use Rattle.demands.specs.Shown.{shown_for, ShowsOnly0And5}

-- no two ranges overlap exactly if none overlaps one of a lower slot
none_lower : (ranges : ℕ → Range) (slots : ℕ)
    → (none_overlaps ranges slots ≡ true) ↔ ((i : ℕ) → i < slots → overlaps_lower ranges i ≡ false)
unfolding none_overlaps
none_lower ranges slots = (
  λ e i h. found (lowest (overlaps_lower ranges) 0 slots) refl e i h,
  λ none. ap is_missing (lowest_none (overlaps_lower ranges) 0 slots (λ i a b. none i (omega arith))),
)
  where
    found : (f : Option ℕ) → lowest (overlaps_lower ranges) 0 slots ≡ f → is_missing f ≡ true
        → (i : ℕ) → i < slots → overlaps_lower ranges i ≡ false
    found (Some j) e t i h = absurd (true≢false (sym t))
    found None e t i h = lowest_missing (overlaps_lower ranges) 0 slots e i (omega arith) (omega arith)

-- an entry of the kind blank is 64 zero bytes
blank_zeros : (entry : List ℕ) → length entry ≡ 64
    → (is_kind EntryKind.Blank entry ≡ true) ↔ (entry ≡ replicate 64 0)
unfolding is_kind kind_of all_zero
blank_zeros entry l = (
  λ e. zero_true entry (by_tests (all_zero entry) (checksum_right entry) e) ∙ ap (λ (n : ℕ). replicate n 0) l,
  λ e. ap (is_kind EntryKind.Blank) e,
)
  where
    by_tests : (zeros right : Bool)
        → let kind = choose zeros EntryKind.Blank (choose right EntryKind.Valid EntryKind.Damaged) in
        eqb (kind_number kind) 0 ≡ true → zeros ≡ true
    by_tests true right e = refl
    by_tests false true e = e
    by_tests false false e = e

-- no standing entry in a lower slot is overlapped
pub none_standing : (deal : List ℕ) (i : ℕ)
    → (overlaps_lower (ranges_of deal) i ≡ false) ↔ (OverlapsStanding deal i → ⊥)
none_standing deal i =
    let some = overlaps_standing deal i in (
      λ e s. true≢false (sym (some.1 s) ∙ e),
      λ none. not_passed (overlaps_lower (ranges_of deal) i) (λ t. none (some.0 t)),
    )

-- a blank slot takes up nothing, and so overlaps none
blank_apart : (deal : List ℕ) (i : ℕ) → IsBlank deal i → overlaps_lower (ranges_of deal) i ≡ false
blank_apart deal i b =
    let free = range_free (length deal) (slot_at deal i) (ap (standing (length deal)) b ∙ zero_free (length deal)) in
    ap (λ (r : Range). not (fits (ranges_of deal) i r.area r.offset)) free
    ∙ ap not ((fits_true (ranges_of deal) i 0 0).1 (λ j h. (overlap_false 0 0 _ _).1 (inr (omega arith))))

-- an audit answered 0: what the byte for slot i says
module _ (deal states : List ℕ) (e : audit_code deal states ≡ 0) (i : ℕ) (h : i < entry_count (length deal)) where
  slot_64 : length (slot_at deal i) ≡ 64
  slot_64 =
      let t = (lent_size (length deal) ((audits deal states).0 e).lent).deal in
      part_length deal (slot_place (length deal) i) 64 (slot_within (length deal) i t h)

  pub shown_is : shown_for deal states i ≡ slot_state deal i
  shown_is = audited_at deal states e i h

  -- what is known of the slot's state is known of it
  pub shown_as : {A : Type 0} (k : ℕ) → (slot_state deal i ≡ k) ↔ A → (shown_for deal states i ≡ k) ↔ A
  shown_as k state = (λ s. state.0 (sym shown_is ∙ s), λ a. shown_is ∙ state.1 a)

  pub shown_0 : (shown_for deal states i ≡ 0) ↔ IsBlank deal i
  shown_0 =
      let zeros = blank_zeros (slot_at deal i) slot_64 in
      let state = state_0 deal i in
      shown_as 0 (λ s. zeros.0 (state.0 s), λ b. state.1 (zeros.1 b))

  pub shown_5 : (shown_for deal states i ≡ 5) ↔ (IsKept deal i × (OverlapsStanding deal i → ⊥))
  shown_5 =
      let state = state_5 deal i in
      let none = none_standing deal i in
      shown_as 5 (λ s. let p = state.0 s in (p.0, none.0 p.1), λ p. state.1 (p.0, none.1 p.1))

-- so a deal that shows only 0 and 5 is sound ..
pub shows_sound : (deal states : List ℕ) → ShowsOnly0And5 deal states → Sound deal
shows_sound deal states s =
    let e = s.answers_0 in
    let a = (audits deal states).0 e in
    record {
      size_allowed = a.lent;
      clear = a.clear;
      blank_or_kept = λ i h.
          ⊎_elim (λ z. inl ((shown_0 deal states e i h).0 z)) (λ f. inr ((shown_5 deal states e i h).0 f).0)
          (s.each_0_or_5 i h);
      apart =
          (none_lower (ranges_of deal) (entry_count (length deal))).1
          (λ i h.
          ⊎_elim (λ z. blank_apart deal i ((shown_0 deal states e i h).0 z))
          (λ f. (none_standing deal i).1 ((shown_5 deal states e i h).0 f).1)
          (s.each_0_or_5 i h));
    }

-- .. and a sound deal shows only these
pub sound_shows : (deal states : List ℕ) → entry_count (length deal) ≤ length states → Sound deal
    → ShowsOnly0And5 deal states
sound_shows deal states r s =
    let e : audit_code deal states ≡ 0 =
    (audits deal states).1 (record { lent = s.size_allowed; clear = s.clear; room = r }) in
    record {
      answers_0 = e;
      each_0_or_5 = λ i h.
          ⊎_elim (λ b. inl ((shown_0 deal states e i h).1 b))
          (λ k.
          let none = (none_lower (ranges_of deal) (entry_count (length deal))).0 s.apart i h in
          inr ((shown_5 deal states e i h).1 (k, (none_standing deal i).0 none)))
          (s.blank_or_kept i h);
    }
