-- What the gathered ranges of a lent deal say of a slot, and what the answers of the routines that read it say.
use mathlib.Core.Path.{◌≡◌, refl, sym, ap, ◌∙◌}
use mathlib.Core.Bool.{true, false, not}
use mathlib.Core.Logic.{◌≢◌}
use mathlib.Core.List.{List}
use Prim.Native.Nat.{ℕ, ◌+◌, ◌-◌, ◌^◌, ◌≤◌, ◌<◌}
use native.Mathlib.Omega.{arith}
use lib.ListN.{length, take, drop}
use Rattle.std.specs.Prelude.{Option, Some, None, is_some}
use borrow.Author.Tests.{eq-eqb, ne_eqb, not-false}
use Rattle.octets.specs.SpliceLaws.{part_range}
use Rattle.sizes.specs.Sizes.{entry_count, slot_place}
use Rattle.sizes.specs.SizesLaws.{LentSize, lent_size}
use Rattle.entries.specs.Entry.{kind_of}
use Rattle.entries.specs.declared.EntryKind.{EntryKind}
use Rattle.entries.specs.declared.Fields.{Fields}
use Rattle.lent.specs.LentDeal.{lent_deal, deal_refusal}
use Rattle.lent.specs.LentDealLaws.{refusal_none}
use Rattle.lent.specs.declared.Lent.{Lent}
use Rattle.index.specs.Slots.{entry_at, slot_at, row_as, kept_row, kept_at, row_at, row_area}
use Rattle.index.specs.SlotsLaws.{answer_kept, answer_not_kept}
use Rattle.index.specs.KeptRowsLaws.{slot_within}
use Rattle.room.specs.Room.{Range, Bounded, is_missing, ranges_in, lowest_overlap, fits}
use Rattle.room.specs.RoomLaws.{slots_high, fits_cong, first_end, first_overlap}
use Rattle.ranges.specs.Ranges.{ranges_of}
use Rattle.ranges.specs.RangesLaws.{gathered_bounded, range_empty, empty_free}
use Rattle.packing.specs.Order.{overlaps_lower}
use Rattle.audit.specs.Audit.{is_kind_at, stands_at, audit_code}
use Rattle.audit.specs.AuditLaws.{audits, audit_refused}
use Rattle.rules.specs.Answers.{number}
use Rattle.rules.specs.declared.Refusal.{Refusal}
use Rattle.audit.specs.Gathered.{Gathered}
use Rattle.audit.specs.SlotStateLaws.{is_kind_lem}

-- the bytes of slot i as they are lent, and their kind
pub kind_at : (deal : List ℕ) (i place : ℕ) (read kind : EntryKind) → place ≡ slot_place (length deal) i
    → read ≡ kind_of (take (place + 64 - place) (drop place deal)) → read ≡ kind → is_kind_at kind deal i ≡ true
kind_at deal i place read kind p r k =
    let slot = part_range deal place 64 ∙ ap (entry_at deal) p in
    is_kind_lem (slot_at deal i) kind (sym (ap kind_of slot) ∙ sym r ∙ k)

module _ {deal : Lent} {ranges : List Range} (g : Gathered deal ranges) where
  abbrev bytes : List ℕ
  bytes = deal.bytes.now

  lent : LentSize (length bytes)
  lent = lent_size (length bytes) deal.usable.size_allowed

  module _ (i : ℕ) (h : i < entry_count (length deal.bytes.now)) where
    pub few : i < 128
    few = omega (arith, slots_high (length bytes) deal.usable.size_allowed)

    pub slot_in : slot_place (length deal.bytes.now) i + 64 ≤ length deal.bytes.now
    slot_in = slot_within (length bytes) i lent.deal h

    -- its range, and those of the lower slots
    pub ends : Bounded (i + 1) ranges
    ends j l = gathered_bounded bytes ranges deal.usable.size_allowed g.same j (omega arith)

    module _ (full : length ranges ≡ 128) where
      within : i ≤ length ranges
      within = omega (arith, few)

      pub lower_bounded : Bounded (length (take i ranges)) (take i ranges)
      lower_bounded = first_end i ranges within (2 ^ 36) (λ j l. ends j (omega arith))

      pub overlaps_same :
          not (is_missing
          (lowest_overlap (ranges_in (take i ranges)) (length (take i ranges)) (ranges_in ranges i).offset
          (ranges_in ranges i).area))
          ≡ overlaps_lower (ranges_of deal.bytes.now) i
      overlaps_same =
          let same = fits_cong i (ranges_in ranges) (ranges_of bytes) (λ j l. g.same j (omega arith)) in
          let r = ranges_in ranges i in
          ap (λ (o : Option ℕ). not (is_missing o)) (first_overlap i ranges within r.offset r.area)
          ∙ ap not (same r.area r.offset ∙ ap (λ (r : Range). fits (ranges_of bytes) i r.area r.offset) (g.same i h))

    -- its entry stands exactly if it has bytes
    area_same : (ranges_in ranges i).area ≡ row_area (row_at bytes i)
    area_same = ap (λ (r : Range). r.area) (g.same i h)

    pub none_stands : (ranges_in ranges i).area ≡ 0 → stands_at deal.bytes.now i ≡ false
    none_stands e =
        empty_free (length bytes) (slot_at bytes i) lent.deal
        (eq-eqb (row_area (row_at bytes i)) 0 (sym area_same ∙ e))

    pub one_stands : (ranges_in ranges i).area ≢ 0 → stands_at deal.bytes.now i ≡ true
    one_stands ne =
        not-false (stands_at bytes i)
        (sym (range_empty (length bytes) (slot_at bytes i) lent.deal)
        ∙ ne_eqb (row_area (row_at bytes i)) 0 (λ e. ne (area_same ∙ e)))

-- whether a lower slot was found whose bytes overlap
pub found_some : (found : Option ℕ) → is_some found ≡ not (is_missing found)
found_some None = refl
found_some (Some k) = refl

-- whether the entry that was read at a slot's place is kept
module _ (deal : List ℕ) (i place : ℕ) (read : Option Fields) (p : place ≡ slot_place (length deal) i)
    (e : row_as read ≡ kept_row (lent_deal deal).nodes (length deal) (entry_at deal place)) where
  abbrev row : row_as read ≡ kept_row (lent_deal deal).nodes (length deal) (slot_at deal i)
  row = e ∙ ap (λ (at : ℕ). kept_row (lent_deal deal).nodes (length deal) (entry_at deal at)) p

  pub read_kept : (fields : Fields) → read ≡ Some fields → kept_at (lent_deal deal) i ≡ true
  read_kept fields s =
      (answer_kept (lent_deal deal).nodes (length deal) (slot_at deal i) (row_as read) row
      (ap (λ (o : Option Fields). (row_as o).stands) s)).is_kept_lem

  pub read_not_kept : read ≡ None → kept_at (lent_deal deal) i ≡ false
  read_not_kept s =
      answer_not_kept (lent_deal deal).nodes (length deal) (slot_at deal i) (row_as read) row
      (ap (λ (o : Option Fields). (row_as o).stands) s)

-- the code of an audit, by the deal's refusal
pub some_number : (r : Refusal) → number r ≢ 0
some_number r = grind arith

module _ (deal states : List ℕ) where
  pub deal_refuses : (r : Refusal) → number r ≡ deal_refusal (lent_deal deal) → number r ≡ audit_code deal states
  deal_refuses r e = e ∙ sym (audit_refused deal states (λ z. some_number r (e ∙ z)))

  pub none_refuses : deal_refusal (lent_deal deal) ≡ 0 → entry_count (length deal) ≤ length states
      → audit_code deal states ≡ 0
  none_refuses e room =
      let p = refusal_none (lent_deal deal) e in
      (audits deal states).1 (record { lent = p.0; clear = p.1; room = room })
