-- What the collected deal answers: a standing entry is at the place where it went, and what was kept and found is kept
-- and found.
use Rattle.std.specs.Prelude.{◌≡◌, refl, true, ◌↔◌, ℕ, ◌<◌, List, length}
use Rattle.std.proofs.Common.{sym, ◌∙◌, subst, arith}
use Rattle.std.proofs.Math.Path.{ap}
use Rattle.stray.specs.StrayBits.{no_stray_bits}
use Rattle.merkle.specs.Tree.{node_at}
use Rattle.sizes.specs.Sizes.{lent_size_allowed, place_allowed, entry_count, slot_place}
use Rattle.sizes.specs.SizesLaws.{DealSize, SegmentPlace, segment_size, segment_place, slot_allowed}
use Rattle.entries.specs.Entry.{entry_of, commitment_in, size_in}
use Rattle.lent.specs.LentDeal.{lent_deal, deal_refusal}
use Rattle.lent.specs.LentDealLaws.{refusal_none, none_refusal}
use Rattle.index.specs.Slots.{entry_at, slot_at, standing, kept, holds, Row}
use Rattle.index.specs.SlotsLaws.{answer_stands}
use Rattle.index.specs.KeptLaws.{row_stands, kept_stands}
use Rattle.index.specs.Written.{slot_of}
use Rattle.index.specs.SlotWrittenLaws.{place_slot}
use Rattle.index.specs.Find.{keeps_commitment, find_numbers}
use Rattle.index.specs.FindLaws.{Searched, find_zero, find_some}
use Rattle.room.specs.declared.Booked.{Booked}
use Rattle.houses.specs.Houses.{house_allowed, table_sized}
use Rattle.booking.specs.Booking.{keeps_own, book_answer}
use Rattle.booking.specs.BookableLaws.{BookableFor}
use Rattle.booking.specs.KeepLaws.{keeps_bookable}
use Rattle.booking.specs.OwnLaws.{own_keeps, own_stands}
use Rattle.booking.proofs.AlreadyLaws.{answer_kept}
use Rattle.booking.proofs.NeverAgain.{kept_is_15}
use Rattle.collect.specs.Collect.{slot_to, offset_to, place_to, collected_deal, collected_table}
use Rattle.collect.proofs.MovesLaws.{sized, slot_in}
use Rattle.collect.specs.Collectable.{Collectable, From}
use Rattle.collect.proofs.CollectLaws.{collected_length, collected_slot}
use Rattle.collect.proofs.CollectRows.{collected_row, collected_kept}
use Rattle.collect.proofs.CollectPacked.{standing_from_lem}
use Rattle.collect.proofs.CollectClear.{collected_clear}
use Rattle.collect.proofs.OwnersLaws.{owners_sized}
use Rattle.demands.proofs.CollectKeepLaws.{collected_own, collected_names}

-- booking answers 15 to a house where some slot of a deal is the house's and keeps the segment
keeps_15 : (deal table : List ℕ) (house : ℕ) (segment : List ℕ) (i : ℕ) → deal_refusal (lent_deal deal) ≡ 0
    → house_allowed house ≡ true → table_sized (length deal) table ≡ true → i < entry_count (length deal)
    → keeps_own (lent_deal deal) table house segment i ≡ true
    → (book_answer (lent_deal deal) table house segment).code ≡ 15
keeps_15 deal table house segment i z a t h k =
    let b : BookableFor (lent_deal deal) table house segment =
    record {
      house_allowed_lem = a;
      table_sized_lem = t;
      bookable =
          keeps_bookable (lent_deal deal) segment i z (own_keeps (lent_deal deal) table house segment i k);
    } in
    ap (λ (x : Booked). x.code) (kept_is_15 deal table house segment i b h k).2

-- and finding looks at the slots
searched_in : (deal commitment : List ℕ) → deal_refusal (lent_deal deal) ≡ 0 → length commitment ≡ 32
    → Searched (lent_deal deal) commitment
searched_in deal commitment z l =
    let rules = refusal_none (lent_deal deal) z in
    record { commitment_length = l; size_allowed = rules.0; clear = rules.1; tree_sized_lem = rules.2 }

module _ {deal : List ℕ} (c : Collectable deal) where
  abbrev new : List ℕ
  new = collected_deal deal

  -- a slot of the index goes on being one
  in_new : (x : ℕ) → x < entry_count (length deal) → x < entry_count (length new)
  in_new x h = omega (arith, ap entry_count (collected_length c))

  -- and a standing entry of the new deal comes from an old slot
  pub new_from : (x : ℕ) → x < entry_count (length (collected_deal deal))
      → standing (length (collected_deal deal)) (slot_at (collected_deal deal) x) ≡ true → From deal x
  new_from x h = standing_from_lem c x (omega (arith, ap entry_count (collected_length c)))

  -- where the area of a standing entry goes
  pub collected_place : (j : ℕ) → j < entry_count (length deal) → standing (length deal) (slot_at deal j) ≡ true
      → SegmentPlace (length deal) (offset_to deal j) (size_in (slot_at deal j))
  collected_place j h s =
      let entry = slot_at deal j in
      let row = collected_row c j h s ∙ ap (λ (r : Row). holds r.commitment (offset_to deal j) r.size)
      (row_stands (length deal) entry s) in
      let a = answer_stands (length new) (slot_at new (slot_to deal j))
      (holds (commitment_in entry) (offset_to deal j) (size_in entry)) (sym row) refl in
      let t = subst DealSize (sym (collected_length c)) (sized c) in
      subst (λ (d : ℕ). SegmentPlace d (offset_to deal j) (size_in entry)) (collected_length c)
      (segment_place (length new) (offset_to deal j) (size_in entry) t
      (segment_size (length new) (size_in entry) t a.size_allowed) a.offset_allowed_lem)

  -- the entry at the place where it went
  module _ (place : ℕ) (a : place_allowed (length deal) place ≡ true) where
    abbrev slot : ℕ
    slot = slot_of (length deal) place

    at : (slot < entry_count (length deal)) × (place ≡ slot_place (length deal) slot)
    at = place_slot (length deal) place (sized c) a

    there : entry_at new (place_to deal place) ≡ slot_at new (slot_to deal slot)
    unfolding place_to
    there = ap (λ (d : ℕ). entry_at new (slot_place d (slot_to deal slot))) (sym (collected_length c))

    here : standing (length deal) (entry_at deal place) ≡ true → standing (length deal) (slot_at deal slot) ≡ true
    here s = ap (λ (p : ℕ). standing (length deal) (entry_at deal p)) (sym at.1) ∙ s

    module _ (s : standing (length deal) (entry_at deal place) ≡ true) where
      pub collected_place_allowed : place_allowed (length (collected_deal deal)) (place_to deal place) ≡ true
      unfolding place_to
      collected_place_allowed =
          ap (λ (d : ℕ). place_allowed d (place_to deal place)) (collected_length c)
          ∙ slot_allowed (length deal) (slot_to deal slot) (sized c) (slot_in c slot at.0 (here s))

      pub collected_entry : entry_at (collected_deal deal) (place_to deal place)
          ≡ entry_of (commitment_in (entry_at deal place)) (offset_to deal (slot_of (length deal) place))
          (size_in (entry_at deal place))
      collected_entry =
          there
          ∙ collected_slot c slot at.0 (here s)
          ∙ ap (λ (p : ℕ). entry_of (commitment_in (entry_at deal p)) (offset_to deal slot) (size_in (entry_at deal p)))
          (sym at.1)

      pub collected_entry_kept :
          kept (node_at (collected_deal deal)) (length (collected_deal deal))
          (entry_at (collected_deal deal) (place_to deal place))
          ≡ kept (node_at deal) (length deal) (entry_at deal place)
      collected_entry_kept =
          ap (kept (node_at new) (length new)) there
          ∙ collected_kept c slot at.0 (here s)
          ∙ ap (λ (p : ℕ). kept (node_at deal) (length deal) (entry_at deal p)) (sym at.1)

  -- a deal without stray bits: what it keeps is what the new one keeps
  module _ (clear : no_stray_bits deal ≡ true) where
    pub collected_passes : deal_refusal (lent_deal (collected_deal deal)) ≡ 0
    collected_passes =
        none_refusal (lent_deal new) (ap lent_size_allowed (collected_length c) ∙ c.lent) (collected_clear c clear) refl

    passes : deal_refusal (lent_deal deal) ≡ 0
    passes = none_refusal (lent_deal deal) c.lent clear refl

    pub collected_15 : (table : List ℕ) → table_sized (length deal) table ≡ true → (house : ℕ) (segment : List ℕ)
        → ((book_answer (lent_deal deal) table house segment).code ≡ 15)
        ↔ ((book_answer (lent_deal (collected_deal deal)) (collected_table deal table) house segment).code ≡ 15)
    collected_15 table t house segment =
        let owners = collected_table deal table in (
          λ z.
              let k = answer_kept (lent_deal deal) table house segment z in
              let j = k.0 in
              let kept_there = k.1.lowest_keeping_lem.passes in
              let h : j < entry_count (length deal) = omega (arith, k.1.lowest_keeping_lem.below) in
              let s = own_stands (lent_deal deal) table house segment j kept_there in
              keeps_15 new owners house segment (slot_to deal j) collected_passes k.1.bookable.house_allowed_lem
              (owners_sized c table) (in_new (slot_to deal j) (slot_in c j h s))
              (collected_own c j h s table house segment ∙ kept_there),
          λ z.
              let k = answer_kept (lent_deal new) owners house segment z in
              let kept_there = k.1.lowest_keeping_lem.passes in
              let f = new_from k.0 (omega (arith, k.1.lowest_keeping_lem.below))
              (own_stands (lent_deal new) owners house segment k.0 kept_there) in
              keeps_15 deal table house segment f.old passes k.1.bookable.house_allowed_lem t f.old_in
              (sym (collected_own c f.old f.old_in f.stood table house segment)
              ∙ ap (keeps_own (lent_deal new) owners house segment) f.moves
              ∙ kept_there),
        )

    pub collected_found : (commitment : List ℕ)
        → ((find_numbers (lent_deal deal) commitment).code ≡ 0)
        ↔ ((find_numbers (lent_deal (collected_deal deal)) commitment).code ≡ 0)
    collected_found commitment = (
      λ z.
          let p = find_zero (lent_deal deal) commitment z in
          let j = p.0 in
          let h : j < entry_count (length deal) = omega (arith, p.1.is_lowest.below) in
          let s = kept_stands (node_at deal) (length deal) (slot_at deal j) p.1.keeps_it.is_kept_lem in
          find_some (lent_deal new) commitment
          (searched_in new commitment collected_passes p.1.searched.commitment_length)
          (slot_to deal j) (in_new (slot_to deal j) (slot_in c j h s))
          (collected_names c j h s commitment ∙ p.1.is_lowest.passes),
      λ z.
          let p = find_zero (lent_deal new) commitment z in
          let f = new_from p.0 (omega (arith, p.1.is_lowest.below))
          (kept_stands (node_at new) (length new) (slot_at new p.0) p.1.keeps_it.is_kept_lem) in
          find_some (lent_deal deal) commitment
          (searched_in deal commitment passes p.1.searched.commitment_length)
          f.old f.old_in
          (sym (collected_names c f.old f.old_in f.stood commitment)
          ∙ ap (keeps_commitment (lent_deal new) commitment) f.moves
          ∙ p.1.is_lowest.passes),
    )
