-- Requests (viii) and (x), collection (document 02: "Collection writes a new deal into a second lent buffer of equal
-- length (else 12): standing segments, all A bytes of each, by falling A, equal ones by old offset, packed from 0,
-- entries (new offset and checksum) from the first slot in that order, all else zero. It is refused with 20 if two
-- standing entries overlap"; "collection writes each moved entry's byte, as it was, for its new slot, zeros after them,
-- into a second table"). Any code but 0 changes nothing (TreeForms.refused_collecting).
-- "Old records belong to the old commitment; demand 3 speaks of the commitment a record is checked against": the new
-- deal has a commitment of its own. A record of the old deal goes on settling against the old one (Demand3), and each
-- kept entry has a record of the new deal, with whatever number that one has (`moved_is_built`).
use Rattle.std.specs.Prelude.{◌≡◌, true, ◌↔◌, ℕ, ◌+◌, ◌^◌, ◌%◌, ◌≤◌, ◌<◌, List, length, replicate}
use Rattle.std.proofs.Common.{sym, ap, ◌∙◌, inl, arith}
use Rattle.octets.specs.Bytes.{Bytes}
use Rattle.octets.specs.Splice.{part}
use Rattle.stray.specs.StrayBits.{no_stray_bits}
use Rattle.merkle.specs.Tree.{commitment_of, node_at}
use Rattle.sizes.specs.Sizes.{place_allowed, area, entry_count, index_start, deal_level}
use Rattle.entries.specs.Entry.{entry_of, commitment_in, offset_in, size_in}
use Rattle.lent.specs.LentDeal.{LentDeal, lent_deal}
use Rattle.index.specs.Slots.{entry_at, slot_at, standing, kept, kept_at, holds, row_at}
use Rattle.index.specs.KeptLaws.{kept_stands}
use Rattle.index.specs.Written.{slot_of}
use Rattle.index.specs.Find.{find_numbers}
use Rattle.ranges.specs.Ranges.{ranges_of}
use Rattle.packing.specs.Total.{total}
use Rattle.packing.specs.Order.{range_area, ranges_count, ranges_area, none_overlaps}
use Rattle.packing.specs.OrderLaws.{First, first_true}
use Rattle.packing.specs.SumLaws.{sum_ends}
use Rattle.packing.specs.OrderUnique.{new_slot_only}
use Rattle.packing.specs.PackedOffsets.{packed_offset}
use Rattle.houses.specs.Houses.{owner_at}
use Rattle.booking.specs.Booking.{keeps_segment, keeps_own, held_in, book_answer}
use Rattle.record.specs.Check.{deal_terms, check_of}
use Rattle.collect.specs.Collect.{slot_to, offset_to, place_to, collected_deal, collected_table}
use Rattle.collect.specs.Collect.{collect_code, second_deal, second_owners}
use Rattle.collect.proofs.MovesLaws.{sized, stands_full, full_stands, slot_in}
use Rattle.collect.specs.Collectable.{Collectable}
use Rattle.collect.proofs.CollectLaws as L
use Rattle.collect.proofs.CollectRows as R
use Rattle.collect.proofs.CollectPacked as P
use Rattle.collect.proofs.CollectClear as B
use Rattle.collect.proofs.OwnersLaws as O
use Rattle.collect.proofs.CodeLaws.{collects, refused_20}
use Rattle.collect.specs.Collectable.{Collects, Overlaps}
use Rattle.collect.specs.AnswerLaws.{deal_collected, owners_collected}
use Rattle.demands.proofs.CollectKeepLaws.{collected_keeps, collected_own}
use Rattle.demands.proofs.CollectedLaws as D
use Rattle.demands.proofs.CollectedHeldLaws.{collected_held}
use Rattle.demands.specs.BuildsExactly.{BuildsExactly}
use Rattle.demands.proofs.Demand2.{kept_is_built}

-- slot j of a deal has a standing entry; how many do
abbrev pub Stands : List ℕ → ℕ → Type 0
Stands deal j = standing (length deal) (slot_at deal j) ≡ true

abbrev pub standing_count : List ℕ → ℕ
standing_count deal = ranges_count (ranges_of deal) (entry_count (length deal))

-- the sum of the standing areas
abbrev pub standing_sum : List ℕ → ℕ
standing_sum deal = ranges_area (ranges_of deal) (entry_count (length deal))

-- 0 is answered exactly if the deal's size is allowed, both tables, the second deal and a tree beside it have the
-- lengths that it asks, no node has stray bits, and no two standing areas overlap: it never fails for want of room. 20
-- is answered exactly if two standing entries overlap and nothing else refuses.
pub collects_exactly : (deal table : List ℕ) (second : LentDeal) (second_table : List ℕ)
    → (collect_code deal table second second_table ≡ 0) ↔ Collects deal table second second_table
collects_exactly = collects

pub overlaps_exactly : (deal table : List ℕ) (second : LentDeal) (second_table : List ℕ)
    → (collect_code deal table second second_table ≡ 20) ↔ Overlaps deal table second second_table
overlaps_exactly = refused_20

-- Collection answered 0.
module _ (deal table : List ℕ) (second : LentDeal) (second_table : List ℕ)
    (e : collect_code deal table second second_table ≡ 0) where
  facts : Collects deal table second second_table
  facts = (collects deal table second second_table).0 e

  c : Collectable deal
  c = facts.collectable

  clear : no_stray_bits deal ≡ true
  clear = facts.clear

  abbrev slots : ℕ
  slots = entry_count (length deal)

  -- The second deal is the collected one, as long as the deal, and without stray bits.
  pub second_is_collected : second_deal deal table second second_table ≡ collected_deal deal
  second_is_collected = deal_collected deal table second second_table e

  pub same_length : length (collected_deal deal) ≡ length deal
  same_length = L.collected_length c

  pub no_stray_bits_lem : no_stray_bits (collected_deal deal) ≡ true
  no_stray_bits_lem = B.collected_clear c clear

  -- The second table is the collected one, with one byte a slot.
  pub second_table_is_collected : second_owners deal table second second_table ≡ collected_table deal table
  second_table_is_collected = owners_collected deal table second second_table e

  pub one_byte_a_slot : length (collected_table deal table) ≡ entry_count (length (collected_deal deal))
  one_byte_a_slot = O.owners_length c table ∙ ap entry_count (sym (L.collected_length c))

  -- Room never runs out: each standing entry moves to a slot of the index, and its area to a multiple of itself from
  -- which it ends by the index start.
  pub room_never_runs_out : (j : ℕ) → j < entry_count (length deal) → Stands deal j
      → (slot_to deal j < entry_count (length deal))
      × (offset_to deal j % area (size_in (slot_at deal j)) ≡ 0)
      × (offset_to deal j + area (size_in (slot_at deal j)) ≤ index_start (length deal))
  room_never_runs_out j h s = let p = D.collected_place c j h s in (slot_in c j h s, p.aligned, p.ends)

  -- The entries move to the first slots, as many as stand, by falling area and equal ones by old offset: ..
  pub in_order : (i j : ℕ) → i < entry_count (length deal) → j < entry_count (length deal) → Stands deal i
      → Stands deal j → First (ranges_of deal i) (ranges_of deal j) ↔ (slot_to deal i < slot_to deal j)
  in_order = P.collected_sorted c

  -- .. each of these slots has one of them, ..
  pub first_slots_taken : (x : ℕ) → x < standing_count deal
      → (j : ℕ) × (j < entry_count (length deal)) × Stands deal j × (slot_to deal j ≡ x)
  first_slots_taken x h = let f = P.collected_from c x h in (f.old, f.old_in, f.stood, f.moves)

  -- .. and every later slot 64 zero bytes.
  pub later_slots_blank : (x : ℕ) → standing_count deal ≤ x → x < entry_count (length deal)
      → slot_at (collected_deal deal) x ≡ replicate 64 0
  later_slots_blank = L.collected_blank c

  -- In the second table each moved entry's byte, as it was, whatever it was, is that of its new slot, ..
  pub moved_owner : (j : ℕ) → j < entry_count (length deal) → Stands deal j
      → owner_at (collected_table deal table) (slot_to deal j) ≡ owner_at table j
  moved_owner = O.moved_owner c table

  -- .. and every later byte is 0.
  pub later_owners_zero : (x : ℕ) → standing_count deal ≤ x → x < entry_count (length deal)
      → owner_at (collected_table deal table) x ≡ 0
  later_owners_zero = O.owners_after c table

  -- So a house holds as many slots as before: the quota stands as it stood.
  pub same_held : (house : ℕ)
      → held_in (collected_deal deal) (collected_table deal table) house ≡ held_in deal table house
  same_held = collected_held c table

  -- No other numbering keeps that order.
  pub only_order : (slot : ℕ → ℕ)
      → ((i j : ℕ) → i < entry_count (length deal) → j < entry_count (length deal) → Stands deal i → Stands deal j
      → First (ranges_of deal i) (ranges_of deal j) → slot i < slot j)
      → ((j : ℕ) → j < entry_count (length deal) → Stands deal j → slot j < standing_count deal)
      → (j : ℕ) → j < entry_count (length deal) → Stands deal j → slot j ≡ slot_to deal j
  only_order slot up low j h s =
      new_slot_only (ranges_of deal) slots c.apart slot
      (λ i k hi hk fi fk t.
      up i k hi hk (full_stands deal (sized c) i fi) (full_stands deal (sized c) k fk)
      ((first_true (ranges_of deal i) (ranges_of deal k)).0 t))
      (λ k hk fk. low k hk (full_stands deal (sized c) k fk))
      j h (stands_full deal (sized c) j s)

  -- The areas are packed from 0: the offset in each of the first slots is the sum of the areas in lower ones, ..
  pub packed_from_0 : (x : ℕ) → x < standing_count deal
      → (ranges_of (collected_deal deal) x).offset ≡ total (λ y. (ranges_of (collected_deal deal) y).area) x
  packed_from_0 =
      packed_offset (ranges_of deal) (ranges_of (collected_deal deal)) slots c.apart (P.collected_packed c)

  -- .. and all after them, up to the index, is zero.
  pub rest_is_zero : (at n : ℕ) → standing_sum deal ≤ at → at + n ≤ index_start (length deal)
      → part (collected_deal deal) at n ≡ replicate n 0
  rest_is_zero at n h k =
      L.collected_rest c at n k (λ j l. inl (omega (arith, sum_ends range_area (ranges_of deal) slots j l)))

  -- No two areas overlap in the new deal either, and their sum is as before.
  pub none_overlap :
      none_overlaps (ranges_of (collected_deal deal)) (entry_count (length (collected_deal deal))) ≡ true
  none_overlap = P.collected_apart c

  pub same_sum : standing_sum (collected_deal deal) ≡ standing_sum deal
  same_sum = P.collected_sum c

  -- An entry that stands, in slot j: ..
  module _ (j : ℕ) (h : j < entry_count (length deal)) (s : Stands deal j) where
    -- .. commitment and size as they were, the new offset, and the checksum of these; all bytes of its area; ..
    pub moved_slot : slot_at (collected_deal deal) (slot_to deal j)
        ≡ entry_of (commitment_in (slot_at deal j)) (offset_to deal j) (size_in (slot_at deal j))
    moved_slot = L.collected_slot c j h s

    pub moved_row : row_at (collected_deal deal) (slot_to deal j)
        ≡ holds (row_at deal j).commitment (offset_to deal j) (row_at deal j).size
    moved_row = R.collected_row c j h s

    pub moved_area : part (collected_deal deal) (offset_to deal j) (area (size_in (slot_at deal j)))
        ≡ part deal (offset_in (slot_at deal j)) (area (size_in (slot_at deal j)))
    moved_area = R.moved_area c j h s

    -- .. it is kept exactly if it was, and its new slot keeps exactly the segments, size and bytes, that its old one
    -- kept.
    pub moved_kept : kept_at (lent_deal (collected_deal deal)) (slot_to deal j) ≡ kept_at (lent_deal deal) j
    moved_kept = R.collected_kept c j h s

    pub moved_keeps : (segment : List ℕ)
        → keeps_segment (lent_deal (collected_deal deal)) segment (slot_to deal j)
        ≡ keeps_segment (lent_deal deal) segment j
    moved_keeps = collected_keeps c j h s

    -- What it kept for a house it keeps for that house.
    pub moved_keeps_own : (house : ℕ) (segment : List ℕ)
        → keeps_own (lent_deal (collected_deal deal)) (collected_table deal table) house segment (slot_to deal j)
        ≡ keeps_own (lent_deal deal) table house segment j
    moved_keeps_own = collected_own c j h s table

  -- So exactly the segments that got 15 for a house get 15 for that house in the new deal, by the new table, and
  -- exactly the commitments that were found are found there.
  pub already_kept_again : (house : ℕ) (segment : List ℕ)
      → ((book_answer (lent_deal deal) table house segment).code ≡ 15)
      ↔ ((book_answer (lent_deal (collected_deal deal)) (collected_table deal table) house segment).code ≡ 15)
  already_kept_again = D.collected_15 c clear table facts.table_sized_lem

  pub found_again : (commitment : List ℕ)
      → ((find_numbers (lent_deal deal) commitment).code ≡ 0)
      ↔ ((find_numbers (lent_deal (collected_deal deal)) commitment).code ≡ 0)
  found_again = D.collected_found c clear

  -- `place_to` says where an entry that stands at an entry place went: there is the entry of its commitment and size
  -- with the new offset.
  pub moved_entry : (place : ℕ) → place_allowed (length deal) place ≡ true
      → standing (length deal) (entry_at deal place) ≡ true
      → (place_allowed (length (collected_deal deal)) (place_to deal place) ≡ true)
      × (entry_at (collected_deal deal) (place_to deal place)
      ≡ entry_of (commitment_in (entry_at deal place)) (offset_to deal (slot_of (length deal) place))
      (size_in (entry_at deal place)))
  moved_entry place a s = (D.collected_place_allowed c place a s, D.collected_entry c place a s)

  -- Demand 2 for an entry that was kept: building with the new deal's number at the place where it went, given enough
  -- output, answers 0 and writes exactly a record that the check accepts, against that number and the new deal's
  -- commitment and size.
  pub moved_is_built : Bytes deal → (number place : ℕ) → number < 2 ^ 64 → place_allowed (length deal) place ≡ true
      → kept (node_at deal) (length deal) (entry_at deal place) ≡ true
      → let new = collected_deal deal in
      (r : List ℕ)
      × BuildsExactly (lent_deal new) number (place_to deal place) r
      × (check_of (deal_terms (commitment_of (deal_level (length new)) new) (length new) number) r ≡ 0)
  moved_is_built b number place bound a k =
      let s = kept_stands (node_at deal) (length deal) (entry_at deal place) k in
      kept_is_built (collected_deal deal) (B.collected_bytes c b) (D.collected_passes c clear) number
      (place_to deal place) bound (D.collected_place_allowed c place a s) (D.collected_entry_kept c place a s ∙ k)
