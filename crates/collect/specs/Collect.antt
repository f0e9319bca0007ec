-- Collection (document 02, request (viii)): "a new deal into a second lent buffer of equal length (else 12): standing
-- segments, all A bytes of each, by falling A, equal ones by old offset, packed from 0, entries (new offset and
-- checksum) from the first slot in that order, all else zero. It is refused with 20 if two standing entries overlap.
-- Order 2, 12, 11, 20"; with a tree beside the second deal 12 for its length, right after 11 (request (vii));
-- "collection writes each moved entry's byte, as it was, for its new slot, zeros after them, into a second table (wrong
-- length: 23)" (request (x)): 23 for either table, right after 2.
use Rattle.std.specs.Prelude.{◌&&◌, ℕ, List, [], ◌∷◌, length, replicate, eqb}
use Rattle.rules.specs.Choice.{choose}
use Rattle.rules.specs.Refusals.{Rule, rule, first_refusal, unless_refused}
use Rattle.stray.specs.StrayBits.{no_stray_bits}
use Rattle.sizes.specs.Sizes.{lent_size_allowed, entry_count, slot_place, deal_level}
use Rattle.entries.specs.Entry.{entry_of}
use Rattle.tree.specs.Filled.{filled}
use Rattle.lent.specs.LentDeal.{LentDeal, tree_deal, deal_size}
use Rattle.index.specs.Slots.{row_at, Row}
use Rattle.index.specs.KeptRows.{area_of}
use Rattle.index.specs.Written.{slot_of}
use Rattle.ranges.specs.Ranges.{ranges_of}
use Rattle.houses.specs.Houses.{table_sized, owner_at}
use Rattle.packing.specs.Order.{new_slot, new_offset, none_overlaps}
use Rattle.collect.specs.Writes.{write_all}

-- the slot and the offset that the row of slot j moves to, and the place that an entry place moves to
abbrev pub slot_to : List ℕ → ℕ → ℕ
slot_to deal j = new_slot (ranges_of deal) (entry_count (length deal)) j

abbrev pub offset_to : List ℕ → ℕ → ℕ
offset_to deal j = new_offset (ranges_of deal) (entry_count (length deal)) j

unfoldable pub place_to : List ℕ → ℕ → ℕ
place_to deal place = slot_place (length deal) (slot_to deal (slot_of (length deal) place))

-- a row's entry at its new offset: the commitment copied, the size as it was, the checksum new; nothing for a free row
abbrev pub entry_moved : Row → ℕ → List ℕ
entry_moved row offset = choose row.stands (entry_of row.commitment offset row.size) []

-- what slot j brings: all bytes of its area, as they are, and its entry with the place where that goes
abbrev pub area_to : List ℕ → ℕ → List ℕ
area_to deal j = area_of deal (row_at deal j)

abbrev pub entry_to : List ℕ → ℕ → List ℕ
entry_to deal j = entry_moved (row_at deal j) (offset_to deal j)

abbrev pub entry_place_to : List ℕ → ℕ → ℕ
entry_place_to deal j = slot_place (length deal) (slot_to deal j)

-- zeros, with the areas written at their new offsets ..
unfoldable pub areas_moved : List ℕ → List ℕ
areas_moved deal = write_all (offset_to deal) (area_to deal) (entry_count (length deal)) (replicate (length deal) 0)

-- .. and the entries in their new slots
unfoldable pub collected_deal : List ℕ → List ℕ
collected_deal deal = write_all (entry_place_to deal) (entry_to deal) (entry_count (length deal)) (areas_moved deal)

-- the byte of the table that slot j brings, as it was; none for a free slot
abbrev pub owner_to : List ℕ → List ℕ → ℕ → List ℕ
owner_to deal table j = choose (row_at deal j).stands (owner_at table j ∷ []) []

-- zeros, with the bytes of the moved entries for their new slots
unfoldable pub collected_table : List ℕ → List ℕ → List ℕ
collected_table deal table =
    write_all (slot_to deal) (owner_to deal table) (entry_count (length deal)) (replicate (entry_count (length deal)) 0)

-- the second deal is lent with a tree beside it or without one
abbrev pub collect_rules : List ℕ → List ℕ → LentDeal → List ℕ → List Rule
collect_rules deal table second second_table =
    rule (lent_size_allowed (length deal)) 2
    ∷ rule (table_sized (length deal) table && table_sized (length deal) second_table) 23
    ∷ rule (eqb (deal_size second) (length deal)) 12
    ∷ rule (no_stray_bits deal) 11
    ∷ rule second.tree_sized 12
    ∷ rule (none_overlaps (ranges_of deal) (entry_count (length deal))) 20
    ∷ []

unfoldable pub collect_code : List ℕ → List ℕ → LentDeal → List ℕ → ℕ
collect_code deal table second second_table = first_refusal (collect_rules deal table second second_table)

-- the second deal afterwards
unfoldable pub second_deal : List ℕ → List ℕ → LentDeal → List ℕ → List ℕ
second_deal deal table second second_table =
    unless_refused (collect_code deal table second second_table) (λ (code : ℕ). second.bytes) (collected_deal deal)

-- the second table afterwards
unfoldable pub second_owners : List ℕ → List ℕ → LentDeal → List ℕ → List ℕ
second_owners deal table second second_table =
    unless_refused (collect_code deal table second second_table) (λ (code : ℕ). second_table)
    (collected_table deal table)

-- the tree beside the second deal afterwards: every inner node of the new deal's tree
unfoldable pub second_tree : List ℕ → List ℕ → List ℕ → List ℕ → List ℕ → List ℕ
second_tree deal table second tree second_table =
    unless_refused (collect_code deal table (tree_deal second tree) second_table) (λ (code : ℕ). tree)
    (filled (deal_level (length deal)) (collected_deal deal))
