-- Booking a segment in a deal for a house (document 01, "Booking, finding, building, settling": book; order 2, 4, 11,
-- 15, 13, 14; document 02, request (vii): with a tree beside the deal 12, right after 11; request (x): 23 before all
-- else and right after 2, 22 after 15 and before 13).
use Rattle.std.specs.Prelude.{Bool, ◌&&◌, ℕ, List, [], ◌∷◌, ◌++◌, length, eqb}
use Rattle.rules.specs.Refusals.{Rule, rule, first_refusal, unless_refused}
use Rattle.std.specs.Prelude.{Option}
use Rattle.rules.specs.Search.{lowest}
use Rattle.octets.specs.Equality.{same_bytes}
use Rattle.octets.specs.Splice.{part}
use Rattle.stray.specs.StrayBits.{no_stray_bits}
use Rattle.sizes.specs.Sizes.{segment_size_allowed, area, entry_count}
use Rattle.entries.specs.Entry.{offset_in, size_in}
use Rattle.lent.specs.LentDeal.{LentDeal, deal_size}
use Rattle.index.specs.Slots.{slot_at, kept_at}
use Rattle.room.specs.Decide.{answer_to}
use Rattle.room.specs.declared.Booked.{Booked}
use Rattle.room.specs.Decide.{Decision}
use Rattle.room.specs.Decide.{Refuse, Already, Place}
use Rattle.ranges.specs.Ranges.{ranges_of}
use Rattle.houses.specs.Houses.{house_rules, owned, held_count, with_owner}
use Rattle.houses.specs.Deciding.{decide_for}
use Rattle.booking.specs.Write.{area_bytes, written_deal}

-- the rules that are looked at first
abbrev pub segment_rules : LentDeal → List ℕ → List Rule
segment_rules deal segment =
    rule (segment_size_allowed (deal_size deal) (length segment)) 4
    ∷ rule (no_stray_bits deal.bytes && no_stray_bits (area_bytes segment)) 11
    ∷ rule deal.tree_sized 12
    ∷ []

abbrev pub book_rules : LentDeal → List ℕ → ℕ → List ℕ → List Rule
book_rules deal table house segment = house_rules (deal_size deal) table house ++ segment_rules deal segment

-- slot i keeps the segment: a kept entry of the same size with exactly the segment's area at its offset
unfoldable pub keeps_segment : LentDeal → List ℕ → ℕ → Bool
keeps_segment deal segment i =
    let entry = slot_at deal.bytes i in
    kept_at deal i
    && (eqb (size_in entry) (length segment)
    && same_bytes (part deal.bytes (offset_in entry) (area (length segment))) (area_bytes segment))

-- "Code 15 .. see[s] only one's own entries"
abbrev pub keeps_own : LentDeal → List ℕ → ℕ → List ℕ → ℕ → Bool
keeps_own deal table house segment i = owned table house i && keeps_segment deal segment i

-- the lowest slot of the house that keeps the segment
abbrev pub lowest_keeping : LentDeal → List ℕ → ℕ → List ℕ → Option ℕ
lowest_keeping deal table house segment = lowest (keeps_own deal table house segment) 0 (entry_count (deal_size deal))

-- how many slots the house holds, by standing entries, kept or not
abbrev pub held_in : List ℕ → List ℕ → ℕ → ℕ
held_in deal table house = held_count (ranges_of deal) table house (entry_count (length deal))

-- what booking decides: a refusal, or what is decided for the house by the deal's slots (crates/houses)
unfoldable pub decision : LentDeal → List ℕ → ℕ → List ℕ → Decision
decision deal table house segment =
    unless_refused (first_refusal (book_rules deal table house segment)) Refuse
    (decide_for (deal_size deal) (ranges_of deal.bytes) table house (area (length segment))
    (keeps_segment deal segment))

-- the answer: offset and entry place
unfoldable pub book_answer : LentDeal → List ℕ → ℕ → List ℕ → Booked
book_answer deal table house segment =
    answer_to (deal_size deal) (ranges_of deal.bytes) (decision deal table house segment)

-- the deal afterwards: with code 0 the segment's area and its entry are written, and no other byte changes
abbrev pub deal_after : List ℕ → List ℕ → Decision → List ℕ
deal_after deal segment (Refuse code) = deal
deal_after deal segment (Already i) = deal
deal_after deal segment (Place i offset) = written_deal deal segment i offset

unfoldable pub booked_deal : LentDeal → List ℕ → ℕ → List ℕ → List ℕ
booked_deal deal table house segment = deal_after deal.bytes segment (decision deal table house segment)

-- the table afterwards: "Booking sets the slot's byte"
abbrev pub table_after : List ℕ → ℕ → Decision → List ℕ
table_after table house (Refuse code) = table
table_after table house (Already i) = table
table_after table house (Place i offset) = with_owner table i house

unfoldable pub booked_table : LentDeal → List ℕ → ℕ → List ℕ → List ℕ
booked_table deal table house segment = table_after table house (decision deal table house segment)
