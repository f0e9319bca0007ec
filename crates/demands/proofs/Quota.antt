-- Request (x), the quota (document 02: "A house that holds half the slots or more gets 22, after 15 and before 13"),
-- and what becomes of 13.
use Rattle.std.specs.Prelude.{◌≡◌, true, ◌&&◌, ◌↔◌, ◌≢◌, ℕ, ◌*◌, ◌≤◌, List, length, replicate}
use Rattle.rules.specs.Search.{count}
use Rattle.sizes.specs.Sizes.{lent_size_allowed, entry_count}
use Rattle.sizes.specs.SizesLaws.{lent_size}
use Rattle.lent.specs.LentDeal.{LentDeal, deal_size}
use Rattle.index.specs.Slots.{slot_at, standing}
use Rattle.houses.specs.Houses.{owned}
use Rattle.booking.specs.Booking.{held_in, book_answer}
use Rattle.booking.specs.Outcomes.{Unkept}
use Rattle.collect.specs.Collect.{collect_code, second_deal, second_owners}
use Rattle.collect.proofs.CodeLaws.{collects}
use Rattle.collect.specs.AnswerLaws.{deal_collected, owners_collected}
use Rattle.demands.specs.Calls.{Call, DealAndTable, answer_in, run_calls}
use Rattle.demands.proofs.HeldLaws.{held_is}
use Rattle.demands.specs.Shared.{Shared}
use Rattle.demands.proofs.QuotaLaws as L

-- A house holds the slots whose entries stand, kept or not, and whose bytes of the table are the house's.
pub holds_standing_entries : (deal table : List ℕ) (house : ℕ) → lent_size_allowed (length deal) ≡ true
    → held_in deal table house
    ≡ count (λ i. standing (length deal) (slot_at deal i) && owned table house i) 0 (entry_count (length deal))
holds_standing_entries deal table house l = held_is deal table (lent_size (length deal) l).deal house

-- 22 is answered exactly if nothing that comes before refuses, no entry of the house keeps the segment (15), and the
-- house holds half the slots or more; with a tree and without.
pub quota_exactly : (deal : LentDeal) (table : List ℕ) (house : ℕ) (segment : List ℕ)
    → ((book_answer deal table house segment).code ≡ 22)
    ↔ (Unkept deal table house segment × (entry_count (deal_size deal) ≤ 2 * held_in deal.bytes table house))
quota_exactly = L.answers_22

-- 13 is not answered where every standing entry is of house 1 or 2, and neither holds more than half the slots
-- (`Shared`): with no slot free they hold half each, and 22 comes first.
pub no_13_without_nobodys : (now : DealAndTable) → Shared now → (house : ℕ) (segment : List ℕ)
    → (answer_in now house segment).code ≢ 13
no_13_without_nobodys now s house segment = L.shared_not_13 now s house segment

-- So it stays after any calls of both houses, and in the deal and the table that a collection with 0 writes, ..
pub stays_shared : (was : DealAndTable) → Shared was → (calls : List Call) → Shared (run_calls was calls)
stays_shared = L.run_shared

pub collection_stays_shared : (deal table : List ℕ) (second : LentDeal) (second_table : List ℕ)
    → Shared (record { deal = deal; table = table }) → collect_code deal table second second_table ≡ 0
    → Shared
    (record { deal = second_deal deal table second second_table; table = second_owners deal table second second_table })
collection_stays_shared deal table second second_table s e =
    rw (deal_collected deal table second second_table e, owners_collected deal table second second_table e)
    (L.collected_shared deal table ((collects deal table second second_table).0 e).collectable s)

-- .. and so no run of calls from an all-zero deal leads to 13, whatever its size and whatever the table held.
pub no_13_from_zeros : (d : ℕ) (table : List ℕ) (calls : List Call) (house : ℕ) (segment : List ℕ)
    → (answer_in (run_calls (record { deal = replicate d 0; table = table }) calls) house segment).code ≢ 13
no_13_from_zeros = L.zeros_not_13
