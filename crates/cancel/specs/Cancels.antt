-- When an entry is cancelled: what the rules of document 02, requests (viii) and (x), ask, each by itself.
use Rattle.std.specs.Prelude.{◌≡◌, true, ℕ, List}
use Rattle.sizes.specs.Sizes.{place_allowed}
use Rattle.lent.specs.LentDeal.{LentDeal, deal_size, deal_refusal}
use Rattle.index.specs.Slots.{entry_at, standing}
use Rattle.index.specs.Written.{slot_of}
use Rattle.houses.specs.Houses.{house_allowed, table_sized, owned}

-- an entry of the deal may be cancelled by a house
pub record Cancels (deal : LentDeal) (table : List ℕ) (house place : ℕ) : Type 0 where
  pub house_allowed_lem : house_allowed house ≡ true
  pub not_refused : deal_refusal deal ≡ 0
  pub table_sized_lem : table_sized (deal_size deal) table ≡ true
  pub place_allowed_lem : place_allowed (deal_size deal) place ≡ true
  pub stands_there : standing (deal_size deal) (entry_at deal.bytes place) ≡ true
  pub owned_there : owned table house (slot_of (deal_size deal) place) ≡ true
