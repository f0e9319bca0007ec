-- A lent deal whose nodes may be looked up: its size is allowed, and a tree beside it has the length that it asks.
use Rattle.std.specs.Prelude.{◌≡◌, true}
use Rattle.sizes.specs.Sizes.{lent_size_allowed}
use Rattle.lent.specs.LentDeal.{LentDeal, deal_size}

pub record Usable (deal : LentDeal) : Type 0 where
  pub size_allowed : lent_size_allowed (deal_size deal) ≡ true
  pub tree_sized_lem : deal.tree_sized ≡ true
