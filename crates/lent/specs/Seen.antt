-- The deal that a lent deal is for the definitions: its bytes, with the source of its nodes.
use Rattle.std.specs.Prelude.{option_map}
use Rattle.lent.specs.LentDeal.{LentDeal, lent_of}
use Rattle.lent.specs.declared.Lent.{Lent}

abbrev pub seen : Lent → LentDeal
seen deal = lent_of deal.bytes.now (option_map (λ t. t.now) deal.tree)
