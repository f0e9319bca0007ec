use mathlib.Core.Path.{sym, ◌∙◌}
use Rattle.sizes.specs.Numbers.{index_numbers}
use Rattle.sizes.proofs.index_numbers.Goals as goal

pub returns-then-not-deal_size_allowed : goal.returns-then-not-deal_size_allowed
unfolding index_numbers
returns-then-not-deal_size_allowed c = simp (sym c.deal_size_allowed.ensures ∙ c.if-not-deal_size_allowed.true)

pub index_start-requires : goal.index_start-requires
index_start-requires c = sym c.deal_size_allowed.ensures ∙ c.if-not-deal_size_allowed.false

pub returns : goal.returns
unfolding index_numbers
returns c =
    simp (
      sym c.deal_size_allowed.ensures ∙ c.if-not-deal_size_allowed.false,
      c.entry_count.ensures,
      c.index_start.ensures,
    )
