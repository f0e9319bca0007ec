use Rattle.std.proofs.Common.{sym, ◌∙◌}
use Rattle.lent.specs.LentDealLaws.{refusal_size, refusal_stray, refusal_tree, none_refusal}
use Rattle.lent.proofs.Lent.new.Goals as goal

pub returns-then-not-lent_size_allowed-clause-code :
    goal.returns-then-not-lent_size_allowed-clause-code
returns-then-not-lent_size_allowed-clause-code c =
    sym (refusal_size _ (sym c.lent_size_allowed.ensures ∙ c.if-not-lent_size_allowed.true))

pub returns-then-not-no_stray_bits-clause-code : goal.returns-then-not-no_stray_bits-clause-code
returns-then-not-no_stray_bits-clause-code c =
    sym (refusal_stray _ (sym c.lent_size_allowed.ensures ∙ c.if-not-lent_size_allowed.false)
    (sym c.no_stray_bits.ensures ∙ c.if-not-no_stray_bits.true))

pub returns-then-not-tree_sized-clause-code : goal.returns-then-not-tree_sized-clause-code
returns-then-not-tree_sized-clause-code c =
    sym (refusal_tree _ (sym c.lent_size_allowed.ensures ∙ c.if-not-lent_size_allowed.false)
    (sym c.no_stray_bits.ensures ∙ c.if-not-no_stray_bits.false)
    (sym c.tree_sized.ensures ∙ c.if-not-tree_sized.true))

pub returns-clause-code : goal.returns-clause-code
returns-clause-code c =
    sym (none_refusal _ (sym c.lent_size_allowed.ensures ∙ c.if-not-lent_size_allowed.false)
    (sym c.no_stray_bits.ensures ∙ c.if-not-no_stray_bits.false)
    (sym c.tree_sized.ensures ∙ c.if-not-tree_sized.false))
