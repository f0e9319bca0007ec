use mathlib.Core.Path.{sym, ◌∙◌}
use Rattle.entries.specs.Entry.{kind_of}
use Rattle.entries.proofs.entry.kind_of.Goals as goal

pub returns-then-all_zero : goal.returns-then-all_zero
unfolding kind_of
returns-then-all_zero c = simp (sym c.all_zero.ensures ∙ c.if-all_zero.true)

pub returns-then-not-checksum_right : goal.returns-then-not-checksum_right
unfolding kind_of
returns-then-not-checksum_right c =
    simp (sym c.all_zero.ensures ∙ c.if-all_zero.false, sym c.checksum_right.ensures ∙ c.if-not-checksum_right.true)

pub returns : goal.returns
unfolding kind_of
returns c =
    simp (sym c.all_zero.ensures ∙ c.if-all_zero.false, sym c.checksum_right.ensures ∙ c.if-not-checksum_right.false)
