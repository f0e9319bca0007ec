use Rattle.std.proofs.Common.{sym, ◌∙◌, eq-eqb, ne_eqb}
use Rattle.entries.specs.Entry.{read_entry}
use Rattle.entries.proofs.entry.read_entry.Goals as goal

pub returns-then-entry-ne64 : goal.returns-then-entry-ne64
unfolding read_entry
returns-then-entry-ne64 c = simp (ne_eqb _ _ c.if-entry-ne64.true)

pub returns-in-Blank : goal.returns-in-Blank
unfolding read_entry
returns-in-Blank c = simp (eq-eqb _ _ c.if-entry-ne64.false, sym c.kind_of.ensures ∙ c.in-Blank.is)

pub returns-in-Damaged : goal.returns-in-Damaged
unfolding read_entry
returns-in-Damaged c = simp (eq-eqb _ _ c.if-entry-ne64.false, sym c.kind_of.ensures ∙ c.in-Damaged.is)

pub returns-in-Valid : goal.returns-in-Valid
unfolding read_entry
returns-in-Valid c =
    simp (
      eq-eqb _ _ c.if-entry-ne64.false,
      sym c.kind_of.ensures ∙ c.in-Valid.is,
      c.fields_of.ensures.commitment,
      c.fields_of.ensures.offset,
      c.fields_of.ensures.size,
    )
