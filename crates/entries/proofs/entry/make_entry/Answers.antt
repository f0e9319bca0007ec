use Rattle.std.specs.Prelude.{◌≡◌}
use Rattle.std.proofs.Common.{sym, ap, ◌∙◌, eq-eqb, ne_eqb}
use Rattle.octets.specs.Splice.{part}
use Rattle.octets.specs.SpliceLaws.{part_whole}
use Rattle.entries.specs.Entry.{made_entry}
use Rattle.entries.proofs.OneNode.{one_node}
use Rattle.entries.proofs.entry.make_entry.Goals as goal

pub returns-then-commitment-ne32 : goal.returns-then-commitment-ne32
unfolding made_entry
returns-then-commitment-ne32 c = simp (ne_eqb _ _ c.if-commitment-ne32.true)

pub returns-then-not-no_stray_bits : goal.returns-then-not-no_stray_bits
unfolding made_entry
returns-then-not-no_stray_bits c =
    let one = one_node c.args.commitment.now c.if-commitment-ne32.false in
    let stray = sym (c.no_stray_bits.ensures ∙ one) ∙ c.if-not-no_stray_bits.true in
    simp (eq-eqb _ _ c.if-commitment-ne32.false, stray)

pub returns : goal.returns
unfolding made_entry
returns c =
    let node = c.args.commitment.now in
    let one = one_node c.args.commitment.now c.if-commitment-ne32.false in
    let clear = sym (c.no_stray_bits.ensures ∙ one) ∙ c.if-not-no_stray_bits.false in
    let whole : c.array_at.result ≡ node =
    c.array_at.ensures ∙ ap (part node 0) (sym c.if-commitment-ne32.false) ∙ part_whole node in
    simp (c.entry_of.ensures, eq-eqb _ _ c.if-commitment-ne32.false, clear, whole)
