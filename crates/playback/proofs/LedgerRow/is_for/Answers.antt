use Rattle.std.proofs.Common.{sym, ◌∙◌, eq-eqb}
use Rattle.octets.specs.EqualityLaws.{pointwise_same}
use Rattle.playback.proofs.LedgerRow.is_for.Goals as goal

pub returns-then-self-line : goal.returns-then-self-line
returns-then-self-line c =
    rw (eq-eqb c.args.self.now.size c.args.line.now.size c.if-self-line.true)
    (c.eq.ensures ∙ pointwise_same c.args.self.now.commitment c.args.line.now.commitment)
