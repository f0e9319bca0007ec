use Rattle.std.specs.Prelude.{◌≡◌, true, false}
use Rattle.std.proofs.Common.{sym, ◌∙◌}
use Rattle.octets.specs.Equality.{same_bytes}
use Rattle.octets.specs.EqualityLaws.{pointwise_same}
use Rattle.paths.proofs.compare_above.Goals as goal

pub returns-then-eq : goal.returns-then-eq
returns-then-eq c =
    let e : same_bytes c.args.left c.args.right ≡ true =
    sym (pointwise_same c.args.left c.args.right) ∙ sym c.eq.ensures ∙ c.if-eq.true in
    sym (simp e)

pub returns : goal.returns
returns c =
    let e : same_bytes c.args.left c.args.right ≡ false =
    sym (pointwise_same c.args.left c.args.right) ∙ sym c.eq.ensures ∙ c.if-eq.false in
    sym (simp e)
