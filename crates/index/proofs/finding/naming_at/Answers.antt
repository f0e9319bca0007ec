use Rattle.std.specs.Prelude.{List, ℕ, Bool, true, false, ◌≡◌}
use Rattle.std.proofs.Common.{refl, sym, ap, ◌∙◌}
use Rattle.octets.specs.Equality.{same_bytes}
use Rattle.octets.specs.EqualityLaws.{pointwise_same}
use Rattle.index.proofs.Naming.{naming_read}
use Rattle.index.proofs.finding.naming_at.Goals as goal
use mathlib.Core.Bool.{not}

-- what the answer of a test that is turned says
turned : {answer test : Bool} → answer ≡ not test → (b : Bool) → answer ≡ not b → test ≡ b
turned {test = true} e true q = refl
turned {test = true} e false q = sym q ∙ e
turned {test = false} e true q = sym q ∙ e
turned {test = false} e false q = refl

pub returns-then-ne : goal.returns-then-ne
returns-then-ne c =
    let a = c.args in
    naming_read a.deal.now a.commitment.now a.place c.in_ok-row.ensures
    (pointwise_same _ _ ∙ ap (λ (l : List ℕ). same_bytes l a.commitment.now) c.as_slice.ensures) false
    (turned c.ne.ensures false c.if-ne.true)

pub returns : goal.returns
returns c =
    let a = c.args in
    naming_read a.deal.now a.commitment.now a.place c.in_ok-row.ensures
    (pointwise_same _ _ ∙ ap (λ (l : List ℕ). same_bytes l a.commitment.now) c.as_slice.ensures) true
    (turned c.ne.ensures true c.if-ne.false)
