-- The node that the path leads to, against the commitment.
use mathlib.Core.Path.{ap, ◌∙◌}
use Prim.Native.Nat.{ℕ}
use mathlib.Core.List.{List}
use Rattle.octets.specs.Equality.{same_bytes}
use Rattle.octets.specs.EqualityLaws.{pointwise_same}
use Rattle.record.proofs.judgement.leads_to.Goals as goal

pub returns : goal.returns
returns c =
    let a = c.args in
    c.eq.ensures ∙ pointwise_same _ _ ∙ ap (λ (node : List ℕ). same_bytes node a.commitment.now)
    (c.as_slice.ensures ∙ c.path_root-root.ensures)
