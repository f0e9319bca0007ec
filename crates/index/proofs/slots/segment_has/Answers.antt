use Rattle.std.specs.Prelude.{List, ℕ}
use Rattle.std.proofs.Common.{ap, ◌∙◌}
use Rattle.octets.specs.Equality.{same_bytes}
use Rattle.octets.specs.EqualityLaws.{pointwise_same}
use Rattle.index.proofs.slots.segment_has.Goals as goal

pub returns : goal.returns
returns c =
    c.eq.ensures ∙ pointwise_same _ _
    ∙ ap (λ (l : List ℕ). same_bytes l c.args.row.commitment) c.segment_node.ensures
