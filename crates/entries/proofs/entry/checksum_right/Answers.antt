use Rattle.std.specs.Prelude.{List, ℕ, length, take, drop, ◌-◌}
use Rattle.std.proofs.Common.{ap, ◌∙◌}
use Rattle.octets.specs.Equality.{same_bytes}
use Rattle.octets.specs.EqualityLaws.{pointwise_same}
use Rattle.entries.proofs.Written.{right_read}
use Rattle.entries.proofs.entry.checksum_right.Goals as goal

pub returns : goal.returns
returns c =
    let entry = c.args.entry.now in
    c.eq.ensures ∙ pointwise_same _ _
    ∙ ap (λ (sum : List ℕ). same_bytes sum (take (length entry - 48) (drop 48 entry))) c.as_slice.ensures
    ∙ right_read entry c.checksum.result c.requires c.checksum.ensures
