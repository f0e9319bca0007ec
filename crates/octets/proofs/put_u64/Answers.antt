use Rattle.std.proofs.Common.{◌∙◌, ap}
use Rattle.std.specs.Prelude.{List, ℕ}
use Rattle.octets.specs.LittleEndianLaws.{le_bytes_of}
use Rattle.octets.specs.Splice.{splice}
use Rattle.octets.proofs.put_u64.Goals as goal

pub returns : goal.returns
returns c =
    c.put_array.ensures.0
    ∙ ap (λ (l : List ℕ). splice c.args.d.now c.args.at l) (c.to_le_bytes.ensures ∙ le_bytes_of c.args.v)
