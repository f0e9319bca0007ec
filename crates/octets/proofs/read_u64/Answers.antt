use Rattle.std.proofs.Common.{◌∙◌, ap}
use Rattle.std.specs.Prelude.{List, ℕ}
use Rattle.std.specs.Int.{w64, from_le_bytes}
use Rattle.octets.specs.Bytes.{bytes_of_slice}
use Rattle.octets.specs.LittleEndianLaws.{le_number_of}
use Rattle.octets.specs.Splice.{part}
use Rattle.octets.specs.SpliceLaws.{part_length, bytes_part}
use Rattle.octets.proofs.read_u64.Goals as goal

pub returns : goal.returns
returns c =
    let a = c.args in
    le_number_of (part a.d.now a.at 8) c.from_le_bytes.result (part_length a.d.now a.at 8 c.requires)
    (bytes_part a.d.now a.at 8 (bytes_of_slice a.d.now c.type_inv.d)) c.from_le_bytes.type_inv
    (c.from_le_bytes.ensures ∙ ap (λ (l : List ℕ). from_le_bytes w64 l) c.array_at.ensures)
