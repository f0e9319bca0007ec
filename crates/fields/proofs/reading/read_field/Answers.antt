-- A field at a place: three bytes, and as many more as the last two of them say.
use Rattle.std.proofs.Common.{◌≡◌, arith}
use Rattle.fields.specs.FieldAt.{length_at}
use Rattle.fields.proofs.FieldCases.{read_short, read_cut, read_here}
use Rattle.fields.proofs.reading.read_field.Goals as goal
use Rattle.fields.proofs.reading.read_field.Goals.{then-end-lt3-via-then-end-lt3, then-end-lt3-via-else-end-lt3+then-end-place}

pub returns-then-end-lt3 : goal.returns-then-end-lt3
returns-then-end-lt3 c =
    let a = c.args in
    read_short a.bytes.now a.place (elim c.then-end-lt3.branch [
      | then-end-lt3-via-then-end-lt3 w ↦ omega arith
      | then-end-lt3-via-else-end-lt3+then-end-place w ↦ omega arith
    ])

pub returns-then-end-start : goal.returns-then-end-start
returns-then-end-start c =
    let a = c.args in
    let n : c.from_le_bytes-length.result ≡ length_at a.bytes.now a.place = omega (arith, c.from_le_bytes-length.ensures) in
    read_cut a.bytes.now a.place c.from_le_bytes-length.result (omega arith) n (omega arith)

pub returns : goal.returns
returns c =
    let a = c.args in
    let n : c.from_le_bytes-length.result ≡ length_at a.bytes.now a.place = omega (arith, c.from_le_bytes-length.ensures) in
    read_here a.bytes.now a.place c.from_le_bytes-length.result (omega arith) n (omega arith)
