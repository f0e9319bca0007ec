use Rattle.std.proofs.Common.{ap, ap₂, ◌∙◌, List, ℕ, arith}
use Rattle.octets.specs.Fill.{zero_filled}
use Rattle.octets.specs.Splice.{splice}
use Rattle.entries.specs.Entry.{entry_of}
use Rattle.booking.proofs.segment.Segment.put.Goals as goal

pub put_filled-requires : goal.put_filled-requires
put_filled-requires c =
    let e = c.area-area.ensures in
    (omega (arith, c.requires.segment_len_bound), omega (arith, c.requires.segment_in_bounds))

pub returns : goal.returns
returns c =
    let segment = c.args.self.now.bytes.now in
    c.put_array.ensures.0
    ∙ ap₂ (λ (x y : List ℕ). splice x c.args.at.place y)
    (c.put_filled.ensures
    ∙ ap (λ (n : ℕ). splice c.args.deal.now c.args.at.offset (zero_filled n segment)) c.area-area.ensures)
    (c.entry_of-entry.ensures ∙ ap (entry_of c.args.self.now.commitment c.args.at.offset) c.size.ensures)
