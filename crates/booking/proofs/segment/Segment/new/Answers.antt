use Rattle.std.proofs.Common.{◌∙◌, length}
use Rattle.sizes.specs.SizesLaws.{lent_size, segment_size}
use Rattle.booking.proofs.Deciding.{level_fits, commitment_by}
use Rattle.booking.proofs.segment.Segment.new.Goals as goal

pub segment_level-level-requires : goal.segment_level-level-requires
segment_level-level-requires c =
    let d = length c.args.deal.now.bytes.now in
    (segment_size d _ (lent_size d c.args.deal.now.usable.size_allowed).deal c.requires).level_low

pub root_of_filled-requires : goal.root_of_filled-requires
root_of_filled-requires c =
    let d = length c.args.deal.now.bytes.now in
    let sized = lent_size d c.args.deal.now.usable.size_allowed in
    level_fits c.args.bytes.now sized (segment_size d _ sized.deal c.requires) c.segment_level-level.result
    c.segment_level-level.ensures

pub invariant_of-result : goal.invariant_of-result
invariant_of-result c =
    let d = length c.args.deal.now.bytes.now in
    let sized = lent_size d c.args.deal.now.usable.size_allowed in
    record {
      committed =
          c.root_of_filled.ensures
          ∙ commitment_by c.args.bytes.now sized (segment_size d _ sized.deal c.requires)
          c.segment_level-level.result c.segment_level-level.ensures;
    }
