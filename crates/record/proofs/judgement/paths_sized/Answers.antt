-- Both lengths against the levels of the deal and of the segment.
use native.Mathlib.Omega.{arith}
use borrow.Author.Tests.{eq-eqb, ne_eqb}
use Rattle.sizes.specs.SizesLaws.{deal_size_lem, segment_size}
use Rattle.record.proofs.judgement.paths_sized.Goals as goal

pub segment_level-requires : goal.segment_level-requires
segment_level-requires c =
    let a = c.args in
    (segment_size a.d a.size (deal_size_lem a.d c.requires.0) c.requires.1).level_low

pub overflow_sub-level : goal.overflow_sub-level
overflow_sub-level c =
    let a = c.args in
    let z = segment_size a.d a.size (deal_size_lem a.d c.requires.0) c.requires.1 in
    omega arith

pub overflow_mul-level : goal.overflow_mul-level
overflow_mul-level c = let t = deal_size_lem c.args.d c.requires.0 in omega arith

pub overflow_sub-result : goal.overflow_sub-result
overflow_sub-result c = let t = deal_size_lem c.args.d c.requires.0 in omega arith

pub overflow_mul-result : goal.overflow_mul-result
overflow_mul-result c = let t = deal_size_lem c.args.d c.requires.0 in omega arith

pub returns-then-segment_path_length-level : goal.returns-then-segment_path_length-level
returns-then-segment_path_length-level c = simp (
  ← c.deal_level-level.ensures,
  ← c.segment_level.ensures,
  eq-eqb _ _
      c.if-segment_path_length-level.true,
)

pub returns-else-segment_path_length-level : goal.returns-else-segment_path_length-level
returns-else-segment_path_length-level c = simp (
  ← c.deal_level-level.ensures,
  ← c.segment_level.ensures,
  ne_eqb _ _
      c.if-segment_path_length-level.false,
)
