-- The level and the position of the segment, and the place behind its path, as they are worked out.
use mathlib.Core.Path.{sym, subst, ◌∙◌}
use Prim.Native.Nat.{◌-◌, ◌*◌, ◌≤◌}
use native.Mathlib.Omega.{arith}
use lib.ListN.{length}
use Rattle.octets.specs.Splice.{splice}
use Rattle.paths.specs.Start.{path_start, InTree}
use Rattle.paths.specs.Siblings.{siblings}
use Rattle.sizes.specs.Sizes.{deal_level, area}
use Rattle.lent.specs.Seen.{seen}
use Rattle.lent.specs.UsableLaws.{nodes_sized}
use Rattle.builder.specs.Build.{entry_path_of}
use Rattle.builder.specs.BuildLaws.{segment_start_lem, entry_start_lem}
use Rattle.settle.proofs.OwnPath.{paths_room}
use Rattle.settle.proofs.with_deal.write_own.Goals as goal

pub segment_level-level-requires : goal.segment_level-level-requires
segment_level-level-requires c = c.requires.in_deal.size_is.level_low

pub segment_position-requires : goal.segment_position-requires
segment_position-requires c =
    let z : 128 ≤ area c.args.size = c.requires.in_deal.size_is.area_low in
    omega arith

pub deal_level-requires : goal.deal_level-requires
deal_level-requires c = c.requires.in_deal.lent_is.allowed

pub overflow_sub-end : goal.overflow_sub-end
overflow_sub-end c =
    omega (arith, c.requires.in_deal.size_is.below_deal, c.segment_level-level.ensures, c.deal_level.ensures)

pub overflow_mul-end : goal.overflow_mul-end
overflow_mul-end c =
    omega (arith, c.requires.in_deal.lent_is.lent_level, c.segment_level-level.ensures, c.deal_level.ensures)

pub write_paths-requires : goal.write_paths-requires
write_paths-requires c =
    let a = c.args in
    let l = c.segment_level-level.ensures in
    let q = c.segment_position.ensures in
    let w = c.requires.in_deal in
    let deal = seen a.deal.now in
    let top = deal_level (length a.deal.now.bytes.now) in
    let each = nodes_sized _ _ a.deal.now.usable in
    record {
      level_nonzero = (
        omega (arith, w.size_is.level_low, l),
        subst (InTree top) (λ j. path_start (top - sym l j) (sym l j) (sym q j)) (segment_start_lem w),
      );
      node = c.requires.node_value ∙ (λ j. deal.nodes (sym l j) (sym q j));
      in_tree = entry_start_lem w;
      level_bound = (
        omega (arith, c.deal_level.ensures),
        omega (
          arith,
          paths_room deal each a.place a.offset a.size w,
          c.deal_level.ensures,
          l,
          c.requires.out_len,
        ),
      );
    }

pub returns : goal.returns
returns c =
    let a = c.args in
    let l = c.segment_level-level.ensures in
    let q = c.segment_position.ensures in
    let deal = seen a.deal.now in
    let top = deal_level (length a.deal.now.bytes.now) in (
      c.write_paths.ensures.0,
      c.write_paths.ensures.1
          ∙ (λ j. splice (splice a.out.now 0 (siblings deal.nodes (top - l j) (l j) (q j)))
          (32 * (c.deal_level.ensures j - l j)) (entry_path_of deal a.place)),
    )
