-- The two heads, and then the siblings behind each.
use mathlib.Core.Path.{sym, ap, ◌∙◌}
use Prim.Native.Nat.{ℕ, ◌+◌, ◌-◌, ◌*◌, ◌≤◌}
use native.Mathlib.Omega.{arith}
use mathlib.Core.List.{[]}
use lib.ListN.{length}
use Rattle.octets.specs.Splice.{splice}
use Rattle.fields.specs.Table.{put_field}
use Rattle.sizes.specs.Sizes.{deal_level}
use Rattle.paths.specs.Siblings.{siblings}
use Rattle.paths.specs.SiblingsLaws.{path_length}
use Rattle.lent.specs.Seen.{seen}
use Rattle.lent.specs.UsableLaws.{usable_size, nodes_sized}
use Rattle.builder.proofs.PathsWritten.{paths_written}
use Rattle.builder.proofs.writing.put_paths.Goals as goal

pub deal_level-top-requires : goal.deal_level-top-requires
deal_level-top-requires c = (usable_size c.args.deal.now.usable).allowed

pub overflow_sub-size : goal.overflow_sub-size
overflow_sub-size c = omega (arith, c.requires.level_nonzero.1.up, c.deal_level-top.ensures)

pub overflow_mul-size : goal.overflow_mul-size
overflow_mul-size c = omega (arith, (usable_size c.args.deal.now.usable).lent_level, c.deal_level-top.ensures)

pub put_head-content-requires : goal.put_head-content-requires
put_head-content-requires c =
    let e = c.deal_level-top.ensures in (
      omega (arith, (usable_size c.args.deal.now.usable).lent_level, e),
      omega (arith, c.requires.deal_in_bounds, e),
    )

pub overflow_sub-entry_size : goal.overflow_sub-entry_size
overflow_sub-entry_size c = omega (arith, (usable_size c.args.deal.now.usable).deal.level_low, c.deal_level-top.ensures)

pub overflow_mul-entry_size : goal.overflow_mul-entry_size
overflow_mul-entry_size c = omega (arith, (usable_size c.args.deal.now.usable).lent_level, c.deal_level-top.ensures)

pub overflow_add-content : goal.overflow_add-content
overflow_add-content c =
    omega (arith, c.put_head-content.ensures.1, c.requires.deal_in_bounds, c.deal_level-top.ensures)

pub put_head-entry_content-requires : goal.put_head-entry_content-requires
put_head-entry_content-requires c =
    let e = c.deal_level-top.ensures in
    let h = c.put_head-content in (
      omega (arith, (usable_size c.args.deal.now.usable).lent_level, e),
      omega (arith, c.requires.deal_in_bounds, e, h.ensures.1, h.auto.out),
    )

pub write_paths-requires : goal.write_paths-requires
write_paths-requires c =
    let e = c.deal_level-top.ensures in
    let h = c.put_head-content in
    let k = c.put_head-entry_content in
    record {
      level_nonzero = c.requires.level_nonzero;
      node = c.requires.node;
      in_tree = c.requires.in_tree;
      level_bound = (
        omega (arith, e, k.ensures.1),
        omega (arith, e, c.requires.deal_in_bounds, h.ensures.1, k.ensures.1, k.auto.out, h.auto.out),
      );
    }

pub overflow_add-result : goal.overflow_add-result
overflow_add-result c =
    omega (
      arith,
      c.put_head-content.ensures.1,
      c.put_head-entry_content.ensures.1,
      c.requires.deal_in_bounds,
      c.deal_level-top.ensures,
    )

pub returns : goal.returns
returns c =
    let a = c.args in
    let deal = seen a.deal.now in
    let top = deal_level (length a.deal.now.bytes.now) in
    let n = c.deal_level-top.result in
    let e = c.deal_level-top.ensures in
    let h = c.put_head-content in
    let k = c.put_head-entry_content in
    let segment_path = siblings deal.nodes (top - a.level) a.level a.segment.position in
    let entry_path = siblings deal.nodes (top - 1) 1 a.entry_position in
    let sized = path_length deal.nodes top (nodes_sized _ _ c.args.deal.now.usable) in
    let sized_segment = sized _ c.requires.level_nonzero.1 ∙ ap (λ (l : ℕ). 32 * (l - a.level)) (sym e) in
    let sized_entry = sized _ c.requires.in_tree ∙ ap (λ (l : ℕ). 32 * (l - 1)) (sym e) in
    let room : a.at + 6 + 32 * (n - a.level) + 32 * (n - 1) ≤ length a.out.now =
    omega (arith, e, c.requires.deal_in_bounds) in (
      omega (arith, e, h.ensures.1, k.ensures.1),
      paths_written a.out.now segment_path entry_path a.at 5 6
          (32 * (n - a.level)) (32 * (n - 1)) sized_segment sized_entry room h.ensures.0 h.ensures.1
          k.ensures.0 k.ensures.1 c.write_paths.ensures.1
          ∙ ap (λ (l : ℕ). splice
          (splice a.out.now a.at (put_field 5 segment_path []))
          (a.at + (3 + 32 * (l - a.level))) (put_field 6 entry_path [])) e,
    )
