-- The entry's siblings below the segment's level, then both paths side by side.
use Rattle.std.specs.Prelude.{option_map}
use mathlib.Core.Path.{◌≡◌, sym, ap, subst, ◌∙◌}
use Prim.Native.Nat.{ℕ, ◌+◌, ◌-◌, ◌≤◌, ◌<◌}
use native.Mathlib.Omega.{arith}
use lib.ListN.{length}
use Rattle.octets.specs.Splice.{splice}
use Rattle.sizes.specs.Sizes.{deal_level}
use Rattle.paths.specs.Start.{path_start, InTree}
use Rattle.paths.specs.Siblings.{siblings}
use Rattle.paths.specs.SiblingsLaws.{path_length}
use Rattle.lent.specs.Seen.{seen}
use Rattle.lent.specs.UsableLaws.{usable_size, nodes_sized}
use Rattle.lent.proofs.WriteLoops.{both_from}
use Rattle.lent.proofs.Lent.write_paths.Goals as goal

-- a start with the levels above it as they are worked out
worked_out : {top n : ℕ} (level p : ℕ) → n ≡ top → InTree top (path_start (top - level) level p)
    → InTree top (path_start (n - level) level p)
worked_out {top = top} level p e t = subst (λ (m : ℕ). InTree top (path_start (m - level) level p)) (sym e) t

-- the node that the entry's siblings below lead to stands on the segment's level
level_is : (level : ℕ) → 0 < level → 1 + (level - 1) ≡ level
level_is level low = omega arith

met_in : {top : ℕ} (n level p : ℕ) → 0 < level → InTree top (path_start (n - 1 - (level - 1)) (1 + (level - 1)) p)
    → InTree top (path_start (n - level) level p)
met_in {top = top} n level p low t =
    let m : n - 1 - (level - 1) ≡ n - level = omega arith in
    subst (InTree top) (λ j. path_start (m j) (level_is level low j) p) t

pub deal_level-top-requires : goal.deal_level-top-requires
deal_level-top-requires c = (usable_size c.args.self.now.usable).allowed

pub overflow_sub-top : goal.overflow_sub-top
overflow_sub-top c = omega (arith, c.requires.level_nonzero.1.up)

pub node_in-requires : goal.node_in-requires
node_in-requires c =
    worked_out 1 c.args.entry_position c.deal_level-top.ensures c.requires.in_tree

pub write_below-met-requires : goal.write_below-met-requires
write_below-met-requires c =
    record {
      in_tree = worked_out 1 c.args.entry_position c.deal_level-top.ensures c.requires.in_tree;
      node = c.node_in.ensures;
      fits = (omega (arith, c.requires.level_nonzero.1.up), omega arith);
    }

pub write_both-requires : goal.write_both-requires
write_both-requires c =
    let a = c.args in
    let nodes = (seen a.self.now).nodes in
    let low = c.requires.level_nonzero.0 in
    let met = c.write_below-met in
    record {
      first_in_tree = worked_out a.level a.segment.position c.deal_level-top.ensures c.requires.level_nonzero.1;
      second_in_tree = met_in c.deal_level-top.result a.level met.result.position low met.ensures.1;
      first_node = c.requires.node;
      second_node = met.ensures.0 ∙ ap (λ (k : ℕ). nodes k met.result.position) (level_is a.level low);
      fits = (omega arith, omega (arith, c.requires.level_nonzero.1.up));
    }

pub returns : goal.returns
returns c =
    let a = c.args in
    let nodes = (seen a.self.now).nodes in
    let top = deal_level (length a.self.now.bytes.now) in
    let n = c.deal_level-top.result in
    let e : n ≡ top = c.deal_level-top.ensures in
    let low = c.requires.level_nonzero.0 in
    let high : a.level ≤ n = omega (arith, c.requires.level_nonzero.1.up) in
    let met = c.write_below-met in
    let m = met.result.position in
    let each = nodes_sized a.self.now.bytes.now (option_map (λ t. t.now) a.self.now.tree) a.self.now.usable in
    let sized = path_length nodes top each in (
      c.write_both.ensures.0,
      both_from nodes a.out.now a.at a.entry_at n a.level a.segment.position a.entry_position m
          met.new.out low high (omega arith) met.ensures.2 c.write_both.ensures.1
          (sized _ (worked_out a.level a.segment.position e c.requires.level_nonzero.1))
          (sized _ (met_in n a.level m low met.ensures.1))
          (sized _ (worked_out 1 a.entry_position e c.requires.in_tree)) (omega arith) (omega arith)
          ∙ ap (λ (k : ℕ).
          splice (splice a.out.now a.at (siblings nodes (k - a.level) a.level a.segment.position))
          a.entry_at (siblings nodes (k - 1) 1 a.entry_position)) e,
    )
