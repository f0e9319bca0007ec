-- `plain_root`: one node, or the node over the commitments of the halves.
use native.Mathlib.Omega.{arith}
use mathlib.Core.Path.{ap, ◌∙◌}
use lib.ListN.{length}
use Rattle.octets.specs.SpliceLaws.{part_whole}
use Rattle.merkle.specs.Tree.{commitment_of}
use Rattle.merkle.proofs.Cuts.{one_node, half_sized, two_halves, over_both}
use Rattle.merkle.proofs.tree.+plain_root.Goals as goal

pub returns-then-height-eq0 : goal.returns-then-height-eq0
returns-then-height-eq0 t c =
    let run = c.args.run.now in
    c.array_at.ensures
    ∙ one_node c.args.height (length run) c.requires c.if-height-eq0.true run 0
    ∙ ap (commitment_of c.args.height) (part_whole run)

pub plain_root-left-requires : goal.plain_root-left-requires
plain_root-left-requires t c = (
  omega arith,
  c.split_at.ensures.front_len ∙ half_sized c.args.height (length c.args.run.now) c.requires c.if-height-eq0.false,
)

pub plain_root-right-requires : goal.plain_root-right-requires
plain_root-right-requires t c =
    let run = c.args.run.now in
    let e = two_halves c.args.height (length run) c.requires c.if-height-eq0.false in
    let h = half_sized c.args.height (length run) c.requires c.if-height-eq0.false in
    (omega arith, omega (arith, c.split_at.ensures.back_len))

pub returns : goal.returns
returns t c =
    simp (c.node_hash.ensures, c.join.ensures, c.plain_root-right.ensures, c.plain_root-left.ensures)
    (over_both c.args.height c.args.run.now c.split_at.result.0.now c.split_at.result.1.now c.requires
    c.if-height-eq0.false c.split_at.ensures.front c.split_at.ensures.back)
