-- `root_of_filled`: no run, a whole one, one node, or two halves.
use mathlib.Core.Path.{sym, ap, ◌∙◌}
use Prim.Native.Nat.{ℕ, ◌*◌, ◌^◌}
use native.Mathlib.Omega.{arith}
use lib.ListN.{length, take, drop}
use borrow.Author.Tests.{eqb-true}
use Rattle.merkle.specs.Tree.{commitment_of}
use Rattle.merkle.proofs.FilledParts.{zeros_alone, no_zeros, lone_node, two, left_filled, right_filled}
use Rattle.merkle.proofs.filled.+root_of_filled.Goals as goal

pub returns-then-is_empty : goal.returns-then-is_empty
returns-then-is_empty t c =
    let run = c.args.run.now in
    c.zero_root.ensures
    ∙ zeros_alone c.args.height run (eqb-true (length run) 0 (sym c.is_empty.ensures ∙ c.if-is_empty.true))

pub returns-then-run-node_span : goal.returns-then-run-node_span
returns-then-run-node_span t c =
    let run = c.args.run.now in
    c.root.ensures
    ∙ ap (commitment_of c.args.height)
    (sym (no_zeros (32 * 2 ^ c.args.height) run (c.if-run-node_span.true ∙ c.node_span.ensures)))

pub returns-then-height-eq0 : goal.returns-then-height-eq0
returns-then-height-eq0 t c =
    c.last_node.ensures ∙ lone_node c.args.height c.args.run.now c.if-height-eq0.true

pub returns-then-run-half : goal.returns-then-run-half
returns-then-run-half t c =
    simp (c.node_hash.ensures, c.join.ensures, c.root_of_filled.ensures, c.zero_root-then-run-half.ensures)
    (left_filled c.args.height c.if-height-eq0.false c.args.run.now c.requires.1
    (omega (arith, c.if-run-half.true, c.node_span-half.ensures)))

pub root_of_filled-requires-2 : goal.root_of_filled-requires-2
root_of_filled-requires-2 t c =
    let both = two c.args.height c.if-height-eq0.false c.args.run.now c.requires.1 in (
      omega arith,
      (omega (arith, c.requires.0), omega (arith, c.split_at.ensures.back_len, c.node_span-half.ensures, c.requires.1)),
    )

pub returns : goal.returns
returns t c =
    let run = c.args.run.now in
    simp (c.node_hash-2.ensures, c.join-2.ensures, c.root-2.ensures, c.root_of_filled-2.ensures)
    (right_filled c.args.height c.if-height-eq0.false run c.requires.1 c.split_at.result.0.now c.split_at.result.1.now
    (omega (arith, c.if-run-half.false, c.node_span-half.ensures))
    (c.split_at.ensures.front ∙ ap (λ (n : ℕ). take n run) c.node_span-half.ensures)
    (c.split_at.ensures.back ∙ ap (λ (n : ℕ). drop n run) c.node_span-half.ensures))
