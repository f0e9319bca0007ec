-- `part_length`: a block, or the bytes up to the end of the node, or all that are left.
use Prim.Native.Nat.{ℕ, ◌-◌, ◌%◌}
use native.Mathlib.Omega.{arith}
use Rattle.stream.proofs.BlockSizes.{part_of_block, part_of_node}
use Rattle.stream.proofs.parts.part_length.Goals as goal

pub returns-then-count-eq0 : goal.returns-then-count-eq0
returns-then-count-eq0 c =
    let b = c.block_length.ensures in
    (b.0, part_of_block c.args.count c.block_length.result b.2 b.1)

pub returns-then-left-rest : goal.returns-then-left-rest
returns-then-left-rest c =
    (omega arith, part_of_node c.args.count c.args.left c.requires.0 c.requires.1 (omega (arith, c.if-left-rest.true)))

pub returns : goal.returns
returns c =
    let rest : ℕ = 32 - c.args.count % 32 in
    (omega (arith, c.if-left-rest.false), part_of_node c.args.count rest c.requires.0 (omega arith) (omega arith))
