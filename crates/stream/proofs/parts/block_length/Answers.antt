-- `block_length`: the size is that of a block that fits.
use native.Mathlib.Omega.{arith}
use Rattle.stream.proofs.BlockSizes.{block_first, block_twice, block_some}
use Rattle.stream.proofs.parts.block_length.Goals as goal

pub loop-size-init : goal.loop-size-init
loop-size-init c =
    (omega (arith, c.requires.2), omega (arith, c.requires.0, c.requires.1), block_first c.args.count c.requires.1)

pub block_fits-requires : goal.block_fits-requires
block_fits-requires c =
    let a = c.args in
    (omega (arith, block_some a.count c.loop-size.size c.loop-size.invariant.2), omega (arith, c.requires.0))

pub loop-size-smaller : goal.loop-size-smaller
loop-size-smaller c =
    let a = c.args in
    let f = c.block_fits.ensures c.loop-size-test.true in
    omega (arith, f.0, block_some a.count c.loop-size.size c.loop-size.invariant.2)

pub loop-size-preserved : goal.loop-size-preserved
loop-size-preserved c =
    let f = c.block_fits.ensures c.loop-size-test.true in
    (f.0, f.1, block_twice c.args.count c.loop-size.size c.loop-size.invariant.2 f.2)

pub returns : goal.returns
returns c = c.loop-size.invariant
