-- `hash_value`: before block i the hash value is that after the blocks below it.
use Rattle.std.proofs.Common.{◌≡◌, ◌/◌, length, refl, arith}
use Rattle.sha256.specs.Fips.{pad, hash_value}
use Rattle.sha256.specs.BlockLaws.{hash_next}
use Rattle.sha256.specs.PaddingLaws.{pad_length}
use Rattle.sha256.proofs.padding.hash_value.Goals as goal

pub loop-i-init : goal.loop-i-init
unfolding hash_value
loop-i-init c = refl

pub loop-i-preserved : goal.loop-i-preserved
loop-i-preserved c =
    hash_next _ _ _ _ c.loop-i.i c.loop-i.invariant c.padded_block.ensures c.compress-next.ensures

pub returns : goal.returns
returns c =
    let m = c.args.m.now in
    let e : c.loop-i.i ≡ length (pad m) / 64 = omega (arith, pad_length m) in
    rw e at c.loop-i.invariant
