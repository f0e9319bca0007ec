-- `hash_value`: before block i the hash value is that after the blocks below it.
use Rattle.std.proofs.Common.{◌≡◌}
use Rattle.sha256.specs.Fips.{pad, hash_value}
use Rattle.sha256.proofs.padding.hash_value.Given as goal

abbrev pub invariant-loop-i : goal.invariant-loop-i
invariant-loop-i l = l.hash ≡ hash_value (pad l.m) l.i
