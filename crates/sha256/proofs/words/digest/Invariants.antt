-- `digest`: after i turns the bytes of the first i words stand.
use Rattle.std.proofs.Common.{◌≡◌, ◌*◌, length, take}
use Rattle.sha256.specs.Fips.{digest_byte}
use Rattle.sha256.specs.Table.{table}
use Rattle.sha256.proofs.words.digest.Given as goal

abbrev pub invariant-loop-i : goal.invariant-loop-i
invariant-loop-i l = (length l.bytes ≡ 32) × (take (4 * l.i) l.bytes ≡ table (digest_byte l.hash) (4 * l.i))
