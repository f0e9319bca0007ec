-- `no_stray_bits`: the nodes up to i are passed, and the rest decides.
use mathlib.Core.Path.{◌≡◌}
use Prim.Native.Nat.{◌-◌, ◌*◌, ◌/◌}
use lib.ListN.{length, drop}
use Rattle.stray.specs.StrayBits.{clear_nodes}
use Rattle.stray.proofs.no_stray_bits.Given as goal

abbrev pub invariant-loop-i : goal.invariant-loop-i
invariant-loop-i l = clear_nodes (length l.run / 32) l.run ≡ clear_nodes (length l.run / 32 - l.i) (drop (l.i * 32) l.run)
