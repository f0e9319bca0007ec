-- `renew`: all heights over the buffer as it was are what is left of them over the buffer as it is.
use mathlib.Core.Path.{◌≡◌}
use Prim.Native.Nat.{◌-◌, ◌*◌, ◌^◌}
use Rattle.tree.specs.Renewed.{renewed_up, renewed}
use Rattle.tree.proofs.renewal.renew.Given as goal

abbrev pub invariant-loop-below : goal.invariant-loop-below
invariant-loop-below l =
    (l.span ≡ 32 * 2 ^ l.below)
    × (renewed l.top l.deal l.initial.tree l.from l.len
    ≡ renewed_up l.deal l.tree l.from l.len l.below (l.top - l.below))
