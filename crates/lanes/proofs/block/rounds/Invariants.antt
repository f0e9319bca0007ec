-- `rounds`: after some turns every lane has gone through sixteen rounds for each, and has the words of the next turn.
use Prim.Native.Nat.{◌*◌, ◌<◌}
use mathlib.Core.Path.{◌≡◌}
use lib.ListN.{length}
use Rattle.sha256.specs.Fips.{constants, schedule, rounds}
use Rattle.sha256.specs.Window.{window}
use Rattle.lanes.specs.Lanes.{lanes, lane, Each}
use Rattle.lanes.proofs.block.rounds.Given as goal

abbrev pub invariant-loop-turn : goal.invariant-loop-turn
invariant-loop-turn l =
    Each l.count 8 (λ q x. rounds constants (schedule (lane 16 l.initial.w q)) x (16 * l.turn)) l.initial.s l.s
    × (length l.w ≡ lanes * 16)
    × (l.turn < 4 → Each l.count 16 (λ q x. window x (16 * l.turn)) l.initial.w l.w)
