-- `rounds`: after some turns the working variables are those after sixteen rounds for each, and the words are those of
-- the last turn.
use Rattle.std.proofs.Common.{◌≡◌, ℕ, ◌-◌, ◌*◌, ◌≤◌, List}
use Rattle.sha256.specs.Fips.{constants, schedule, rounds}
use Rattle.sha256.specs.Window.{window}
use Rattle.sha256.proofs.block.rounds.Given as goal

abbrev pub invariant-loop-turn : goal.invariant-loop-turn
invariant-loop-turn l =
    (1 ≤ l.turn)
    × (l.turn ≤ 4)
    × ((h : List ℕ) → l.initial.s ≡ rounds constants (schedule l.initial.w) h 16 → l.s ≡ rounds constants (schedule l.initial.w) h (16 * l.turn))
    × (l.w ≡ window l.initial.w (16 * (l.turn - 1)))

abbrev pub decreases-loop-turn : goal.decreases-loop-turn
decreases-loop-turn l = 4 - l.turn
