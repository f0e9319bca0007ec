-- What is written so far is the string's beginning, for each string that the two routines tell.
use Rattle.std.proofs.Common.{◌≡◌, ℕ, List, ◌*◌, length, take}
use Rattle.octets.specs.Splice.{splice}
use Rattle.fr32.specs.Writing.{GivesWords, GivesBytes}
use Rattle.fr32.proofs.writing.write.Given as goal

abbrev pub invariant-loop-w : goal.invariant-loop-w
invariant-loop-w g l =
    (s : List ℕ) → length s ≡ l.n → GivesWords (goal.W-post g l.word) l.words s
    → l.output ≡ splice l.fn.output 0 (take (8 * l.w) s)

abbrev pub invariant-loop-q : goal.invariant-loop-q
invariant-loop-q g l =
    (s : List ℕ) → length s ≡ l.n → GivesWords (goal.W-post g l.word) l.words s → GivesBytes (goal.B-post g l.byte) l.n s
    → l.output ≡ splice l.fn.output 0 (take l.q s)
