-- `rounds`: after some turns the working variables are those after sixteen rounds for each, and the words are those of
-- the last turn.
use Rattle.std.proofs.Common.{◌≡◌, ℕ, ◌+◌, ◌-◌, ◌*◌, ◌≤◌, List, length, get_or, take, drop, refl, ap, ◌∙◌, arith, rules}
use Rattle.sha256.specs.Fips.{constants, schedule_to, schedule, rounds}
use Rattle.sha256.specs.Window.{window}
use Rattle.sha256.specs.BlockLaws.{rounds_turn}
use Rattle.sha256.specs.WindowLaws.{window_next, window_word}
use Rattle.sha256.proofs.block.rounds.Goals as goal

pub loop-turn-init : goal.loop-turn-init
unfolding window schedule_to
loop-turn-init c = (omega arith, omega arith, λ h e. e, refl)

-- the words of a turn
words_of : (m w : List ℕ) (turn : ℕ) → 1 ≤ turn → w ≡ window m (16 * (turn - 1)) → window w 16 ≡ window m (16 * turn)
words_of m w turn one e =
    let next : turn - 1 + 1 ≡ turn = omega arith in
    window_next m w (turn - 1) e ∙ ap (λ (t : ℕ). window m (16 * t)) next

-- the first sixteen rounds
first : (m h c r : List ℕ) → length m ≡ 16 → c ≡ take 16 (drop (16 * 0) constants) → r ≡ rounds c m h 16
    → r ≡ rounds constants (schedule m) h 16
unfolding window schedule_to rounds
first m h c r l ec er =
    rounds_turn constants (schedule m) h h c m r 0 refl ec (λ i b. window_word m 0 i l (omega arith) b) er

pub loop-turn-preserved : goal.loop-turn-preserved
loop-turn-preserved c =
    let l = c.loop-turn in
    let m = c.args.block in
    let words = words_of m l.w l.turn l.invariant.0 l.invariant.3 in
    let last : l.turn ≡ l.turn + 1 - 1 = omega arith in (
      omega arith,
      omega arith,
      λ h e. rounds_turn constants (schedule m) h l.s _ (window l.w 16) _ l.turn (l.invariant.2 h e)
          c.constants-in-loop-turn.ensures
          (λ i b. ap (λ (w : List ℕ). get_or w i 0) words ∙ window_word m (16 * l.turn) i (search rules) (omega arith) b)
          (c.sixteen_rounds-after.ensures ∙ ap (λ (v : List ℕ). rounds c.constants-in-loop-turn.result v l.s 16) c.next_words-words.ensures),
      c.next_words-words.ensures ∙ words ∙ ap (λ (t : ℕ). window m (16 * t)) last,
    )

pub returns : goal.returns
returns c =
    let l = c.loop-turn in
    let a = c.args in
    let e : l.turn ≡ 4 = omega arith in
    rw e
    at (l.invariant.2 a.hash
    (first a.block a.hash _ _ (search rules) c.constants.ensures
    c.sixteen_rounds-s.ensures))
