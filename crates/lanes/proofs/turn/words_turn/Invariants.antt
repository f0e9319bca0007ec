-- `words_turn`: the lanes below l are done.
use Rattle.lanes.proofs.EachLaws.{Below}
use Rattle.sha256.specs.Window.{window}
use Rattle.lanes.proofs.turn.words_turn.Given as goal

abbrev pub invariant-loop-l : goal.invariant-loop-l
invariant-loop-l l = Below 16 (λ q x. window x 16) l.initial.w l.l l.w
