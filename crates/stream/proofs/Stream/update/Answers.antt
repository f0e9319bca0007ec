use mathlib.Core.Path.{sym}
use Rattle.stream.specs.StreamLaws.{piece_after_failure}
use Rattle.stream.proofs.Stream.update.Goals as goal

pub returns-then-self-ne0 : goal.returns-then-self-ne0
returns-then-self-ne0 c = sym (piece_after_failure c.args.self.now c.args.piece.now c.if-self-ne0.true)
