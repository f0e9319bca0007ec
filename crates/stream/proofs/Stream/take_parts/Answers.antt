-- `take_parts`: one more part, or the refusal that it gives.
use Rattle.std.proofs.Common.{rules, sym, ap, ◌∙◌, arith}
use Rattle.rules.specs.Answers.{number}
use Rattle.rules.specs.AnswerLaws.{number_some, passed_on}
use Rattle.stream.specs.Stream.{failed_with, take_piece}
use Rattle.stream.proofs.PieceTurns.{turn_past, turn_over, turn_taken, turn_failed}
use Rattle.stream.proofs.Stream.take_parts.Goals as goal

pub returns-then-self-ge-LARGEST : goal.returns-then-self-ge-LARGEST
returns-then-self-ge-LARGEST c =
    let l = c.loop-rest in
    turn_past c.args.self.now l.self c.args.piece.now l.rest.now l.invariant.1 l.invariant.0 (omega arith) (search rules)

pub returns-in_err-take_part : goal.returns-in_err-take_part
returns-in_err-take_part c =
    let l = c.loop-rest in
    let r = c.in_err-take_part.field-0.0 in
    let some = number_some r in
    rw (passed_on c.from_residual.result r c.from_residual.ensures.1)
    (turn_failed c.args.self.now l.self c.args.piece.now l.rest.now l.invariant.1 c.part_length.result
    (failed_with (number r))
    (ap (take_piece l.self) (sym c.split_at.ensures.front) ∙ c.in_err-take_part.ensures.state_after)
    (λ z. omega (arith, some)))

pub loop-rest-preserved : goal.loop-rest-preserved
loop-rest-preserved c =
    let l = c.loop-rest in
    let next = c.take_part.new.self in (
      c.in_ok-take_part.ensures.code_stays ∙ l.invariant.0,
      turn_taken c.args.self.now l.self c.args.piece.now l.rest.now l.invariant.1 c.part_length.result next
          (ap (take_piece l.self) (sym c.split_at.ensures.front) ∙ c.in_ok-take_part.ensures.state_after)
          ∙ ap (take_piece next) (sym c.split_at.ensures.back),
    )

pub returns : goal.returns
returns c =
    let l = c.loop-rest in
    turn_over c.args.self.now l.self c.args.piece.now l.rest.now l.invariant.1 (search rules)
