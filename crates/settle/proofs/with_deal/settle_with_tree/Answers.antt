-- The deal's refusal, or else what settling over it answers.
use mathlib.Core.Path.{ap, ◌∙◌}
use native.Mathlib.Omega.{arith}
use Rattle.rules.specs.AnswerLaws.{passed_on, number_some}
use Rattle.lent.specs.LentDeal.{LentDeal, tree_deal}
use Rattle.settle.specs.Answers.{settled_answer}
use Rattle.settle.specs.Settle.{settle_with_deal}
use Rattle.settle.proofs.DealCases.{deal_refused}
use Rattle.settle.proofs.with_deal.settle_with_tree.Goals as goal

pub returns-in_err-new : goal.returns-in_err-new
returns-in_err-new c =
    let a = c.args in
    ap settled_answer (passed_on _ _ c.from_residual.ensures.1)
    ∙ deal_refused (tree_deal a.deal.now a.tree.now) a.number a.record.now c.in_err-new.ensures.code
    (λ z. let s = number_some c.in_err-new.field-0.0 in absurd (omega arith))

pub returns : goal.returns
returns c =
    let a = c.args in
    c.settle_in.ensures ∙ ap (λ (deal : LentDeal). settle_with_deal deal a.number a.record.now) c.in_ok-new.ensures.deal
