use Rattle.std.proofs.Common.{sym, ap, ◌∙◌, List, ℕ, length, arith}
use Rattle.rules.specs.AnswerLaws.{code_passed_on}
use Rattle.octets.specs.Splice.{splice}
use Rattle.sizes.specs.Sizes.{entry_count}
use Rattle.lent.specs.LentDeal.{LentDeal}
use Rattle.audit.specs.Audit.{slot_states}
use Rattle.audit.specs.AuditLaws.{audit_short, states_left, states_written}
use Rattle.audit.proofs.Judged.{deal_refuses, some_number, none_refuses}
use Rattle.audit.proofs.audit.Goals as goal

pub returns-in_err-lent-clause-value : goal.returns-in_err-lent-clause-value
returns-in_err-lent-clause-value c =
    code_passed_on c.from_residual.result c.in_err-lent.field-0.0 c.from_residual.ensures.1
    ∙ deal_refuses c.args.deal.now c.args.states.now c.in_err-lent.field-0.0 c.in_err-lent.ensures.code

pub returns-in_err-lent-clause-states_after : goal.returns-in_err-lent-clause-states_after
returns-in_err-lent-clause-states_after c =
    sym
    (states_left c.args.deal.now c.args.states.now
    (λ z. some_number c.in_err-lent.field-0.0
    (deal_refuses c.args.deal.now c.args.states.now c.in_err-lent.field-0.0 c.in_err-lent.ensures.code ∙ z)))

-- the deal is not refused
pub returns-then-states-entry_count-clause-value : goal.returns-then-states-entry_count-clause-value
returns-then-states-entry_count-clause-value c =
    sym
    (audit_short c.args.deal.now c.args.states.now (sym c.in_ok-lent.ensures.code)
    (omega (arith, c.entry_count.ensures)))

pub returns-then-states-entry_count-clause-states_after : goal.returns-then-states-entry_count-clause-states_after
returns-then-states-entry_count-clause-states_after c =
    let code = audit_short c.args.deal.now c.args.states.now (sym c.in_ok-lent.ensures.code)
    (omega (arith, c.entry_count.ensures)) in
    sym (states_left c.args.deal.now c.args.states.now (λ z. omega arith))

-- nor is the buffer
pub returns-clause-value : goal.returns-clause-value
returns-clause-value c =
    sym
    (none_refuses c.args.deal.now c.args.states.now (sym c.in_ok-lent.ensures.code)
    (omega (arith, c.entry_count.ensures)))

pub returns-clause-states_after : goal.returns-clause-states_after
returns-clause-states_after c =
    let states = c.args.states.now in
    c.write_states.ensures
    ∙ ap (λ (x : LentDeal). splice states 0 (slot_states x.bytes (entry_count (length x.bytes))))
    c.in_ok-lent.ensures.deal
    ∙ sym
    (states_written c.args.deal.now states
    (none_refuses c.args.deal.now states (sym c.in_ok-lent.ensures.code) (omega (arith, c.entry_count.ensures))))
