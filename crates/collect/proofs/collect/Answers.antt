use Rattle.std.proofs.Common.{◌≡◌, ◌≢◌, sym, ◌∙◌, ℕ, arith}
use Rattle.rules.specs.Answers.{number}
use Rattle.rules.specs.AnswerLaws.{number_some}
use Rattle.rules.specs.declared.Refusal.{Refusal}
use Rattle.lent.specs.LentDeal.{lent_deal}
use Rattle.collect.specs.AnswerLaws.{deal_collected, deal_left, owners_collected, owners_left}
use Rattle.collect.proofs.CodeLaws.{collects}
use Rattle.collect.proofs.Outcome.{movable}
use Rattle.collect.proofs.collect.Goals as goal

-- something refuses
refused : {code : ℕ} (r : Refusal) → number r ≡ code → code ≢ 0
refused r e z = let s = number_some r in omega arith

pub returns-in_err-refusal-clause-second_after : goal.returns-in_err-refusal-clause-second_after
returns-in_err-refusal-clause-second_after c =
    let a = c.args in
    sym (deal_left a.deal.now a.table.now (lent_deal a.second.now) a.second_table.now (refused _ c.in_err-refusal.ensures))

pub returns-in_err-refusal-clause-second_table_after : goal.returns-in_err-refusal-clause-second_table_after
returns-in_err-refusal-clause-second_table_after c =
    let a = c.args in
    sym (owners_left a.deal.now a.table.now (lent_deal a.second.now) a.second_table.now (refused _ c.in_err-refusal.ensures))

pub write_new-requires : goal.write_new-requires
write_new-requires c =
    let a = c.args in
    movable a.deal.now a.table.now (lent_deal a.second.now) a.second_table.now
    ((collects a.deal.now a.table.now (lent_deal a.second.now) a.second_table.now).0 (sym c.in_ok-refusal.ensures))

pub returns-clause-second_after : goal.returns-clause-second_after
returns-clause-second_after c =
    let a = c.args in
    c.write_new.ensures.deal_written
    ∙ sym (deal_collected a.deal.now a.table.now (lent_deal a.second.now) a.second_table.now (sym c.in_ok-refusal.ensures))

pub returns-clause-second_table_after : goal.returns-clause-second_table_after
returns-clause-second_table_after c =
    let a = c.args in
    c.write_new.ensures.table_written
    ∙ sym (owners_collected a.deal.now a.table.now (lent_deal a.second.now) a.second_table.now (sym c.in_ok-refusal.ensures))
