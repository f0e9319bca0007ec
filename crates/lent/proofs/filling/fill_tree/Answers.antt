use Rattle.std.specs.Prelude.{◌≡◌, ◌≢◌, ℕ, ◌*◌, ◌^◌, List}
use Rattle.std.proofs.Common.{sym, ap, ◌∙◌, arith}
use Rattle.rules.specs.Answers.{number}
use Rattle.rules.specs.AnswerLaws.{number_some}
use Rattle.rules.specs.declared.Refusal.{Refusal}
use Rattle.lent.specs.LentDeal.{tree_deal, deal_refusal}
use Rattle.lent.specs.LentDealLaws.{usable}
use Rattle.lent.specs.Usable.{Usable}
use Rattle.lent.specs.UsableLaws.{usable_size, usable_power, tree_sized_lem}
use Rattle.lent.specs.FilledTreeLaws.{not_filled, is_filled}
use Rattle.tree.specs.Filled.{filled}
use Rattle.lent.proofs.filling.fill_tree.Goals as goal

-- nothing refuses
fine : (deal tree : List ℕ) → 0 ≡ deal_refusal (tree_deal deal tree) → Usable (tree_deal deal tree)
fine deal tree e = usable (tree_deal deal tree) (sym e)

-- something refuses
refused : {code : ℕ} (r : Refusal) → number r ≡ code → code ≢ 0
refused r e z = let s = number_some r in omega arith

pub returns-in_err-new-clause-tree_after : goal.returns-in_err-new-clause-tree_after
returns-in_err-new-clause-tree_after c =
    sym (not_filled c.args.deal.now c.args.tree.now (refused _ c.in_err-new.ensures.code))

pub deal_level-requires : goal.deal_level-requires
deal_level-requires c =
    (usable_size (fine c.args.deal.now c.args.tree.now c.in_ok-new.ensures.code)).allowed

pub fill-requires : goal.fill-requires
fill-requires c =
    let u = fine c.args.deal.now c.args.tree.now c.in_ok-new.ensures.code in (
      usable_power u ∙ ap (λ (n : ℕ). 32 * 2 ^ n) (sym c.deal_level.ensures),
      tree_sized_lem c.args.deal.now c.args.tree.now u,
    )

pub returns-clause-tree_after : goal.returns-clause-tree_after
returns-clause-tree_after c =
    c.fill.ensures ∙ ap (λ (n : ℕ). filled n c.args.deal.now) c.deal_level.ensures
    ∙ sym (is_filled c.args.deal.now c.args.tree.now (sym c.in_ok-new.ensures.code))
