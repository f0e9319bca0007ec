use Rattle.std.specs.Prelude.{◌≡◌, ℕ, ◌*◌, ◌^◌, List, Option, Some, option_map}
use Rattle.std.proofs.Common.{sym, ap, ◌∙◌, subst}
use Rattle.std.specs.Borrow.{MutBor}
use Rattle.tree.specs.Renewed.{renewed}
use Rattle.lent.specs.LentDeal.{lent_of, tree_deal}
use Rattle.lent.specs.Usable.{Usable}
use Rattle.lent.specs.UsableLaws.{usable_size, usable_power, tree_sized_lem}
use Rattle.lent.proofs.filling.renew_tree.Goals as goal

-- with a tree the deal may be looked up beside it
beside : (deal : List ℕ) (tree : Option (MutBor (List ℕ))) (t : MutBor (List ℕ)) → tree ≡ Some t
    → Usable (lent_of deal (option_map (λ t. t.now) tree)) → Usable (tree_deal deal t.now)
beside deal tree t e u =
    subst (λ (x : Option (MutBor (List ℕ))). Usable (lent_of deal (option_map (λ t. t.now) x))) e u

pub deal_level-requires : goal.deal_level-requires
deal_level-requires c =
    (usable_size (beside c.args.deal.now c.args.tree _ c.in-Some.is c.requires.usable)).allowed

pub renew-requires-clause-deal_len : goal.renew-requires-clause-deal_len
renew-requires-clause-deal_len c =
    let u = beside c.args.deal.now c.args.tree _ c.in-Some.is c.requires.usable in (
      usable_power u ∙ ap (λ (n : ℕ). 32 * 2 ^ n) (sym c.deal_level.ensures),
      tree_sized_lem c.args.deal.now _ u,
    )

pub returns-in-Some : goal.returns-in-Some
returns-in-Some c =
    let a = c.args in
    rw c.in-Some.is
    (c.renew.ensures
    ∙ ap (λ (n : ℕ). renewed n a.deal.now c.in-Some.tree.now a.from a.len) c.deal_level.ensures)

pub returns-in_default : goal.returns-in_default
returns-in_default c = rw c.in_default.is tt
