use Rattle.std.proofs.Common.{◌≡◌, refl, ap, ◌∙◌, List, ℕ, length, arith, Some}
use Rattle.sizes.specs.Sizes.{deal_level}
use Rattle.tree.specs.Renewed.{renewed}
use Rattle.lent.specs.UsableLaws.{usable_same}
use Rattle.booking.proofs.booking.renew_written.Goals as goal

pub renew_tree-requires : goal.renew_tree-requires
renew_tree-requires c =
    let p = c.requires.within in
    record { usable = c.requires.usable; len_nonzero = (p.0, p.1) }

-- the first of the two leaves a tree of the same length
pub renew_tree-requires-2 : goal.renew_tree-requires-2
renew_tree-requires-2 c =
    let a = c.args in
    let sized : length c.renew_tree.new.tree.0 ≡ length a.tree.now = c.renew_tree.auto.tree.0 in
    record {
      usable = usable_same a.deal.now (Some a.tree.now) a.deal.now (Some c.renew_tree.new.tree.0) refl
          (ap Some sized) c.requires.usable;
      len_nonzero = (omega arith, c.requires.within.2);
    }

pub returns : goal.returns
returns c =
    let d = c.args.deal.now in
    c.renew_tree-2.ensures
    ∙ ap (λ (x : List ℕ). renewed (deal_level (length d)) d x c.args.at.place 64) c.renew_tree.ensures
