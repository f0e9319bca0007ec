-- Cancelling with a tree beside the deal (document 02, request (vii)). Whatever the buffer held: on a refusal it is as
-- it was; else every node above the 64 bytes is worked out from its children as they then stand, and every other node
-- stands as it did. With a tree that holds the deal's nodes: code, deal and table of owners are those of the plain
-- form, and the tree then holds the nodes of the deal as it then is.
use Rattle.std.specs.Prelude.{◌≡◌, refl, ◌≢◌, ℕ, ◌+◌, ◌≤◌, List, length, replicate}
use Rattle.std.proofs.Math.Path.{ap}
use Rattle.std.proofs.Common.{◌∙◌, arith}
use Rattle.std.proofs.Math.Decide.{ℕ_discrete}
use Rattle.rules.specs.Refusals.{unless_refused}
use Rattle.octets.specs.SpliceLaws.{length_splice}
use Rattle.sizes.specs.Sizes.{deal_level}
use Rattle.sizes.specs.SizesLaws.{DealSize, entry_place}
use Rattle.tree.specs.TreeNodes.{FilledFor}
use Rattle.tree.specs.Renewed.{above, renewed, RenewedBy}
use Rattle.tree.specs.RenewedLaws.{renewed_by}
use Rattle.tree.specs.KeepLaws.{renewed_filled}
use Rattle.lent.specs.LentDeal.{LentDeal, lent_deal, tree_deal}
use Rattle.lent.specs.LentDealLaws.{usable, answer_refused}
use Rattle.lent.specs.UsableLaws.{tree_sized_lem}
use Rattle.lent.specs.FilledLentLaws.{filled_sized}
use Rattle.index.specs.Written.{slot_of}
use Rattle.houses.specs.Houses.{with_owner}
use Rattle.cancel.specs.Cancel.{cancel_code, without_entry, cancelled_deal, cancelled_table, cancelled_tree}
use Rattle.cancel.specs.Cancels.{Cancels}
use Rattle.cancel.proofs.CancelLaws.{cancels, code_cong, refused_same, cancelled_sized, cancelled_at}

module _ (deal tree table : List ℕ) (house place : ℕ) where
  abbrev beside : LentDeal
  beside = tree_deal deal tree

  -- any code but 0 leaves the tree as it is
  pub refused_tree : cancel_code (tree_deal deal tree) table house place ≢ 0
      → cancelled_tree deal tree table house place ≡ tree
  unfolding cancelled_tree
  refused_tree h =
      answer_refused (λ (code : ℕ). tree) (renewed (deal_level (length deal)) (without_entry deal place) tree place 64)
      (cancel_code beside table house place) h

  -- with code 0
  module _ (e : cancel_code (tree_deal deal tree) table house place ≡ 0) where
    pub tree_is : cancelled_tree deal tree table house place
        ≡ renewed (deal_level (length deal)) (without_entry deal place) tree place 64
    unfolding cancelled_tree
    tree_is = rw e

    facts : Cancels beside table house place
    facts = (cancels beside table house place).0 e

    sized : DealSize (length deal)
    sized = cancelled_sized beside table house place e

    within : place + 64 ≤ length deal
    within = (entry_place (length deal) place sized facts.place_allowed_lem).in_deal

    -- whatever the buffer held
    pub tree_renewed :
        RenewedBy (above place 64) (cancelled_deal (tree_deal deal tree) table house place) tree
        (cancelled_tree deal tree table house place)
    tree_renewed =
        let l : length (without_entry deal place) ≡ length deal = length_splice deal place (replicate 64 0) within in
        let tree_length = tree_sized_lem deal tree (usable beside facts.not_refused) in
        rw (cancelled_at beside table house place e, tree_is)
        (renewed_by (without_entry deal place) place 64 (omega arith) (omega (arith, within)) (deal_level (length deal))
        tree (l ∙ sized.is_power_lem) (omega arith))

    filled_anew : FilledFor deal tree
        → FilledFor (cancelled_deal beside table house place) (cancelled_tree deal tree table house place)
    filled_anew f =
        rw (cancelled_at beside table house place e, tree_is)
        (renewed_filled deal tree (replicate 64 0) place within f (deal_level (length deal)) sized.is_power_lem
        (omega arith))

-- the tree is filled for the deal
module _ (deal tree : List ℕ) (f : FilledFor deal tree) (table : List ℕ) (house place : ℕ) where
  pub same_code : cancel_code (tree_deal deal tree) table house place ≡ cancel_code (lent_deal deal) table house place
  same_code =
      code_cong (tree_deal deal tree) (lent_deal deal) table house place refl refl (filled_sized deal tree f)
      (λ p. refl)

  pub same_deal :
      cancelled_deal (tree_deal deal tree) table house place ≡ cancelled_deal (lent_deal deal) table house place
  unfolding cancelled_deal
  same_deal = ap (λ (code : ℕ). unless_refused code (λ (c : ℕ). deal) (without_entry deal place)) same_code

  pub same_table :
      cancelled_table (tree_deal deal tree) table house place ≡ cancelled_table (lent_deal deal) table house place
  unfolding cancelled_table
  same_table =
      ap (λ (code : ℕ).
      unless_refused code (λ (c : ℕ). table) (with_owner table (slot_of (length deal) place) 0)) same_code

  pub cancelled_filled :
      FilledFor (cancelled_deal (tree_deal deal tree) table house place) (cancelled_tree deal tree table house place)
  cancelled_filled =
      elim (ℕ_discrete (cancel_code (tree_deal deal tree) table house place) 0) [
        | yes e ↦ filled_anew deal tree table house place e f
        | no h ↦ rw (
          refused_same (tree_deal deal tree) table house place h,
          refused_tree deal tree table house place h,
        ) f
      ]
