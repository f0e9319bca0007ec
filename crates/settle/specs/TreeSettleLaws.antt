-- Under the premise of request (vii), that the tree is filled for the deal: settling with the tree gives the answer of
-- the plain form.
use Rattle.std.specs.Prelude.{◌≡◌, refl, true, ℕ, zero, suc, List, [], ◌∷◌, ◌++◌, length}
use Rattle.std.proofs.Math.Path.{ap}
use Rattle.std.proofs.Common.{ap₂, ◌∙◌}
use Rattle.rules.specs.Refusals.{unless_refused}
use Rattle.merkle.specs.Tree.{node_at}
use Rattle.tree.specs.TreeNodes.{tree_nodes, FilledFor}
use Rattle.paths.specs.Start.{PathStart, InTree}
use Rattle.paths.specs.Siblings.{pairs_from}
use Rattle.paths.specs.AgreeLaws.{same_pairs}
use Rattle.paths.specs.Difference.{first_difference}
use Rattle.paths.specs.DealStarts.{segment_start, entry_start}
use Rattle.sizes.specs.Sizes.{lent_size_allowed, deal_level}
use Rattle.index.specs.Slots.{entry_at}
use Rattle.record.specs.Form.{Fields, parse}
use Rattle.record.specs.Check.{DealTerms, check_of}
use Rattle.record.specs.CheckLaws.{Accepted, check_means}
use Rattle.lent.specs.LentDeal.{LentDeal, lent_deal, tree_deal, deal_refusal}
use Rattle.lent.specs.LentDealLaws.{refusal_none}
use Rattle.lent.specs.FilledLentLaws.{filled_refusal, filled_nodes}
use Rattle.builder.specs.Build.{terms_of}
use Rattle.builder.specs.BuildLaws.{in_deal, segment_start_lem, entry_start_lem}
use Rattle.builder.specs.TreeBuildLaws.{filled_terms}
use Rattle.settle.specs.Settle.{not_settled, settled_by, strings_of, strings_in, deal_strings, deal_strings_in}
use Rattle.settle.specs.Settle.{settle_with_deal}
use Rattle.settle.specs.Settle.{Settled}

-- answers behind a code that are the same where nothing is refused
unless_same : (code : ℕ) (a b : Settled) → (code ≡ 0 → a ≡ b)
    → unless_refused code not_settled a ≡ unless_refused code not_settled b
unless_same zero a b same = same refl
unless_same (suc code) a b same = refl

-- what is answered where the check refuses nothing, and where the deal is not refused
abbrev settled_strings : LentDeal → List ℕ → Settled
settled_strings deal r =
    settled_by (first_difference (strings_in (length deal.bytes) (parse r)) (deal_strings_in deal (parse r)))

abbrev checked_answer : LentDeal → List ℕ → DealTerms → Settled
checked_answer deal r terms = unless_refused (check_of terms r) not_settled (settled_strings deal r)

module _ (bytes tree : List ℕ) (f : FilledFor bytes tree) where
  abbrev size : ℕ
  size = length bytes

  -- a deal of an allowed size
  module _ (number : ℕ) (lent : lent_size_allowed size ≡ true) where
    -- its own pairs of nodes
    filled_pairs : (start : PathStart) → InTree (deal_level size) start → (ws : List (List ℕ))
        → pairs_from (tree_nodes bytes tree) start ws ≡ pairs_from (node_at bytes) start ws
    filled_pairs = same_pairs (tree_nodes bytes tree) (node_at bytes) (deal_level size) (filled_nodes bytes tree f lent)

    -- its strings along the paths of an accepted record
    filled_strings : (x : Fields) → Accepted (terms_of (lent_deal bytes) number) x
        → deal_strings (tree_deal bytes tree) x ≡ deal_strings (lent_deal bytes) x
    filled_strings x a =
        let w = in_deal size x.place x.offset x.size lent a.place_allowed_lem a.size_allowed
        a.offset_allowed_lem in
        ap₂ (λ (vs ws : List (List ℕ)). vs ++ ws)
        (filled_pairs (entry_start size x.place) (entry_start_lem w) (entry_at bytes x.place ∷ []))
        (filled_pairs (segment_start size x.offset x.size) (segment_start_lem w) [])

    same_strings : (r : List ℕ) → check_of (terms_of (lent_deal bytes) number) r ≡ 0
        → settled_strings (tree_deal bytes tree) r ≡ settled_strings (lent_deal bytes) r
    same_strings r e =
        let m = check_means (terms_of (lent_deal bytes) number) r e in
        let x = m.0 in
        rw m.1
        (ap (λ (ws : List (List ℕ)). settled_by (first_difference (strings_of size x) ws)) (filled_strings x m.2))

    same_checked : (r : List ℕ)
        → checked_answer (tree_deal bytes tree) r (terms_of (tree_deal bytes tree) number)
        ≡ checked_answer (lent_deal bytes) r (terms_of (lent_deal bytes) number)
    same_checked r =
        ap (checked_answer (tree_deal bytes tree) r) (filled_terms bytes tree f lent number)
        ∙ unless_same (check_of (terms_of (lent_deal bytes) number) r) (settled_strings (tree_deal bytes tree) r)
        (settled_strings (lent_deal bytes) r) (same_strings r)

  pub filled_settled : (number : ℕ) (r : List ℕ)
      → settle_with_deal (tree_deal bytes tree) number r ≡ settle_with_deal (lent_deal bytes) number r
  unfolding settle_with_deal
  filled_settled number r =
      let own = checked_answer (tree_deal bytes tree) r (terms_of (tree_deal bytes tree) number) in
      let plain = checked_answer (lent_deal bytes) r (terms_of (lent_deal bytes) number) in
      ap (λ (code : ℕ). unless_refused code not_settled own) (filled_refusal bytes tree f)
      ∙ unless_same (deal_refusal (lent_deal bytes)) own plain
      (λ e. same_checked number (refusal_none (lent_deal bytes) e).0 r)
