-- Under the premise of request (vii), that the tree is filled for the deal: building with the tree gives the record,
-- the answer and the output of the plain form.
use Rattle.std.specs.Prelude.{◌≡◌, Bool, length}
use Rattle.std.proofs.Math.Path.{refl, ap, ap₂}
use Rattle.std.proofs.Common.{◌∙◌}
use Rattle.std.proofs.Math.Bool.{true, false}
use Prim.Native.Nat.{ℕ, zero, suc}
use native.Mathlib.Omega.{arith}
use mathlib.Core.List.{List, [], ◌∷◌, ◌++◌}
use Rattle.rules.specs.Refusals.{Rule, rule, first_refusal, unless_refused}
use Rattle.rules.specs.RefusalLaws.{none_refused}
use Rattle.merkle.specs.Tree.{node_at}
use Rattle.paths.specs.Start.{PathStart, path_start, InTree}
use Rattle.paths.specs.Siblings.{siblings_from}
use Rattle.paths.specs.AgreeLaws.{same_siblings}
use Rattle.paths.specs.DealStarts.{segment_start, entry_start}
use Rattle.sizes.specs.Sizes.{lent_size_allowed, place_allowed, deal_level}
use Rattle.entries.specs.Entry.{commitment_in, offset_in, size_in}
use Rattle.tree.specs.TreeNodes.{tree_nodes, FilledFor}
use Rattle.lent.specs.LentDeal.{lent_deal, tree_deal}
use Rattle.lent.specs.FilledLentLaws.{filled_rules, filled_nodes}
use Rattle.index.specs.Slots.{entry_at}
use Rattle.index.specs.SlotsLaws.{keeps}
use Rattle.index.specs.FilledKeptLaws.{filled_kept}
use Rattle.record.specs.Form.{Fields, fields, encode}
use Rattle.record.specs.Check.{deal_terms}
use Rattle.builder.specs.Build.{terms_of, fields_for, Building, built, not_built, build_rules, record_at}
use Rattle.builder.specs.Build.{answer_for, output_for, build_answer, build_output}
use Rattle.builder.specs.BuildLaws.{InDeal, in_deal, segment_start_lem, entry_start_lem}

module _ (bytes tree : List ℕ) (f : FilledFor bytes tree) where
  abbrev size : ℕ
  size = length bytes

  -- a deal of an allowed size
  module _ (lent : lent_size_allowed size ≡ true) where
    -- the deal's commitment
    pub filled_terms : (number : ℕ) → terms_of (tree_deal bytes tree) number ≡ terms_of (lent_deal bytes) number
    filled_terms number =
        ap (λ (node : List ℕ). deal_terms node size number)
        (filled_nodes bytes tree f lent (path_start 0 (deal_level size) 0)
        (record { up = omega arith; among = omega arith }))

    -- its Merkle paths
    pub filled_siblings : (start : PathStart) → InTree (deal_level size) start
        → siblings_from (tree_nodes bytes tree) start ≡ siblings_from (node_at bytes) start
    filled_siblings =
        same_siblings (tree_nodes bytes tree) (node_at bytes) (deal_level size) (filled_nodes bytes tree f lent)

    same_rules : (place : ℕ) → build_rules (tree_deal bytes tree) place ≡ build_rules (lent_deal bytes) place
    same_rules place =
        ap₂ (λ (rules : List Rule) (is_kept : Bool). rules ++ (rule (place_allowed size place) 6 ∷ rule is_kept 16 ∷ []))
        (filled_rules bytes tree f) (filled_kept bytes tree f lent (entry_at bytes place))

    same_fields : (number : ℕ) (entry : List ℕ) (place : ℕ) → InDeal size place (offset_in entry) (size_in entry)
        → fields_for (tree_deal bytes tree) number entry place ≡ fields_for (lent_deal bytes) number entry place
    unfolding fields_for
    same_fields number entry place w =
        ap₂ (λ (segment_path entry_path : List ℕ).
        fields (commitment_in entry) (offset_in entry) (size_in entry) place segment_path entry_path number)
        (filled_siblings (segment_start size (offset_in entry) (size_in entry)) (segment_start_lem w))
        (filled_siblings (entry_start size place) (entry_start_lem w))

    same_built : (number place : ℕ)
        → record_at (tree_deal bytes tree) number place ≡ record_at (lent_deal bytes) number place
    unfolding record_at
    same_built number place =
        let e = entry_at bytes place in
        ap (λ (rules : List Rule). unless_refused (first_refusal rules) not_built
        (built (encode (fields_for (tree_deal bytes tree) number e place)))) (same_rules place)
        ∙ go (first_refusal (build_rules (lent_deal bytes) place)) refl
      where
        go : (code : ℕ) → first_refusal (build_rules (lent_deal bytes) place) ≡ code
            → unless_refused code not_built
            (built (encode (fields_for (tree_deal bytes tree) number (entry_at bytes place) place)))
            ≡ unless_refused code not_built
            (built (encode (fields_for (lent_deal bytes) number (entry_at bytes place) place)))
        go zero q =
            let e = entry_at bytes place in
            let a = none_refused (build_rules (lent_deal bytes) place)
            (omega arith, (omega arith, (omega arith, (omega arith, (omega arith, tt))))) q in
            let s = (keeps (node_at bytes) size e a.1.1.1.1.0).is_standing in
            let w = in_deal size place (offset_in e) (size_in e) lent a.1.1.1.0 s.size_allowed
            s.offset_allowed_lem in
            ap (λ (x : Fields). built (encode x)) (same_fields number e place w)
        go (suc code) q = refl

  -- a deal of any size: 2 where it is not allowed
  pub filled_record : (number place : ℕ)
      → record_at (tree_deal bytes tree) number place ≡ record_at (lent_deal bytes) number place
  unfolding record_at
  filled_record number place = by (lent_size_allowed size) refl
    where
      by : (allowed : Bool) → lent_size_allowed size ≡ allowed
          → record_at (tree_deal bytes tree) number place ≡ record_at (lent_deal bytes) number place
      by true e = same_built e number place
      by false e = rw e

  module _ (number place : ℕ) (out : List ℕ) where
    pub filled_answer : build_answer (tree_deal bytes tree) number place out
        ≡ build_answer (lent_deal bytes) number place out
    unfolding build_answer
    filled_answer = ap (λ (b : Building). answer_for b out) (filled_record number place)

    pub filled_output : build_output (tree_deal bytes tree) number place out
        ≡ build_output (lent_deal bytes) number place out
    unfolding build_output
    filled_output = ap (λ (b : Building). output_for b out) (filled_record number place)
