-- The record's segment path against the deal's own pairs.
use mathlib.Core.Path.{◌≡◌, refl, sym, ap, ◌∙◌, subst}
use Prim.Native.Nat.{ℕ, ◌/◌, ◌≤◌}
use native.Mathlib.Omega.{arith}
use mathlib.Core.List.{List}
use lib.ListN.{length}
use Rattle.paths.specs.Start.{path_start, InTree}
use Rattle.paths.specs.Siblings.{node_from, siblings_from}
use Rattle.paths.specs.Compare.{equal}
use Rattle.paths.specs.CompareBelow.{shown}
use Rattle.paths.specs.Difference.{first_difference}
use Rattle.paths.specs.CompareOwn.{compared_with_own}
use Rattle.paths.specs.DealStarts.{segment_start}
use Rattle.sizes.specs.Sizes.{deal_level, area, segment_level, segment_position}
use Rattle.record.specs.Form.{Fields}
use Rattle.record.specs.CheckLaws.{Accepted}
use Rattle.record.specs.Answers.{read_fields}
use Rattle.lent.specs.LentDeal.{LentDeal, deal_size, deal_refusal}
use Rattle.lent.specs.Seen.{seen}
use Rattle.builder.specs.Build.{terms_of}
use Rattle.builder.specs.BuildLaws.{segment_start_lem}
use Rattle.settle.proofs.DealCases.{inside, segment_levels, segments_found_lem}
use Rattle.settle.proofs.with_deal.compare_deal_segment.Goals as goal

-- the start of the deal's own path is that of the record's, as it is worked out
start_is : (deal : LentDeal) → deal_refusal deal ≡ 0 → {x : Fields} → Accepted (terms_of deal x.number) x
    → {path : List ℕ} {level position : ℕ} → path ≡ x.segment_path → level ≡ segment_level x.size
    → position ≡ segment_position x.offset x.size
    → path_start (length path / 32) level position ≡ segment_start (deal_size deal) x.offset x.size
start_is deal fine a p l q =
    let levels = ap (λ (s : List ℕ). length s / 32) p ∙ segment_levels deal fine a in
    λ i. path_start (levels i) (l i) (q i)

pub segment_level-level-requires : goal.segment_level-level-requires
segment_level-level-requires c =
    let a = c.args in
    (inside (seen a.deal.now) c.requires.0 c.requires.1).size_is.level_low

pub segment_position-position-requires : goal.segment_position-position-requires
segment_position-position-requires c =
    let a = c.args in
    let z : 128 ≤ area a.x.now.size =
    (inside (seen a.deal.now) c.requires.0 c.requires.1).size_is.area_low in
    omega arith

pub compare_with_own-requires : goal.compare_with_own-requires
compare_with_own-requires c =
    let a = c.args in
    let deal = seen a.deal.now in
    let taken = c.requires.1 in
    let back = sym (start_is deal c.requires.0 taken refl c.segment_level-level.ensures
    c.segment_position-position.ensures) in
    record {
      in_tree = subst (InTree (deal_level (deal_size deal))) back
          (segment_start_lem (inside deal c.requires.0 taken));
      own_node_value = c.requires.2 ∙ ap (node_from deal.nodes) back;
      own_value = c.requires.3 ∙ ap (siblings_from deal.nodes) back;
    }

pub returns : goal.returns
unfolding first_difference
returns c =
    let a = c.args in
    let deal = seen a.deal.now in
    let x = read_fields a.x.now in
    let taken = c.requires.1 in
    let e = start_is deal c.requires.0 taken refl c.segment_level-level.ensures
    c.segment_position-position.ensures in
    c.difference.ensures
    ∙ shown _
    (c.compare_with_own.ensures
    ∙ (λ i. compared_with_own deal.nodes (e i).levels (e i).level (e i).position x.commitment
    x.segment_path equal)
    ∙ segments_found_lem deal c.requires.0 taken)
