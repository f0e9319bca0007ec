-- The record's entry against the 64 bytes at its place, and its entry path against the deal's own pairs.
use mathlib.Core.Path.{◌≡◌, refl, sym, ap, ◌∙◌, subst}
use Prim.Native.Nat.{ℕ, ◌/◌}
use native.Mathlib.Omega.{arith}
use mathlib.Core.List.{List, [], ◌∷◌}
use lib.ListN.{length}
use Rattle.node.specs.Node.{node_hash}
use Rattle.paths.specs.Start.{PathStart, path_start, InTree}
use Rattle.paths.specs.Siblings.{siblings_from}
use Rattle.paths.specs.Difference.{first_difference}
use Rattle.paths.specs.Compare.{compared}
use Rattle.paths.specs.CompareOwn.{compared_with_own}
use Rattle.paths.specs.CompareBelow.{shown}
use Rattle.paths.specs.DealStarts.{entry_start}
use Rattle.sizes.specs.Sizes.{deal_level, entry_position}
use Rattle.record.specs.Form.{Fields}
use Rattle.record.specs.CheckLaws.{Accepted}
use Rattle.record.specs.Answers.{read_fields}
use Rattle.lent.specs.LentDeal.{LentDeal, deal_size, deal_refusal}
use Rattle.lent.specs.Seen.{seen}
use Rattle.builder.specs.Build.{terms_of}
use Rattle.builder.specs.BuildLaws.{entry_start_lem}
use Rattle.settle.proofs.DealCases.{inside, entry_levels, entries_found_lem}
use Rattle.settle.proofs.with_deal.compare_deal_entry.Goals as goal

module _ (deal : LentDeal) (fine : deal_refusal deal ≡ 0) {x : Fields} (a : Accepted (terms_of deal x.number) x)
    {path : List ℕ} (p : path ≡ x.entry_path) where
  -- the levels of the record's path, and the start of the two paths
  levels_are : length path / 32 ≡ (entry_start (deal_size deal) x.place).levels
  levels_are = ap (λ (s : List ℕ). length s / 32) p ∙ entry_levels deal fine a

  abbrev start : PathStart
  start = path_start (length path / 32) 1 (entry_position x.place)

  start_is : start ≡ entry_start (deal_size deal) x.place
  start_is = λ i. path_start (levels_are i) 1 (entry_position x.place)

  -- where the record's path starts
  path_inside : InTree (deal_level (deal_size deal)) start
  path_inside = subst (InTree (deal_level (deal_size deal))) (sym start_is) (entry_start_lem (inside deal fine a))

pub array_at-own_entry-requires : goal.array_at-own_entry-requires
array_at-own_entry-requires c =
    let a = c.args in
    (omega arith, (inside (seen a.deal.now) c.requires.0 c.requires.1).place_is.in_deal)

pub node_in-own_node-requires : goal.node_in-own_node-requires
node_in-own_node-requires c =
    let a = c.args in
    let deal = seen a.deal.now in
    path_inside deal c.requires.0 c.requires.1 refl

pub compare_with_own-requires : goal.compare_with_own-requires
compare_with_own-requires c =
    let a = c.args in
    let deal = seen a.deal.now in
    let taken = c.requires.1 in
    record {
      in_tree = path_inside deal c.requires.0 taken refl;
      own_node_value = c.node_in-own_node.ensures;
      own_value =
          c.requires.2
          ∙ ap (siblings_from deal.nodes) (sym (start_is deal c.requires.0 taken refl));
    }

pub returns : goal.returns
returns c =
    let a = c.args in
    let deal = seen a.deal.now in
    let x = read_fields a.x.now in
    let taken = c.requires.1 in
    let q = entry_position x.place in
    let entry = c.entry_for-entry.ensures in
    let node = c.node_hash-node.ensures ∙ ap node_hash entry in
    let below = c.compare_strings-below.ensures
    ∙ (λ i. compared (first_difference (entry i ∷ []) (c.array_at-own_entry.ensures i ∷ []))) in
    let levels = levels_are deal c.requires.0 taken refl in
    c.difference.ensures
    ∙ shown _
    (c.compare_with_own.ensures
    ∙ (λ i. compared_with_own deal.nodes (levels i) 1 q (node i) x.entry_path (below i))
    ∙ entries_found_lem deal c.requires.0 taken)
