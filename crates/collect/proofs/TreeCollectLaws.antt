-- Collection with a tree beside the second deal (document 02, request (vii)): with code 0 the tree is filled for the
-- collected deal, whatever it held; the code is that without a tree, but for 12 where the tree has another length.
use Rattle.std.specs.Prelude.{◌≡◌, refl, Bool, true, false, ◌&&◌, ◌≢◌, ◌⊎◌, ℕ, ◌*◌, ◌^◌, List, length, eqb}
use Rattle.std.proofs.Math.Path.{ap}
use Rattle.std.proofs.Common.{◌∙◌, ⊎_elim, arith}
use Rattle.std.proofs.Math.Decide.{ℕ_discrete}
use Rattle.rules.specs.Refusals.{unless_refused}
use Rattle.stray.specs.StrayBits.{no_stray_bits}
use Rattle.sizes.specs.Sizes.{lent_size_allowed, entry_count, deal_level}
use Rattle.merkle.specs.Tree.{node_at}
use Rattle.tree.specs.TreeNodes.{FilledFor}
use Rattle.tree.specs.FilledLaws.{filled_filled}
use Rattle.lent.specs.LentDeal.{LentDeal, lent_deal, tree_deal}
use Rattle.ranges.specs.Ranges.{ranges_of}
use Rattle.houses.specs.Houses.{table_sized}
use Rattle.packing.specs.Order.{none_overlaps}
use Rattle.collect.specs.Collect.{
  collect_code,
  collected_deal,
  collected_table,
  second_deal,
  second_owners,
  second_tree,
}
use Rattle.collect.proofs.MovesLaws.{sized}
use Rattle.collect.proofs.CollectLaws.{collected_length}
use Rattle.collect.proofs.CodeLaws.{code_by, collects}
use Rattle.collect.specs.AnswerLaws.{deal_collected, deal_left, tree_collected, tree_left}

-- a fifth test that fails: codes of the first four come before it, and the sixth's after it
earlier : (a w b s t o : Bool) → code_by a w b s true o ≢ 0 → code_by a w b s true o ≢ 20
    → code_by a w b s t o ≡ code_by a w b s true o
earlier false w b s t o h k = refl
earlier true false b s t o h k = refl
earlier true true false s t o h k = refl
earlier true true true false t o h k = refl
earlier true true true true t true h k = absurd (h refl)
earlier true true true true t false h k = absurd (k refl)

later : (a w b s o : Bool) → (code_by a w b s true o ≡ 0) ⊎ (code_by a w b s true o ≡ 20) → code_by a w b s false o ≡ 12
later false w b s o h = absurd (⊎_elim (λ e. omega arith) (λ e. omega arith) h)
later true false b s o h = absurd (⊎_elim (λ e. omega arith) (λ e. omega arith) h)
later true true false s o h = refl
later true true true false o h = absurd (⊎_elim (λ e. omega arith) (λ e. omega arith) h)
later true true true true o h = refl

module _ (deal table second tree second_table : List ℕ) where
  abbrev plain : LentDeal
  plain = lent_deal second

  abbrev beside : LentDeal
  beside = tree_deal second tree

  -- a tree of the right length: the same code, the same second deal and the same second table
  pub same_code : (tree_deal second tree).tree_sized ≡ true
      → collect_code deal table (tree_deal second tree) second_table
      ≡ collect_code deal table (lent_deal second) second_table
  unfolding collect_code
  same_code t =
      ap
      (λ (b : Bool).
      collect_code deal table (record { bytes = second; nodes = node_at second; tree_sized = b }) second_table)
      t

  pub same_deal : (tree_deal second tree).tree_sized ≡ true
      → second_deal deal table (tree_deal second tree) second_table
      ≡ second_deal deal table (lent_deal second) second_table
  unfolding second_deal
  same_deal t = ap (λ (code : ℕ). unless_refused code (λ (k : ℕ). second) (collected_deal deal)) (same_code t)

  pub same_owners : (tree_deal second tree).tree_sized ≡ true
      → second_owners deal table (tree_deal second tree) second_table
      ≡ second_owners deal table (lent_deal second) second_table
  unfolding second_owners
  same_owners t =
      ap (λ (code : ℕ). unless_refused code (λ (k : ℕ). second_table) (collected_table deal table)) (same_code t)

  -- any other: 2, 23, 12 and 11 come first, and else it is 12
  abbrev tables : Bool
  tables = table_sized (length deal) table && table_sized (length deal) second_table

  abbrev fits : Bool
  fits = eqb (length second) (length deal)

  abbrev none : Bool
  none = none_overlaps (ranges_of deal) (entry_count (length deal))

  pub earlier_code : collect_code deal table (lent_deal second) second_table ≢ 0
      → collect_code deal table (lent_deal second) second_table ≢ 20
      → collect_code deal table (tree_deal second tree) second_table
      ≡ collect_code deal table (lent_deal second) second_table
  unfolding collect_code
  earlier_code h k =
      earlier (lent_size_allowed (length deal)) tables fits (no_stray_bits deal) beside.tree_sized none h k

  pub tree_code : (tree_deal second tree).tree_sized ≡ false
      → (collect_code deal table (lent_deal second) second_table ≡ 0)
      ⊎ (collect_code deal table (lent_deal second) second_table ≡ 20)
      → collect_code deal table (tree_deal second tree) second_table ≡ 12
  unfolding collect_code
  tree_code t h =
      ap (λ (b : Bool). code_by (lent_size_allowed (length deal)) tables fits (no_stray_bits deal) b none) t
      ∙ later (lent_size_allowed (length deal)) tables fits (no_stray_bits deal) none h

  -- with code 0 the tree is filled for the second deal
  pub collected_filled : collect_code deal table (tree_deal second tree) second_table ≡ 0
      → FilledFor (second_deal deal table (tree_deal second tree) second_table)
      (second_tree deal table second tree second_table)
  collected_filled e =
      let c = ((collects deal table beside second_table).0 e).collectable in
      let power : length (collected_deal deal) ≡ 32 * 2 ^ deal_level (length deal) =
      collected_length c ∙ (sized c).is_power_lem in
      rw (deal_collected deal table beside second_table e, tree_collected deal table second tree second_table e)
      (filled_filled (collected_deal deal) (deal_level (length deal)) power)

  -- so a tree that is filled for the second deal is so afterwards, whatever the code
  pub filled_after : FilledFor second tree
      → FilledFor (second_deal deal table (tree_deal second tree) second_table)
      (second_tree deal table second tree second_table)
  filled_after f =
      elim (ℕ_discrete (collect_code deal table beside second_table) 0) [
        | yes e ↦ collected_filled e
        | no ne ↦
            rw (deal_left deal table beside second_table ne, tree_left deal table second tree second_table ne) f
      ]
