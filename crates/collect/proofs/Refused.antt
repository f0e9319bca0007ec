-- The code of collection by its tests, taken one after the other.
use mathlib.Core.Path.{◌≡◌}
use mathlib.Core.Bool.{Bool, true, false}
use mathlib.Core.Logic.{◌≢◌}
use mathlib.Core.List.{List}
use Prim.Native.Nat.{ℕ}
use lib.ListN.{length}
use lib.Dec.{eqb}
use borrow.Author.Tests.{eq-eqb, ne_eqb}
use Rattle.stray.specs.StrayBits.{no_stray_bits}
use Rattle.sizes.specs.Sizes.{lent_size_allowed, entry_count}
use Rattle.lent.specs.LentDeal.{LentDeal, deal_size}
use Rattle.ranges.specs.Ranges.{ranges_of}
use Rattle.houses.specs.Houses.{table_sized}
use Rattle.packing.specs.Order.{none_overlaps}
use Rattle.collect.specs.Collect.{collect_code}

module _ (deal table : List ℕ) (second : LentDeal) (second_table : List ℕ) where
  abbrev code : ℕ
  code = collect_code deal table second second_table

  pub refused_2 : lent_size_allowed (length deal) ≡ false → 2 ≡ code
  unfolding collect_code
  refused_2 a = rw a

  module _ (a : lent_size_allowed (length deal) ≡ true) where
    pub refused_23 : table_sized (length deal) table ≡ false → 23 ≡ code
    unfolding collect_code
    refused_23 x = rw (a, x)

    module _ (x : table_sized (length deal) table ≡ true) where
      pub refused_second_23 : table_sized (length deal) second_table ≡ false → 23 ≡ code
      unfolding collect_code
      refused_second_23 y = rw (a, x, y)

      module _ (y : table_sized (length deal) second_table ≡ true) where
        pub refused_12 : deal_size second ≢ length deal → 12 ≡ code
        unfolding collect_code
        refused_12 n = rw (a, x, y, ne_eqb (deal_size second) (length deal) n)

        module _ (l : deal_size second ≡ length deal) where
          same : eqb (deal_size second) (length deal) ≡ true
          same = eq-eqb (deal_size second) (length deal) l

          pub refused_11 : no_stray_bits deal ≡ false → 11 ≡ code
          unfolding collect_code
          refused_11 s = rw (a, x, y, same, s)

          module _ (s : no_stray_bits deal ≡ true) where
            pub refused_tree : second.tree_sized ≡ false → 12 ≡ code
            unfolding collect_code
            refused_tree t = rw (a, x, y, same, s, t)

            module _ (t : second.tree_sized ≡ true) where
              abbrev none : Bool
              none = none_overlaps (ranges_of deal) (entry_count (length deal))

              pub refused_20 : none ≡ false → 20 ≡ code
              unfolding collect_code
              refused_20 o = rw (a, x, y, same, s, t, o)

              pub not_refused : none ≡ true → 0 ≡ code
              unfolding collect_code
              not_refused o = rw (a, x, y, same, s, t, o)
