-- The code of collection: when it is 0, and when it is 20, where two standing entries overlap and nothing that comes
-- before refuses.
use Rattle.std.specs.Prelude.{◌≡◌, refl, Bool, true, false, ◌&&◌, ◌↔◌, ℕ, List, [], ◌∷◌, length, eqb}
use Rattle.std.proofs.Common.{arith, eqb-true, eq-eqb}
use Rattle.rules.specs.Refusals.{rule, first_refusal}
use Rattle.rules.specs.RefusalLaws.{none_refused, all_passed, and_left, and_right, and_both}
use Rattle.stray.specs.StrayBits.{no_stray_bits}
use Rattle.sizes.specs.Sizes.{lent_size_allowed, entry_count}
use Rattle.sizes.specs.SizesLaws.{DealSize, lent_size}
use Rattle.lent.specs.LentDeal.{LentDeal, deal_size}
use Rattle.index.specs.Slots.{slot_at}
use Rattle.ranges.specs.Ranges.{ranges_of}
use Rattle.ranges.specs.RangesLaws.{empty_start}
use Rattle.houses.specs.Houses.{table_sized}
use Rattle.packing.specs.Order.{none_overlaps}
use Rattle.packing.specs.Apart.{EmptyAtZero}
use Rattle.packing.specs.NoOverlapLaws.{none_overlaps_lem, two_overlap, overlap_full}
use Rattle.collect.specs.Collect.{collect_rules, collect_code}
use Rattle.collect.specs.Collectable.{Collects, TwoStanding, Overlaps}
use Rattle.collect.proofs.MovesLaws.{full_stands}

pub collects : (deal table : List ℕ) (second : LentDeal) (second_table : List ℕ)
    → (collect_code deal table second second_table ≡ 0) ↔ Collects deal table second second_table
unfolding collect_code
collects deal table second second_table =
    let apart = none_overlaps_lem (ranges_of deal) (entry_count (length deal)) in
    let x = table_sized (length deal) table in
    let y = table_sized (length deal) second_table in (
      λ e.
          let p = none_refused (collect_rules deal table second second_table)
          (omega arith, (omega arith, (omega arith, (omega arith, (omega arith, (omega arith, tt)))))) e in
          record {
            collectable = record { lent = p.0; apart = apart.0 p.1.1.1.1.1.0 };
            table_sized_lem = and_left x y p.1.0;
            second_sized = and_right x y p.1.0;
            second_length = eqb-true (deal_size second) (length deal) p.1.1.0;
            clear = p.1.1.1.0;
            tree_sized_lem = p.1.1.1.1.0;
          },
      λ c.
          let tables = and_both x y c.table_sized_lem c.second_sized in
          let same = eq-eqb (deal_size second) (length deal) c.second_length in
          all_passed (collect_rules deal table second second_table) (
            c.collectable.lent,
            (tables, (same, (c.clear, (c.tree_sized_lem, (apart.1 c.collectable.apart, tt))))),
          ),
    )

module _ (deal : List ℕ) (t : DealSize (length deal)) where
  abbrev slots : ℕ
  slots = entry_count (length deal)

  at_zero : EmptyAtZero (ranges_of deal) slots
  at_zero i h e = empty_start (length deal) (slot_at deal i) t e

  overlapping : (none_overlaps (ranges_of deal) slots ≡ false) ↔ TwoStanding deal
  overlapping = (
    λ e.
        let p = (two_overlap (ranges_of deal) slots).0 e in
        let full = overlap_full (ranges_of deal) slots at_zero p in
        record {
          upper = p.upper;
          lower = p.lower;
          upper_in = p.in_slots;
          below = p.below;
          upper_stands = full_stands deal t p.upper full.0;
          lower_stands = full_stands deal t p.lower full.1;
          common = p.common;
        },
    λ p.
        (two_overlap (ranges_of deal) slots).1
        (record {
          upper = p.upper;
          lower = p.lower;
          in_slots = p.upper_in;
          below = p.below;
          common = p.common;
        }),
  )

-- the code by its six tests
abbrev pub code_by : Bool → Bool → Bool → Bool → Bool → Bool → ℕ
code_by a w b s t o = first_refusal (rule a 2 ∷ rule w 23 ∷ rule b 12 ∷ rule s 11 ∷ rule t 12 ∷ rule o 20 ∷ [])

last_fails : (a w b s t o : Bool) → code_by a w b s t o ≡ 20
    → (a ≡ true) × (w ≡ true) × (b ≡ true) × (s ≡ true) × (t ≡ true) × (o ≡ false)
last_fails false w b s t o e = absurd (omega arith)
last_fails true false b s t o e = absurd (omega arith)
last_fails true true false s t o e = absurd (omega arith)
last_fails true true true false t o e = absurd (omega arith)
last_fails true true true true false o e = absurd (omega arith)
last_fails true true true true true true e = absurd (omega arith)
last_fails true true true true true false e = (refl, refl, refl, refl, refl, refl)

pub refused_20 : (deal table : List ℕ) (second : LentDeal) (second_table : List ℕ)
    → (collect_code deal table second second_table ≡ 20) ↔ Overlaps deal table second second_table
unfolding collect_code
refused_20 deal table second second_table =
    let a = lent_size_allowed (length deal) in
    let x = table_sized (length deal) table in
    let y = table_sized (length deal) second_table in
    let b = eqb (deal_size second) (length deal) in
    let o = none_overlaps (ranges_of deal) (entry_count (length deal)) in (
      λ e.
          let p = last_fails a (x && y) b (no_stray_bits deal) second.tree_sized o e in
          record {
            lent = p.0;
            table_sized_lem = and_left x y p.1;
            second_sized = and_right x y p.1;
            second_length = eqb-true (deal_size second) (length deal) p.2;
            clear = p.3;
            tree_sized_lem = p.4;
            two = (overlapping deal (lent_size (length deal) p.0).deal).0 p.5;
          },
      λ r.
          let none = (overlapping deal (lent_size (length deal) r.lent).deal).1 r.two in
          let same = eq-eqb (deal_size second) (length deal) r.second_length in
          rw (r.lent, r.table_sized_lem, r.second_sized, same, r.clear, r.tree_sized_lem, none),
    )
