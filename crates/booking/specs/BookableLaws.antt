-- Nothing refuses a booking before the slots are looked at (codes 23, 2, 4, 11, 12), and what is known then.
use Rattle.std.specs.Prelude.{◌≡◌, refl, Bool, true, false, ◌&&◌, ◌||◌, ◌↔◌, ◌≢◌, ℕ, ◌<◌, List, [], ◌∷◌, length, eqb}
use Rattle.std.proofs.Common.{sym, true≢false, arith, eqb-true}
use Rattle.rules.specs.Refusals.{Rule, first_of, first_refusal}
use Rattle.rules.specs.RefusalLaws.{none_refused, all_passed, and_left, and_right, and_both}
use Rattle.octets.specs.FillLaws.{filled_length}
use Rattle.stray.specs.StrayBits.{no_stray_bits}
use Rattle.sizes.specs.Sizes.{lent_size_allowed, segment_size_allowed, area, entry_count}
use Rattle.sizes.specs.SizesLaws.{LentSize, SegmentSize, lent_size, segment_size}
use Rattle.lent.specs.LentDeal.{LentDeal, lent_deal, deal_size}
use Rattle.lent.specs.Usable.{Usable}
use Rattle.houses.specs.Houses.{house_allowed, table_sized}
use Rattle.houses.specs.HousesLaws.{sized_length}
use Rattle.booking.specs.Write.{area_bytes}
use Rattle.booking.specs.Booking.{book_rules}

-- as far as the deal and the segment go (2, 4, 11, 12)
pub record Bookable (deal : LentDeal) (segment : List ℕ) : Type 0 where
  pub deal_allowed : lent_size_allowed (deal_size deal) ≡ true
  pub segment_allowed : segment_size_allowed (deal_size deal) (length segment) ≡ true
  pub deal_clear : no_stray_bits deal.bytes ≡ true
  pub segment_clear : no_stray_bits (area_bytes segment) ≡ true
  pub tree_sized_lem : deal.tree_sized ≡ true

-- for a house, with a table of owners (23 twice)
pub record BookableFor (deal : LentDeal) (table : List ℕ) (house : ℕ) (segment : List ℕ) : Type 0 where
  pub house_allowed_lem : house_allowed house ≡ true
  pub table_sized_lem : table_sized (deal_size deal) table ≡ true
  pub bookable : Bookable deal segment

-- what holds of every rule's code holds of a refusal
EachCode : (ℕ → Type 0) → List Rule → Type 0
EachCode P [] = Unit {0}
EachCode P (r ∷ rs) = P r.code × EachCode P rs

first_each : (P : ℕ → Type 0) (passed : Bool) (code later : ℕ) → P code → (later ≢ 0 → P later)
    → first_of passed code later ≢ 0 → P (first_of passed code later)
first_each P true code later c f h = f h
first_each P false code later c f h = c

refused_each : (P : ℕ → Type 0) (rs : List Rule) → EachCode P rs → first_refusal rs ≢ 0 → P (first_refusal rs)
unfolding EachCode
refused_each P [] c h = absurd (h refl)
refused_each P (r ∷ rs) c h =
    first_each P r.passed r.code (first_refusal rs) c.0 (λ k. refused_each P rs c.1 k) h

-- a refusal by these rules is 23, 2, 4, 11 or 12, and so none of the codes that are given after them
abbrev pub RuleCode : ℕ → Type 0
RuleCode c = (c ≢ 0) × (c ≢ 15) × (c ≢ 22) × (c ≢ 13) × (c ≢ 14)

module _ (deal : LentDeal) (table : List ℕ) (house : ℕ) (segment : List ℕ) where
  abbrev clear : Bool
  clear = no_stray_bits deal.bytes && no_stray_bits (area_bytes segment)

  pub refused_code : first_refusal (book_rules deal table house segment) ≢ 0
      → RuleCode (first_refusal (book_rules deal table house segment))
  unfolding EachCode
  refused_code h = refused_each RuleCode (book_rules deal table house segment) (omega arith) h

  pub not_refused : (first_refusal (book_rules deal table house segment) ≡ 0) ↔ BookableFor deal table house segment
  not_refused = (
    λ e.
        let p = none_refused (book_rules deal table house segment) (omega arith) e in
        let s = p.1.1.1 in
        record {
          house_allowed_lem = p.0;
          table_sized_lem = p.1.1.0;
          bookable = record {
            deal_allowed = p.1.0;
            segment_allowed = s.0;
            deal_clear = and_left (no_stray_bits deal.bytes) (no_stray_bits (area_bytes segment)) s.1.0;
            segment_clear = and_right (no_stray_bits deal.bytes) (no_stray_bits (area_bytes segment)) s.1.0;
            tree_sized_lem = s.1.1.0;
          };
        },
    λ f.
        let b = f.bookable in
        let c : clear ≡ true =
        and_both (no_stray_bits deal.bytes) (no_stray_bits (area_bytes segment)) b.deal_clear b.segment_clear in
        all_passed (book_rules deal table house segment) (
          f.house_allowed_lem,
          (b.deal_allowed, (f.table_sized_lem, (b.segment_allowed, (c, (b.tree_sized_lem, tt))))),
        ),
  )

-- the sizes, where they are allowed
module _ {deal : LentDeal} {segment : List ℕ} (b : Bookable deal segment) where
  pub bookable_deal : LentSize (deal_size deal)
  bookable_deal = lent_size (deal_size deal) b.deal_allowed

  pub bookable_segment : SegmentSize (deal_size deal) (length segment)
  bookable_segment = segment_size (deal_size deal) (length segment) bookable_deal.deal b.segment_allowed

  -- the area is all of its bytes, and some
  pub area_length : length (area_bytes segment) ≡ area (length segment)
  area_length = filled_length (area (length segment)) segment bookable_segment.size_area

  pub area_some : 0 < area (length segment)
  area_some = omega (arith, bookable_segment.area_low)

  -- the deal's nodes may be looked up, and the segment can be booked in the deal alone, as far as these rules go
  pub bookable_usable : Usable deal
  bookable_usable = record { size_allowed = b.deal_allowed; tree_sized_lem = b.tree_sized_lem }

  pub bookable_plain : Bookable (lent_deal deal.bytes) segment
  bookable_plain =
      record {
        deal_allowed = b.deal_allowed;
        segment_allowed = b.segment_allowed;
        deal_clear = b.deal_clear;
        segment_clear = b.segment_clear;
        tree_sized_lem = refl;
      }

-- the table has one byte a slot, and a house is one byte
module _ {deal : LentDeal} {table : List ℕ} {house : ℕ} {segment : List ℕ}
    (b : BookableFor deal table house segment) where
  pub table_length_lem : length table ≡ entry_count (deal_size deal)
  table_length_lem = sized_length (deal_size deal) table b.table_sized_lem

  pub house_byte : house < 256
  house_byte = by_test (eqb house 1) (eqb house 2) refl refl b.house_allowed_lem
    where
      by_test : (x y : Bool) → eqb house 1 ≡ x → eqb house 2 ≡ y → (x || y) ≡ true → house < 256
      by_test true y e f t = omega (arith, eqb-true house 1 e)
      by_test false true e f t = omega (arith, eqb-true house 2 f)
      by_test false false e f t = absurd (true≢false (sym t))
