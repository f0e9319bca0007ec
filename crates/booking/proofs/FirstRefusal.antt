-- Which of the rules before the slots refuses a booking, by the tests on the way.
use mathlib.Core.Path.{◌≡◌, refl, sym, ap, ◌∙◌}
use mathlib.Core.Bool.{Bool, true, false, ◌&&◌}
use mathlib.Core.List.{List}
use Prim.Native.Nat.{ℕ, ◌<◌}
use native.Mathlib.Omega.{arith}
use lib.ListN.{length}
use Rattle.rules.specs.Refusals.{first_of, first_refusal}
use Rattle.rules.specs.RefusalLaws.{refused_append}
use Rattle.stray.specs.StrayBits.{no_stray_bits}
use Rattle.stray.specs.StrayBitsLaws.{filled_clear}
use Rattle.sizes.specs.Sizes.{lent_size_allowed, segment_size_allowed, area}
use Rattle.sizes.specs.SizesLaws.{lent_size, segment_size}
use Rattle.lent.specs.LentDeal.{LentDeal, deal_size, lent_deal, deal_refusal}
use Rattle.lent.specs.LentDealLaws.{refusal_none, none_refusal, refusal_stray}
use Rattle.houses.specs.Houses.{house_rules}
use Rattle.houses.specs.HousesLaws.{housed}
use Rattle.booking.specs.Write.{area_bytes}
use Rattle.booking.specs.Booking.{segment_rules, book_rules}

-- the deal's and the area's stray bits, where the area has some and where it has none
and_stray : (deal : Bool) {area : Bool} → area ≡ false → (deal && area) ≡ false
and_stray true e = e
and_stray false e = refl

and_clear : (deal : Bool) {area : Bool} → area ≡ true → (deal && area) ≡ deal
and_clear true e = e
and_clear false e = refl

module _ (deal : LentDeal) (table : List ℕ) (house : ℕ) (segment : List ℕ) where
  abbrev code : ℕ
  code = first_refusal (book_rules deal table house segment)

  module _ (z : first_refusal (house_rules (deal_size deal) table house) ≡ 0) where
    later : code ≡ first_refusal (segment_rules deal segment)
    later = refused_append (house_rules (deal_size deal) table house) (segment_rules deal segment) z (omega arith)

    pub size_fits : lent_size_allowed (deal_size deal) ≡ true
    size_fits = ((housed (deal_size deal) table house).0 z).size_allowed

    module _ (b : segment_size_allowed (deal_size deal) (length segment) ≡ true) where
      -- the area has stray bits only where the segment has
      pub area_clear : no_stray_bits (area_bytes segment) ≡ no_stray_bits segment
      area_clear =
          filled_clear (area (length segment)) segment
          (segment_size (deal_size deal) (length segment) (lent_size (deal_size deal) size_fits).deal b).size_area

      pub by_11 : no_stray_bits segment ≡ false → 11 ≡ code
      by_11 s = sym (later ∙ rw (b, and_stray (no_stray_bits deal.bytes) (area_clear ∙ s)))

      -- the deal alone is refused by its stray bits
      pub by_alone : (refusal : ℕ) → 0 < refusal → refusal ≡ deal_refusal (lent_deal deal.bytes) → refusal ≡ code
      by_alone refusal some e = go (no_stray_bits deal.bytes) refl
        where
          go : (clear : Bool) → no_stray_bits deal.bytes ≡ clear → refusal ≡ code
          go true s =
              let z = none_refusal (lent_deal deal.bytes) size_fits s refl in
              absurd (omega arith)
          go false s = e ∙ refusal_stray (lent_deal deal.bytes) size_fits s ∙ sym (later ∙ rw (b, s))

      -- with clear bits in both the tree's length is left
      pub by_tree : 0 ≡ deal_refusal (lent_deal deal.bytes) → no_stray_bits segment ≡ true
          → first_of deal.tree_sized 12 0 ≡ code
      by_tree e s =
          let clear = (refusal_none (lent_deal deal.bytes) (sym e)).1 in
          sym (later ∙ rw (b, clear, area_clear ∙ s))

      -- with a clear segment the refusals of the deal are left
      pub by_deal : no_stray_bits segment ≡ true → deal_refusal deal ≡ code
      unfolding deal_refusal
      by_deal s =
          ap (λ (x : Bool). first_of x 2 (first_of (no_stray_bits deal.bytes) 11 (first_of deal.tree_sized 12 0)))
          size_fits
          ∙ sym (later ∙ rw (b, and_clear (no_stray_bits deal.bytes) (area_clear ∙ s)))
