-- What the slots of a house keep; and after a segment is written and its slot's owner set: the new slot keeps that
-- segment for that owner and nothing else, and every other slot keeps what it kept, for the same owner.
use Rattle.std.specs.Prelude.{◌≡◌, true, ◌&&◌, ◌≢◌, ℕ, ◌<◌, List, length}
use Rattle.std.proofs.Common.{sym, ap, ap₂, ◌∙◌, eqb-true, eq-eqb}
use Rattle.rules.specs.RefusalLaws.{and_left, and_right, and_both}
use Rattle.sizes.specs.Sizes.{entry_count}
use Rattle.lent.specs.LentDeal.{LentDeal, lent_deal, deal_size}
use Rattle.index.specs.Slots.{slot_at, standing}
use Rattle.houses.specs.Houses.{table_sized, owner_at, owned, with_owner}
use Rattle.houses.specs.HousesLaws.{owner_here, owned_other, with_owner_sized}
use Rattle.booking.specs.Write.{written_deal}
use Rattle.booking.specs.WriteLaws.{Fits, written_length}
use Rattle.booking.specs.KeepLaws.{keeps_stands, keeps_written, keeps_same, keeps_only, bookable_stays}
use Rattle.booking.specs.Booking.{keeps_segment, keeps_own}
use Rattle.booking.specs.BookableLaws.{BookableFor}

-- a slot of the house that keeps the segment
module _ (deal : LentDeal) (table : List ℕ) (house : ℕ) (segment : List ℕ) (i : ℕ)
    (k : keeps_own deal table house segment i ≡ true) where
  pub own_owned : owned table house i ≡ true
  own_owned = and_left (owned table house i) (keeps_segment deal segment i) k

  pub own_keeps : keeps_segment deal segment i ≡ true
  own_keeps = and_right (owned table house i) (keeps_segment deal segment i) k

  pub own_stands : standing (deal_size deal) (slot_at deal.bytes i) ≡ true
  own_stands = keeps_stands deal segment i own_keeps

-- a segment was written in slot k, which is now its owner's
module _ {deal segment : List ℕ} {k o : ℕ} (facts : Fits deal segment k o) (table : List ℕ) (owner : ℕ)
    (t : k < length table) where
  abbrev written : LentDeal
  written = lent_deal (written_deal deal segment k o)

  abbrev owners : List ℕ
  owners = with_owner table k owner

  pub own_written : keeps_own written owners owner segment k ≡ true
  own_written =
      and_both (owned owners owner k) (keeps_segment written segment k)
      (eq-eqb (owner_at owners k) owner (owner_here table k owner t)) (keeps_written facts)

  module _ (house : ℕ) (other : List ℕ) where
    pub own_only : keeps_own written owners house other k ≡ true → (owner ≡ house) × (segment ≡ other)
    own_only e =
        let here = eqb-true (owner_at owners k) house (own_owned written owners house other k e) in (
          sym (owner_here table k owner t) ∙ here,
          keeps_only facts other (own_keeps written owners house other k e),
        )

    pub own_same : (j : ℕ) → j < entry_count (length deal) → j ≢ k
        → keeps_own written owners house other j ≡ keeps_own (lent_deal deal) table house other j
    own_same j h ne = ap₂ ◌&&◌ (owned_other table k owner t house j ne) (keeps_same facts other j h ne)

    -- what else could be booked can be so afterwards, as far as the rules go that come before the slots
    pub bookable_for_stays : BookableFor (lent_deal deal) table house other → BookableFor written owners house other
    bookable_for_stays b =
        record {
          house_allowed_lem = b.house_allowed_lem;
          table_sized_lem =
              ap (λ (d : ℕ). table_sized d owners) (written_length facts)
              ∙ with_owner_sized (length deal) table k owner t
              ∙ b.table_sized_lem;
          bookable = bookable_stays facts other b.bookable;
        }
