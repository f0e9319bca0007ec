-- The tree beside a deal after booking, whatever the buffer held: on a refusal as it was; else every node above the
-- bytes written is worked out from its children as they then stand, and every other node stands as it did.
use Rattle.std.specs.Prelude.{◌≡◌, ◌≢◌, ℕ, ◌+◌, ◌*◌, ◌^◌, ◌≤◌, ◌<◌, List, length}
use Rattle.std.proofs.Math.Path.{refl, ap}
use Rattle.std.proofs.Common.{sym, ◌∙◌, arith}
use Rattle.sizes.specs.Sizes.{area, deal_level, slot_place}
use Rattle.sizes.specs.SizesLaws.{index_start_le}
use Rattle.tree.specs.TreeNodes.{SizedFor}
use Rattle.tree.specs.Renewed.{above, renewed, RenewedBy}
use Rattle.tree.specs.RenewedLaws.{renewed_by}
use Rattle.tree.specs.AboveLaws.{above_upward}
use Rattle.tree.specs.RenewalLaws.{renewed_both}
use Rattle.tree.specs.OrderLaws.{either_order}
use Rattle.lent.specs.LentDeal.{tree_deal}
use Rattle.lent.specs.UsableLaws.{tree_sized_lem}
use Rattle.index.specs.KeptRowsLaws.{slot_within}
use Rattle.room.specs.Decide.{answer_to}
use Rattle.room.specs.Decide.{Decision}
use Rattle.room.specs.Decide.{Refuse, Already, Place}
use Rattle.ranges.specs.Ranges.{ranges_of}
use Rattle.booking.specs.Write.{written_deal}
use Rattle.booking.specs.WriteLaws.{Fits, written_length}
use Rattle.booking.specs.Booking.{decision, book_answer, booked_deal}
use Rattle.booking.specs.BookedTree.{renewed_for, above_either, tree_after, booked_tree}
use Rattle.booking.specs.BookableLaws.{bookable_deal, bookable_usable, area_some}
use Rattle.booking.proofs.BookedLaws.{booked_unkept, booked_fits, booked_is}

-- a segment was written in a deal
module _ {deal segment : List ℕ} {i o : ℕ} (facts : Fits deal segment i o) where
  abbrev after : List ℕ
  after = written_deal deal segment i o

  abbrev place : ℕ
  place = slot_place (length deal) i

  -- the two parts lie in it
  pub written_power : length after ≡ 32 * 2 ^ deal_level (length after)
  written_power =
      written_length facts
      ∙ (bookable_deal facts.bookable).deal.is_power_lem
      ∙ ap (λ (d : ℕ). 32 * 2 ^ deal_level d) (sym (written_length facts))

  pub area_in : o + area (length segment) ≤ length after
  area_in = omega (arith, written_length facts, facts.ends, index_start_le (length deal))

  pub entry_in : place + 64 ≤ length after
  entry_in =
      omega (
        arith,
        written_length facts,
        slot_within (length deal) i (bookable_deal facts.bookable).deal facts.slot_in,
      )

  some : 0 < area (length segment)
  some = area_some facts.bookable

  module _ (tree : List ℕ) (sized : SizedFor deal tree) where
    sized_after : SizedFor after tree
    sized_after = omega (arith, sized, written_length facts)

    abbrev top : ℕ
    top = deal_level (length after)

    pub written_renewed : RenewedBy (above_either o (area (length segment)) place) after tree
        (renewed_for after tree o (area (length segment)) place)
    written_renewed =
        let n = area (length segment) in
        let first = renewed top after tree o n in
        let a = renewed_by after o n some area_in top tree written_power sized_after in
        let b = renewed_by after place 64 (omega arith) entry_in top first written_power
        (omega (arith, a.sized, sized_after)) in
        renewed_both (above o n) (above place 64) (above_upward place 64) after tree first
        (renewed top after first place 64) a b

    -- the nodes above the entry may as well be worked out first
    pub either_part_first : renewed_for after tree o (area (length segment)) place
        ≡ renewed top after (renewed top after tree place 64) o
        (area (length segment))
    either_part_first =
        either_order after tree top written_power sized_after o (area (length segment)) some
        area_in place 64 (omega arith) entry_in

module _ (deal tree table : List ℕ) (house : ℕ) (segment : List ℕ) where
  -- any code but 0 leaves the tree as it is
  pub refused_tree : (book_answer (tree_deal deal tree) table house segment).code ≢ 0
      → booked_tree deal tree table house segment ≡ tree
  unfolding book_answer booked_tree
  refused_tree h = by_cases (decision (tree_deal deal tree) table house segment) h
    where
      by_cases : (x : Decision) → (answer_to (length deal) (ranges_of deal) x).code ≢ 0
          → tree_after deal tree segment x ≡ tree
      by_cases (Refuse c) k = refl
      by_cases (Already i) k = refl
      by_cases (Place i o) k = absurd (k refl)

  pub tree_is : (x : Decision) → decision (tree_deal deal tree) table house segment ≡ x
      → booked_tree deal tree table house segment ≡ tree_after deal tree segment x
  unfolding booked_tree
  tree_is x e = ap (tree_after deal tree segment) e

  -- with code 0, of a slot and an offset
  module _ (i o : ℕ) (e : decision (tree_deal deal tree) table house segment ≡ Place i o) where
    fits : Fits deal segment i o
    fits = booked_fits (tree_deal deal tree) table house segment i o e

    pub booked_sized : SizedFor deal tree
    booked_sized =
        tree_sized_lem deal tree
        (bookable_usable (booked_unkept (tree_deal deal tree) table house segment i o e).bookable.bookable)

    pub tree_renewed :
        RenewedBy (above_either o (area (length segment)) (slot_place (length deal) i))
        (booked_deal (tree_deal deal tree) table house segment) tree (booked_tree deal tree table house segment)
    tree_renewed =
        rw (booked_is (tree_deal deal tree) table house segment i o e, tree_is (Place i o) e)
        (written_renewed fits tree booked_sized)

    pub tree_either_part_first :
        let bytes = booked_deal (tree_deal deal tree) table house segment in
        let top = deal_level (length bytes) in
        booked_tree deal tree table house segment
        ≡ renewed top bytes (renewed top bytes tree (slot_place (length deal) i) 64) o (area (length segment))
    tree_either_part_first =
        rw (booked_is (tree_deal deal tree) table house segment i o e, tree_is (Place i o) e)
        (either_part_first fits tree booked_sized)
