-- A collection leaves the invariant of request (xiii) true: the history moves what is booked to where the second deal
-- has it.
use Rattle.std.specs.Prelude.{◌≡◌, refl, true, ℕ, ◌<◌, List, length}
use Rattle.std.proofs.Common.{sym, ap₂, ◌∙◌, subst, arith}
use Rattle.std.proofs.Math.Path.{ap}
use Rattle.sizes.specs.Sizes.{entry_count, slot_place}
use Rattle.sizes.specs.SizesLaws.{DealSize}
use Rattle.lent.specs.LentDeal.{lent_deal}
use Rattle.lent.specs.LentDealLaws.{answer_refused}
use Rattle.index.specs.Slots.{slot_at, standing}
use Rattle.room.specs.Room.{Range, range}
use Rattle.ranges.specs.Ranges.{ranges_of}
use Rattle.packing.specs.Total.{total}
use Rattle.packing.specs.Order.{range_area, sum_before}
use Rattle.packing.specs.OrderLaws.{empty_area}
use Rattle.packing.specs.MovedTotal.{moved_total}
use Rattle.booking.specs.Booking.{keeps_own}
use Rattle.booking.specs.OwnLaws.{own_stands}
use Rattle.collect.specs.Collect.{slot_to, collected_deal, collected_table}
use Rattle.collect.proofs.MovesLaws.{sized, slot_in}
use Rattle.collect.specs.Collectable.{Collectable}
use Rattle.collect.proofs.CollectLaws.{collected_length}
use Rattle.collect.proofs.CollectRows.{moved_offset}
use Rattle.collect.proofs.CollectPacked.{collected_packed}
use Rattle.collect.specs.Collectable.{From}
use Rattle.collect.proofs.OwnersLaws.{moved_owner}
use Rattle.demands.specs.Calls.{DealAndTable}
use Rattle.demands.specs.DealCalls.{TreeLent, collect_into, collecting_code, after_deal_call}
use Rattle.demands.proofs.DealCallsLaws.{by_collecting_code}
use Rattle.demands.proofs.CollectKeepLaws.{collected_keeps, collected_own}
use Rattle.demands.proofs.CollectedLaws.{new_from}
use Rattle.demands.proofs.SoundLaws.{collected_sound}
use Rattle.demands.specs.History.{collecting, BookedSegment, area_booked, range_booked, Among, sum_of}
use Rattle.demands.specs.History.{moved_one, moved, after_answer}
use Rattle.demands.proofs.HistoryMovedLaws.{sum_agrees, sum_moved, among_moved, moved_among}
use Rattle.demands.specs.Assured.{InSlot, NoTwoAlike, Assured}
use Rattle.demands.proofs.OneSlotLaws.{in_slot_stands}
use Rattle.demands.proofs.NoTwoLaws.{KeepsOnce, alike_once, once_alike}
use Rattle.demands.proofs.AssuredMoveLaws.{sum_ahead, before_ahead, offset_moves, slot_moves}

-- the collected deal and the collected table
module _ (was : DealAndTable) (c : Collectable was.deal) where
  abbrev deal : List ℕ
  deal = was.deal

  abbrev slots : ℕ
  slots = entry_count (length deal)

  abbrev new : List ℕ
  new = collected_deal deal

  abbrev after : DealAndTable
  after = record { deal = new; table = collected_table deal was.table }

  -- a slot keeps for a house what the slot that it comes from kept, ..
  own_from : (house : ℕ) (segment : List ℕ) (x : ℕ) (f : From deal x)
      → keeps_own (lent_deal new) after.table house segment x
      ≡ keeps_own (lent_deal deal) was.table house segment f.old
  own_from house segment x f =
      ap (keeps_own (lent_deal new) after.table house segment) (sym f.moves)
      ∙ collected_own c f.old f.old_in f.stood was.table house segment

  -- .. so no house keeps a segment in two slots, where none did
  once_moved : KeepsOnce was → KeepsOnce after
  once_moved once house segment x y hx hy kx ky =
      let f = new_from c x hx (own_stands (lent_deal new) after.table house segment x kx) in
      let g = new_from c y hy (own_stands (lent_deal new) after.table house segment y ky) in
      let same = once house segment f.old g.old f.old_in g.old_in (sym (own_from house segment x f) ∙ kx)
      (sym (own_from house segment y g) ∙ ky) in
      sym f.moves ∙ ap (slot_to deal) same ∙ g.moves

  module _ (bookings : List BookedSegment) (a : Assured bookings was) where
    abbrev there : BookedSegment → BookedSegment
    there b = moved_one (length deal) bookings b

    -- a booked segment is in the slot that its own moved to
    moved_in : {b : BookedSegment} {j : ℕ} → InSlot was b j → InSlot after (there b) (slot_to deal j)
    moved_in {b} {j} s =
        let e = in_slot_stands s in
        let h = s.slot_in in
        record {
          slot_in = omega (arith, slot_in c j h e, ap entry_count (collected_length c));
          place_is = ap₂ slot_place (sym (collected_length c)) (slot_moves a s);
          keeps_it = collected_keeps c j h e b.segment ∙ s.keeps_it;
          offset_is = moved_offset c j h e ∙ sym (offset_moves a s);
          owner_is = moved_owner c was.table j h e ∙ s.owner_is;
        }

    -- whatever is booked there is in a slot, and whatever stands there is booked
    each_moved : (b : BookedSegment) → Among b (moved (length deal) bookings) → (i : ℕ) × InSlot after b i
    each_moved b among =
        let m = moved_among (length deal) bookings b among in
        let k = a.each_kept m.0 m.1 in
        let i = slot_to deal k.0 in
        (i, subst (λ (x : BookedSegment). InSlot after x i) (sym m.2) (moved_in k.1))

    all_moved : (x : ℕ) → x < entry_count (length new) → standing (length new) (slot_at new x) ≡ true
        → (b : BookedSegment) × Among b (moved (length deal) bookings) × InSlot after b x
    all_moved x h s =
        let f = new_from c x h s in
        let k = a.all_booked f.old f.old_in f.stood in
        let b = k.0 in (
          there b,
          among_moved (length deal) bookings b k.1,
          subst (InSlot after (there b)) f.moves (moved_in k.2),
        )

    -- no house has two alike, where none had
    none_alike : NoTwoAlike after
    none_alike =
        once_alike after (subst DealSize (sym (collected_length c)) (sized c))
        (λ x h s. let k = all_moved x h s in (k.0.segment, k.2.keeps_it))
        (once_moved (alike_once was (sized c) a.no_two))

    -- a number that each range has sums up alike over the booked segments and the slots, where they went
    module _ (number : Range → ℕ) (none : (r : Range) → r.area ≡ 0 → number r ≡ 0) where
      -- the number of a range where it goes
      abbrev number_there : Range → ℕ
      number_there r = number (range (sum_ahead range_area deal r) r.area)

      booked_there : sum_of (λ b. number (range_booked b)) (moved (length deal) bookings)
          ≡ sum_of (λ b. number_there (range_booked b)) bookings
      booked_there =
          sum_moved (length deal) bookings (λ b. number (range_booked b))
          ∙ sum_agrees (λ b. number (range_booked (there b))) (λ b. number_there (range_booked b)) bookings
          (λ b among.
          ap (λ (o : ℕ). number (range o (area_booked b))) (before_ahead a range_area (λ r z. z) b))

      slots_there : total (λ x. number (ranges_of new x)) slots ≡ total (λ j. number_there (ranges_of deal j)) slots
      unfolding sum_before
      slots_there =
          let packed = collected_packed c in
          moved_total (ranges_of deal) slots c.apart (λ j. number_there (ranges_of deal j))
          (λ x. number (ranges_of new x))
          (λ j h empty. none _ (empty_area (ranges_of deal j) empty))
          (λ j h full. ap number (packed.moved j h full))
          (λ x l h. ap number (packed.free x l h) ∙ none (range 0 0) refl)

      sums_there : sum_of (λ b. number (range_booked b)) (moved (length deal) bookings)
          ≡ total (λ x. number (ranges_of new x)) (entry_count (length new))
      sums_there =
          booked_there
          ∙ a.same_sums number_there (λ r z. none _ z)
          ∙ sym slots_there
          ∙ ap (λ (n : ℕ). total (λ x. number (ranges_of new x)) (entry_count n)) (sym (collected_length c))

-- the deal is collected
pub collected_assured : (bookings : List BookedSegment) (was : DealAndTable) → Collectable was.deal
    → Assured bookings was
    → Assured (moved (length was.deal) bookings)
    (record { deal = collected_deal was.deal; table = collected_table was.deal was.table })
collected_assured bookings was c a =
    record {
      sound = collected_sound c a.sound;
      no_two = none_alike was c bookings a;
      each_kept = each_moved was c bookings a;
      all_booked = all_moved was c bookings a;
      same_sums = sums_there was c bookings a;
    }

-- a collection, whatever its code
pub collecting_assured : (second : DealAndTable) (tree : TreeLent) (bookings : List BookedSegment) (was : DealAndTable)
    → Assured bookings was
    → Assured (after_answer (length was.deal) (collecting (collecting_code second tree was)) bookings)
    (after_deal_call (collect_into second tree) was)
collecting_assured second tree bookings was a =
    let d : ℕ = length was.deal in
    by_collecting_code second tree was (λ code now. Assured (after_answer d (collecting code) bookings) now)
    (λ code r.
    subst (λ (left : List BookedSegment). Assured left was)
    (sym (answer_refused (λ (k : ℕ). bookings) (moved d bookings) code r)) a)
    (λ facts. collected_assured bookings was facts.collectable a)
