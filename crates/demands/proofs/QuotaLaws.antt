-- When booking answers 22; and a deal that the two houses share, neither with more than half the slots: 13 is not
-- answered there, and it stays so.
use Rattle.std.specs.Prelude.{◌≡◌, refl, Bool, false, ◌&&◌, ◌||◌, ◌↔◌, ◌≢◌, ◌⊎◌, ℕ, suc, ◌+◌, ◌*◌, ◌%◌, ◌≤◌, ◌<◌}
use Rattle.std.specs.Prelude.{List, [], ◌∷◌, length, replicate, eqb}
use Rattle.std.proofs.Common.{sym, ap₂, ◌∙◌, subst, subst₂, true≢false, inl, inr, ⊎_elim}
use Rattle.std.proofs.Math.Path.{ap}
use Rattle.std.proofs.Math.Bool.{true}
use Rattle.std.proofs.Math.Decide.{ℕ_discrete}
use native.Mathlib.Omega.{arith}
use borrow.Author.Tests.{eqb-true, leb-true, leb-false, le-leb, not-false}
use Rattle.rules.specs.Search.{one}
use Rattle.sizes.specs.Sizes.{entry_count}
use Rattle.sizes.specs.SizesLaws.{DealSize}
use Rattle.lent.specs.LentDeal.{LentDeal, lent_deal, deal_size}
use Rattle.index.specs.Slots.{slot_at, standing}
use Rattle.index.specs.SlotsLaws.{zero_free}
use Rattle.index.specs.Written.{slot_of}
use Rattle.room.specs.Room.{is_empty}
use Rattle.room.specs.Decide.{answer_to}
use Rattle.room.specs.declared.Booked.{Booked}
use Rattle.room.specs.Decide.{Decision}
use Rattle.room.specs.Decide.{Refuse, Already, Place}
use Rattle.ranges.specs.Ranges.{ranges_of}
use Rattle.ranges.specs.RangesLaws.{range_empty}
use Rattle.houses.specs.Houses.{house_allowed, owner_at, owned, holds, held_count, with_owner}
use Rattle.houses.specs.HousesLaws.{owner_here, owner_other}
use Rattle.booking.specs.Write.{written_deal}
use Rattle.booking.specs.WriteLaws.{Fits, written_length, slot_same}
use Rattle.booking.specs.Booking.{held_in, decision, book_answer}
use Rattle.booking.specs.BookableLaws.{bookable_deal}
use Rattle.booking.proofs.BookingLaws.{half_held, books, no_slot, answer_is}
use Rattle.booking.specs.Outcomes.{Unkept}
use Rattle.booking.proofs.BookedLaws.{booked_unkept, booked_fits, booked_slot_in, by_booking}
use Rattle.cancel.specs.Cancel.{cancel_code, cancelled_deal, cancelled_table}
use Rattle.cancel.proofs.CancelLaws.{refused_same, cancelled_length, cancelled_slot, cancelled_slot_other}
use Rattle.cancel.proofs.OwnerCancelLaws.{refused_table, cancelled_owner_other}
use Rattle.collect.specs.Collect.{collected_deal, collected_table}
use Rattle.collect.specs.Collectable.{Collectable}
use Rattle.collect.proofs.CollectLaws.{collected_length}
use Rattle.collect.proofs.CollectPacked.{standing_from_lem}
use Rattle.collect.proofs.OwnersLaws.{owner_from}
use Rattle.demands.specs.Calls.{Call, book_segment, cancel_place, DealAndTable, answer_in, after_plain_call, run_calls}
use Rattle.demands.proofs.CallsLaws.{run_length}
use Rattle.demands.proofs.ZeroDealLaws.{none_stands}
use Rattle.demands.proofs.HeldLaws.{count_both, count_none, holds_is, slots_even}
use Rattle.demands.proofs.HeldLaws.{written_held, written_held_other, cancelled_held, cancelled_held_other}
use Rattle.demands.proofs.CollectedHeldLaws.{collected_held}
use Rattle.demands.specs.Shared.{Shared}

module _ (deal : LentDeal) (table : List ℕ) (house : ℕ) (segment : List ℕ) where
  -- a code that is neither 0 nor 15 comes from a refusal
  refusal : (c : ℕ) → c ≢ 0 → c ≢ 15 → (book_answer deal table house segment).code ≡ c
      → decision deal table house segment ≡ Refuse c
  refusal c placed kept h = by_cases (decision deal table house segment) refl
    where
      code_is : (x : Decision) → decision deal table house segment ≡ x
          → (answer_to (deal_size deal) (ranges_of deal.bytes) x).code ≡ c
      code_is x e = sym (ap (λ (b : Booked). b.code) (answer_is deal table house segment x e)) ∙ h

      by_cases : (x : Decision) → decision deal table house segment ≡ x
          → decision deal table house segment ≡ Refuse c
      by_cases (Refuse k) e = e ∙ ap Refuse (code_is (Refuse k) e)
      by_cases (Already i) e = absurd (kept (sym (code_is (Already i) e)))
      by_cases (Place i o) e = absurd (placed (sym (code_is (Place i o) e)))

  abbrev slots : ℕ
  slots = entry_count (deal_size deal)

  abbrev held : ℕ
  held = held_in deal.bytes table house

  pub answers_22 :
      ((book_answer deal table house segment).code ≡ 22)
      ↔ (Unkept deal table house segment × (entry_count (deal_size deal) ≤ 2 * held_in deal.bytes table house))
  answers_22 = (
    λ e.
        let x = (half_held deal table house segment).0 (refusal 22 (λ z. omega arith) (λ z. omega arith) e) in
        (x.0, leb-true slots (2 * held) x.1),
    λ b.
        ap (λ (a : Booked). a.code)
        (answer_is deal table house segment (Refuse 22)
        ((half_held deal table house segment).1 (b.0, le-leb slots (2 * held) b.1))),
  )

-- house 1 or house 2, and not both
pub one_of_two : (x : ℕ) → house_allowed x ≡ true → one (eqb x 1) + one (eqb x 2) ≡ 1
one_of_two x e = by_tests (eqb x 1) (eqb x 2) refl refl e
  where
    by_tests : (a b : Bool) → eqb x 1 ≡ a → eqb x 2 ≡ b → (a || b) ≡ true → one a + one b ≡ 1
    by_tests true true p q t = absurd (omega (arith, eqb-true x 1 p, eqb-true x 2 q))
    by_tests true false p q t = refl
    by_tests false true p q t = refl
    by_tests false false p q t = absurd (true≢false (sym t))

pub is_house : (x : ℕ) → house_allowed x ≡ true → (x ≡ 1) ⊎ (x ≡ 2)
is_house x e = by_tests (eqb x 1) (eqb x 2) refl refl e
  where
    by_tests : (a b : Bool) → eqb x 1 ≡ a → eqb x 2 ≡ b → (a || b) ≡ true → (x ≡ 1) ⊎ (x ≡ 2)
    by_tests true b p q t = inl (eqb-true x 1 p)
    by_tests false true p q t = inr (eqb-true x 2 q)
    by_tests false false p q t = absurd (true≢false (sym t))

-- a shared deal: with no slot free the two houses hold all of them
module _ (now : DealAndTable) (s : Shared now) where
  abbrev d : ℕ
  d = length now.deal

  abbrev held_by : ℕ → ℕ
  held_by house = held_in now.deal now.table house

  all_held : DealSize (length now.deal)
      → ((j : ℕ) → j < entry_count (length now.deal) → is_empty (ranges_of now.deal j) ≡ false)
      → held_by 1 + held_by 2 ≡ entry_count (length now.deal)
  unfolding held_count
  all_held t full =
      count_both (holds (ranges_of now.deal) now.table 1) (holds (ranges_of now.deal) now.table 2) 0
      (entry_count d)
      (λ j a b.
      let h : j < entry_count d = omega arith in
      let stands : standing d (slot_at now.deal j) ≡ true =
      not-false (standing d (slot_at now.deal j))
      (sym (range_empty d (slot_at now.deal j) t) ∙ full j h) in
      rw (full j h) (one_of_two (owner_at now.table j) (s.all_owned j h stands)))

  pub shared_not_13 : (house : ℕ) (segment : List ℕ) → (answer_in now house segment).code ≢ 13
  shared_not_13 house segment e =
      let x = (no_slot (lent_deal now.deal) now.table house segment).0
      (refusal (lent_deal now.deal) now.table house segment 13 (λ z. omega arith) (λ z. omega arith) e) in
      let ready = x.0.bookable in
      let both = all_held (bookable_deal ready.bookable).deal x.2.none_free in
      let below = leb-false (entry_count d) (2 * held_by house) x.1 in
      ⊎_elim
      (λ is_1. omega (arith, both, below, ap held_by is_1, s.half_at_most 1, s.half_at_most 2))
      (λ is_2. omega (arith, both, below, ap held_by is_2, s.half_at_most 1, s.half_at_most 2))
      (is_house house ready.house_allowed_lem)

-- a slot more, where fewer than half of an even number are held
one_more : (slots held : ℕ) → slots % 2 ≡ 0 → 2 * held < slots → 2 * suc held ≤ slots
one_more slots held e h = omega arith

-- it stays so after a booking, where a segment is written ..
module _ (was : DealAndTable) (s : Shared was) (by : ℕ) (segment : List ℕ) (i o : ℕ)
    (e : decision (lent_deal was.deal) was.table by segment ≡ Place i o) where
  facts : Fits was.deal segment i o
  facts = booked_fits (lent_deal was.deal) was.table by segment i o e

  in_table : i < length was.table
  in_table = booked_slot_in (lent_deal was.deal) was.table by segment i o e

  abbrev after : List ℕ
  after = written_deal was.deal segment i o

  abbrev ours : List ℕ
  ours = with_owner was.table i by

  same_count : entry_count (length after) ≡ entry_count (length was.deal)
  same_count = ap entry_count (written_length facts)

  all_owned_then : (j : ℕ) → j < entry_count (length after) → standing (length after) (slot_at after j) ≡ true
      → house_allowed (owner_at ours j) ≡ true
  all_owned_then j h stands =
      elim (ℕ_discrete j i) [
        | yes new ↦
            ap house_allowed (ap (owner_at ours) new ∙ owner_here was.table i by in_table)
            ∙ (booked_unkept (lent_deal was.deal) was.table by segment i o e).bookable.house_allowed_lem
        | no old ↦
            let h' : j < entry_count (length was.deal) = omega (arith, same_count) in
            ap house_allowed (owner_other was.table i by in_table j old)
            ∙ s.all_owned j h'
            (ap₂ standing (sym (written_length facts)) (sym (slot_same facts j h' old)) ∙ stands)
      ]

  -- the house held less than half an even number of slots
  booker_half : 2 * held_in after ours by ≤ entry_count (length after)
  booker_half =
      let slots = entry_count (length was.deal) in
      let held = held_in was.deal was.table by in
      let below = leb-false slots (2 * held) ((books (lent_deal was.deal) was.table by segment i o).0 e).1 in
      let even = slots_even (length was.deal) (bookable_deal facts.bookable).deal in
      omega (arith, same_count, one_more slots held even below, written_held facts was.table by in_table)

  half_then : (house : ℕ) → 2 * held_in after ours house ≤ entry_count (length after)
  half_then house =
      elim (ℕ_discrete by house) [
        | yes same ↦ subst (λ (h : ℕ). 2 * held_in after ours h ≤ entry_count (length after)) same booker_half
        | no ne ↦
            let others = written_held_other facts was.table by in_table house ne in
            omega (arith, same_count, s.half_at_most house, others)
      ]

-- .. or nothing is
booking_shared : (was : DealAndTable) → Shared was → (by : ℕ) (segment : List ℕ)
    → Shared (after_plain_call (book_segment by segment) was)
booking_shared was s by segment =
    by_booking (lent_deal was.deal) was.table by segment (λ x y. Shared (record { deal = x; table = y }))
    (record { all_owned = s.all_owned; half_at_most = s.half_at_most })
    (λ i o e.
    record {
      all_owned = all_owned_then was s by segment i o e;
      half_at_most = half_then was s by segment i o e;
    })

-- .. and after a cancellation, with code 0 ..
module _ (was : DealAndTable) (s : Shared was) (by place : ℕ)
    (e : cancel_code (lent_deal was.deal) was.table by place ≡ 0) where
  abbrev deal : LentDeal
  deal = lent_deal was.deal

  abbrev table : List ℕ
  table = was.table

  abbrev left : List ℕ
  left = cancelled_deal deal table by place

  abbrev cleared : List ℕ
  cleared = cancelled_table deal table by place

  same_slots : entry_count (length left) ≡ entry_count (length was.deal)
  same_slots = ap entry_count (cancelled_length deal table by place)

  still_owned : (j : ℕ) → j < entry_count (length left) → standing (length left) (slot_at left j) ≡ true
      → house_allowed (owner_at cleared j) ≡ true
  still_owned j h stands =
      let h' : j < entry_count (length was.deal) = omega (arith, same_slots) in
      elim (ℕ_discrete j (slot_of (length was.deal) place)) [
        | yes here ↦
            absurd
            (true≢false
            (sym stands
            ∙ ap (λ (k : ℕ). standing (length left) (slot_at left k)) here
            ∙ ap (standing (length left)) (cancelled_slot deal table by place e)
            ∙ zero_free (length left)))
        | no other ↦
            ap house_allowed (cancelled_owner_other deal table by place j other)
            ∙ s.all_owned j h'
            (ap₂ standing (sym (cancelled_length deal table by place))
            (sym (cancelled_slot_other deal table by place j h' other))
            ∙ stands)
      ]

  still_half : (house : ℕ) → 2 * held_in left cleared house ≤ entry_count (length left)
  still_half house =
      elim (ℕ_discrete by house) [
        | yes mine ↦
            subst (λ (h : ℕ). 2 * held_in left cleared h ≤ entry_count (length left)) mine
            (omega (arith, same_slots, s.half_at_most by, cancelled_held deal table by place e))
        | no ne ↦
            omega (arith, same_slots, s.half_at_most house, cancelled_held_other deal table by place e house ne)
      ]

-- .. or any other
cancelling_shared : (was : DealAndTable) → Shared was → (by place : ℕ)
    → Shared (after_plain_call (cancel_place by place) was)
cancelling_shared was s by place =
    let lent = lent_deal was.deal in
    elim (ℕ_discrete (cancel_code lent was.table by place) 0) [
      | yes e ↦ record { all_owned = still_owned was s by place e; half_at_most = still_half was s by place e }
      | no r ↦
          subst₂ (λ (x y : List ℕ). Shared (record { deal = x; table = y }))
          (sym (refused_same lent was.table by place r)) (sym (refused_table lent was.table by place r))
          (record { all_owned = s.all_owned; half_at_most = s.half_at_most })
    ]

call_shared : (was : DealAndTable) → Shared was → (call : Call) → Shared (after_plain_call call was)
call_shared was s (book_segment by segment) = booking_shared was s by segment
call_shared was s (cancel_place by place) = cancelling_shared was s by place

pub run_shared : (was : DealAndTable) → Shared was → (calls : List Call) → Shared (run_calls was calls)
unfolding run_calls
run_shared was s [] = s
run_shared was s (call ∷ later) = run_shared (after_plain_call call was) (call_shared was s call) later

-- the collected deal is shared where the deal was
pub collected_shared : (deal table : List ℕ) → Collectable deal → Shared (record { deal = deal; table = table })
    → Shared (record { deal = collected_deal deal; table = collected_table deal table })
collected_shared deal table c s =
    let slots = ap entry_count (collected_length c) in
    record {
      all_owned = λ x h stands.
          let from = standing_from_lem c x (omega (arith, slots)) stands in
          ap house_allowed (owner_from c table x from) ∙ s.all_owned from.old from.old_in from.stood;
      half_at_most = λ house. omega (arith, slots, s.half_at_most house, collected_held c table house);
    }

-- an all-zero deal is shared: none of its slots is taken
module _ (d : ℕ) (table : List ℕ) where
  abbrev zeros : List ℕ
  zeros = replicate d 0

  abbrev start : DealAndTable
  start = record { deal = zeros; table = table }

  zeros_shared : DealSize (length zeros) → Shared start
  unfolding held_count
  zeros_shared t =
      record {
        all_owned = λ i h stands. absurd (true≢false (sym stands ∙ none_stands d i t h));
        half_at_most = λ house.
            let none = count_none (holds (ranges_of zeros) table house) 0 (entry_count (length zeros))
            (λ j a b.
            holds_is zeros table t house j
            ∙ ap (λ (x : Bool). x && owned table house j) (none_stands d j t (omega arith))) in
            omega (arith, none);
      }

  -- a run from it does not come to 13
  pub zeros_not_13 : (calls : List Call) (house : ℕ) (segment : List ℕ)
      → (answer_in (run_calls (record { deal = replicate d 0; table = table }) calls) house segment).code ≢ 13
  zeros_not_13 calls house segment e =
      let now = run_calls start calls in
      let x = (no_slot (lent_deal now.deal) now.table house segment).0
      (refusal (lent_deal now.deal) now.table house segment 13 (λ z. omega arith) (λ z. omega arith) e) in
      let t : DealSize (length zeros) =
      subst DealSize (run_length start calls) (bookable_deal x.0.bookable.bookable).deal in
      shared_not_13 now (run_shared start (zeros_shared t) calls) house segment e
