-- An all-zero deal is sound, and every call leaves a sound deal sound: bookings and cancellations, whatever is lent
-- beside the deal, and collections.
use Rattle.std.specs.Prelude.{◌≡◌, true, ◌⊎◌, ℕ, ◌<◌, List, length, replicate}
use Rattle.std.proofs.Common.{sym, ap, ◌∙◌, subst, true≢false, inl, inr, ⊎_elim, arith}
use Rattle.std.proofs.Math.Decide.{ℕ_discrete, dec_lt}
use Rattle.std.proofs.lemmas.List.{length-replicate}
use Rattle.sizes.specs.Sizes.{lent_size_allowed, entry_count}
use Rattle.sizes.specs.SizesLaws.{lent_size}
use Rattle.lent.specs.LentDeal.{LentDeal, lent_deal, deal_size}
use Rattle.index.specs.Slots.{slot_at, standing, kept_at}
use Rattle.index.specs.SlotsLaws.{zero_free}
use Rattle.index.specs.Written.{slot_of}
use Rattle.ranges.specs.Ranges.{ranges_of}
use Rattle.packing.specs.Order.{ranges_count}
use Rattle.booking.specs.Write.{written_deal}
use Rattle.booking.specs.WriteLaws.{Fits, written_length, written_clear, slot_same, kept_written, kept_same}
use Rattle.booking.specs.Booking.{booked_deal}
use Rattle.booking.proofs.BookedLaws.{booked_fits, by_booking}
use Rattle.cancel.specs.Cancel.{cancel_code, cancelled_deal}
use Rattle.cancel.proofs.CancelLaws.{refused_same, cancelled_length, cancelled_clear, cancelled_slot}
use Rattle.cancel.proofs.CancelLaws.{cancelled_slot_other, cancelled_kept_other}
use Rattle.collect.specs.Collect.{collected_deal}
use Rattle.collect.specs.Collectable.{Collectable}
use Rattle.collect.specs.ZerosLaws.{zeros_clear}
use Rattle.collect.proofs.CollectLaws.{collected_length, collected_blank}
use Rattle.collect.proofs.CollectPacked.{collected_from, collected_apart}
use Rattle.collect.specs.Collectable.{From}
use Rattle.collect.proofs.CollectClear.{collected_clear}
use Rattle.demands.specs.Calls.{Call, book_segment, cancel_place, DealAndTable, deal_after_call}
use Rattle.demands.specs.DealCalls.{lent_beside, DealCall, on_deal, collect_into, after_deal_call, run_deal_calls}
use Rattle.demands.proofs.DealCallsLaws.{same_bytes_lem, by_collecting, by_calls}
use Rattle.demands.proofs.ZeroDealLaws.{all_blank}
use Rattle.demands.proofs.NoneOverlapLaws.{written_apart, cancelled_apart, zeros_apart}
use Rattle.demands.specs.Sound.{IsBlank, IsKept, Sound}

-- an all-zero deal of an allowed size
pub zeros_sound : (d : ℕ) → lent_size_allowed d ≡ true → Sound (replicate d 0)
zeros_sound d l =
    let size : lent_size_allowed (length (replicate {A = ℕ} d 0)) ≡ true =
    ap lent_size_allowed (length-replicate {A = ℕ} d 0) ∙ l in
    let t = (lent_size (length (replicate {A = ℕ} d 0)) size).deal in
    record {
      size_allowed = size;
      clear = zeros_clear d;
      blank_or_kept = λ i h. inl (all_blank d i t h);
      apart = zeros_apart d t;
    }

-- a slot that is as it was, entry and area
slot_stays : (deal after : List ℕ) (i : ℕ) → slot_at after i ≡ slot_at deal i
    → kept_at (lent_deal after) i ≡ kept_at (lent_deal deal) i → IsBlank deal i ⊎ IsKept deal i
    → IsBlank after i ⊎ IsKept after i
slot_stays deal after i same kept = ⊎_elim (λ blank. inl (same ∙ blank)) (λ k. inr (kept ∙ k))

-- a segment is written: its slot is kept, and every other is as it was
written_sound : {deal segment : List ℕ} {i o : ℕ} → Fits deal segment i o → Sound deal
    → Sound (written_deal deal segment i o)
written_sound {deal} {segment} {i} {o} facts s =
    let after : List ℕ = written_deal deal segment i o in
    record {
      size_allowed = ap lent_size_allowed (written_length facts) ∙ s.size_allowed;
      clear = written_clear facts;
      blank_or_kept = λ j h.
          elim (ℕ_discrete j i) [
            | yes new ↦ inr (subst (IsKept after) (sym new) (kept_written facts))
            | no old ↦
                let h' : j < entry_count (length deal) = omega (arith, ap entry_count (written_length facts)) in
                slot_stays deal after j (slot_same facts j h' old) (kept_same facts j h' old) (s.blank_or_kept j h')
          ];
      apart = written_apart facts s.apart;
    }

booked_sound : (deal : LentDeal) (table : List ℕ) (house : ℕ) (segment : List ℕ) → Sound deal.bytes
    → Sound (booked_deal deal table house segment)
booked_sound deal table house segment s =
    by_booking deal table house segment (λ x y. Sound x) s
    (λ i o e. written_sound (booked_fits deal table house segment i o e) s)

-- an entry is cancelled: its slot is blank, and every other is as it was
module _ (deal : LentDeal) (table : List ℕ) (house place : ℕ) where
  abbrev left : List ℕ
  left = cancelled_deal deal table house place

  same_length : length left ≡ deal_size deal
  same_length = cancelled_length deal table house place

  zeroed_sound : cancel_code deal table house place ≡ 0 → Sound deal.bytes → Sound left
  zeroed_sound e s =
      record {
        size_allowed = ap lent_size_allowed same_length ∙ s.size_allowed;
        clear = cancelled_clear deal table house place s.clear;
        blank_or_kept = λ j h.
            let h' : j < entry_count (deal_size deal) = omega (arith, ap entry_count same_length) in
            elim (ℕ_discrete j (slot_of (deal_size deal) place)) [
              | yes here ↦ inl (subst (IsBlank left) (sym here) (cancelled_slot deal table house place e))
              | no other ↦
                  slot_stays deal.bytes left j (cancelled_slot_other deal table house place j h' other)
                  (cancelled_kept_other deal table house place j h' other) (s.blank_or_kept j h')
            ];
        apart = cancelled_apart deal table house place s.apart;
      }

  cancelled_sound : Sound deal.bytes → Sound (cancelled_deal deal table house place)
  cancelled_sound s =
      elim (ℕ_discrete (cancel_code deal table house place) 0) [
        | yes e ↦ zeroed_sound e s
        | no r ↦ subst Sound (sym (refused_same deal table house place r)) s
      ]

-- a sound deal is collected: each standing entry was kept and goes on being so, and every slot past them is blank
module _ {deal : List ℕ} (c : Collectable deal) (s : Sound deal) where
  moved_kept : (x : ℕ) → From deal x → IsKept (collected_deal deal) x
  moved_kept x f =
      ⊎_elim
      (λ blank.
      let none = ap (standing (length deal)) blank ∙ zero_free (length deal) in
      absurd (true≢false (sym f.stood ∙ none)))
      (λ k. f.kept_is ∙ k)
      (s.blank_or_kept f.old f.old_in)

  pub collected_sound : Sound (collected_deal deal)
  collected_sound =
      record {
        size_allowed = ap lent_size_allowed (collected_length c) ∙ s.size_allowed;
        clear = collected_clear c s.clear;
        blank_or_kept = λ x h.
            elim (dec_lt x (ranges_count (ranges_of deal) (entry_count (length deal)))) [
              | yes l ↦ inr (moved_kept x (collected_from c x l))
              | no m ↦ inl (collected_blank c x (omega arith) (omega (arith, ap entry_count (collected_length c))))
            ];
        apart = collected_apart c;
      }

-- so every call leaves a sound deal, ..
on_deal_sound : (call : Call) (deal : LentDeal) (table : List ℕ) → Sound deal.bytes
    → Sound (deal_after_call call deal table)
on_deal_sound (book_segment house segment) deal table s = booked_sound deal table house segment s
on_deal_sound (cancel_place house place) deal table s = cancelled_sound deal table house place s

pub call_sound : (call : DealCall) (was : DealAndTable) → Sound was.deal → Sound (after_deal_call call was).deal
call_sound (on_deal call tree) was s =
    on_deal_sound call (lent_beside tree was.deal) was.table (subst Sound (sym (same_bytes_lem tree was.deal)) s)
call_sound (collect_into second tree) was s =
    by_collecting second tree was (λ now. Sound now.deal) s (λ c. collected_sound c.collectable s)

-- .. and so does every run
pub run_sound : (calls : List DealCall) (was : DealAndTable) → Sound was.deal → Sound (run_deal_calls was calls).deal
run_sound = by_calls (λ now. Sound now.deal) call_sound
