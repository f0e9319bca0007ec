-- The calls that change a deal leave standing entries that keep the segments of their bookings alone: an all-zero deal
-- has none, a booking adds one that keeps its segment, a cancellation takes one away, and a collection moves them.
-- What a slot that keeps a segment holds: the segment's size and commitment, and at its offset the segment.
use Rattle.std.specs.Prelude.{◌≡◌, refl, true, ℕ, ◌<◌, length, replicate}
use Rattle.std.proofs.Common.{sym, ap, ap₂, ◌∙◌, subst, true≢false, inl, inr, add-zero, arith}
use Rattle.std.proofs.Math.Decide.{ℕ_discrete}
use mathlib.Core.List.{List, [], ◌∷◌}
use Rattle.octets.specs.FillLaws.{filled_head}
use Rattle.octets.specs.Splice.{part}
use Rattle.octets.specs.SpliceLaws.{part_part}
use Rattle.merkle.specs.Tree.{commitment_of, node_at}
use Rattle.sizes.specs.Sizes.{lent_size_allowed, area, segment_level, entry_count}
use Rattle.sizes.specs.SizesLaws.{DealSize, lent_size, index_start_le}
use Rattle.entries.specs.Entry.{commitment_in, offset_in, size_in}
use Rattle.lent.specs.LentDeal.{LentDeal, lent_deal, deal_size}
use Rattle.index.specs.Slots.{slot_at, standing}
use Rattle.index.specs.SlotsLaws.{zero_free, keeps}
use Rattle.index.specs.KeptLaws.{segment_node}
use Rattle.index.specs.KeptRowsLaws.{standing_size, standing_place}
use Rattle.index.specs.Written.{slot_of}
use Rattle.booking.specs.Write.{segment_commitment, written_deal}
use Rattle.booking.specs.WriteLaws.{Fits, written_length, slot_same}
use Rattle.booking.specs.KeepLaws.{keeps_parts, keeps_stands, keeps_written, keeps_same}
use Rattle.booking.specs.Booking.{keeps_segment, booked_deal}
use Rattle.booking.proofs.BookedLaws.{booked_fits, by_booking}
use Rattle.cancel.specs.Cancel.{cancel_code, cancelled_deal}
use Rattle.cancel.proofs.CancelLaws.{refused_same, cancelled_length, cancelled_slot, cancelled_slot_other}
use Rattle.collect.specs.Collect.{collected_deal}
use Rattle.collect.specs.Collectable.{Collectable}
use Rattle.collect.proofs.CollectLaws.{collected_length}
use Rattle.collect.proofs.CollectPacked.{standing_from_lem}
use Rattle.demands.specs.Calls.{book_segment, cancel_place, DealAndTable}
use Rattle.demands.proofs.CancelKeepLaws.{cancelled_keeps_other}
use Rattle.demands.proofs.CollectKeepLaws.{collected_keeps}
use Rattle.demands.specs.DealCalls.{lent_beside, DealCall, on_deal, collect_into, BooksIt, BookedIn, after_deal_call}
use Rattle.demands.specs.DealCalls.{run_deal_calls}
use Rattle.demands.proofs.DealCallsLaws.{same_bytes_lem, by_collecting}
use Rattle.demands.proofs.ZeroDealLaws.{none_stands}
use Rattle.demands.specs.Sound.{Sound}
use Rattle.demands.proofs.SoundLaws.{zeros_sound, call_sound}
use Rattle.demands.specs.KeepsOnly.{KeepsOne, KeepsOnly}

-- a slot that keeps a segment: its entry names the segment's size and commitment
module _ (deal segment : List ℕ) (i : ℕ) (t : DealSize (length deal))
    (k : keeps_segment (lent_deal deal) segment i ≡ true) where
  abbrev entry : List ℕ
  entry = slot_at deal i

  pub keeps_size : size_in (slot_at deal i) ≡ length segment
  keeps_size = (keeps_parts (lent_deal deal) segment i k).1

  pub keeps_commitment_lem : commitment_in (slot_at deal i) ≡ segment_commitment segment
  keeps_commitment_lem =
      let p = keeps_parts (lent_deal deal) segment i k in
      let s = keeps_stands (lent_deal deal) segment i k in
      let d = length deal in
      sym (keeps (node_at deal) d entry p.0).node_is
      ∙ segment_node deal d (offset_in entry) (size_in entry) (standing_size d entry t s) (standing_place d entry t s)
      ∙ ap (λ (n : ℕ). commitment_of (segment_level n) (part deal (offset_in entry) (area n))) keeps_size
      ∙ ap (commitment_of (segment_level (length segment))) p.2

  -- and the segment's bytes are at its offset
  pub keeps_view : part deal (offset_in (slot_at deal i)) (size_in (slot_at deal i)) ≡ segment
  keeps_view =
      let s = keeps_stands (lent_deal deal) segment i k in
      let d = length deal in
      let o = offset_in entry in
      let n = area (length segment) in
      let same = ap area keeps_size in
      ap₂ (part deal) (sym (add-zero o)) keeps_size
      ∙ sym
      (part_part deal o n 0 (length segment) (omega (arith, (standing_size d entry t s).size_area, keeps_size))
      (omega (arith, (standing_place d entry t s).ends, index_start_le d)))
      ∙ ap (λ (x : List ℕ). part x 0 (length segment)) (keeps_parts (lent_deal deal) segment i k).2
      ∙ filled_head n segment

module _ (P : List ℕ → Type 0) where
  -- a slot that keeps what it kept in another deal, or in another slot
  keeps_on : (deal after : List ℕ) (i j : ℕ) → KeepsOne P deal i
      → ((segment : List ℕ) → keeps_segment (lent_deal after) segment j ≡ keeps_segment (lent_deal deal) segment i)
      → KeepsOne P after j
  keeps_on deal after i j k same =
      record {
        segment = k.segment;
        of_kind_lem = k.of_kind_lem;
        keeps_it = same k.segment ∙ k.keeps_it;
      }

  -- an all-zero deal: no entry stands
  pub zeros_keep : (d : ℕ) → lent_size_allowed d ≡ true → KeepsOnly P (replicate d 0)
  zeros_keep d l =
      let sound : Sound (replicate d 0) = zeros_sound d l in
      let t = (lent_size (length (replicate {A = ℕ} d 0)) sound.size_allowed).deal in
      record { sound = sound; each_keeps = λ i h s. absurd (true≢false (sym s ∙ none_stands d i t h)) }

  -- a segment is written: its slot keeps it, and every other slot what it kept
  written_keeps : {deal segment : List ℕ} {i o : ℕ} → Fits deal segment i o → P segment → KeepsOnly P deal
      → (j : ℕ) → j < entry_count (length (written_deal deal segment i o))
      → standing (length (written_deal deal segment i o)) (slot_at (written_deal deal segment i o) j) ≡ true
      → KeepsOne P (written_deal deal segment i o) j
  written_keeps {deal} {segment} {i} {o} facts p k j h s =
      let after : List ℕ = written_deal deal segment i o in
      elim (ℕ_discrete j i) [
        | yes new ↦
            record {
              segment = segment;
              of_kind_lem = p;
              keeps_it = ap (keeps_segment (lent_deal after) segment) new ∙ keeps_written facts;
            }
        | no old ↦
            let h' : j < entry_count (length deal) = omega (arith, ap entry_count (written_length facts)) in
            let stood = ap₂ standing (sym (written_length facts)) (sym (slot_same facts j h' old)) ∙ s in
            keeps_on deal after j j (k.each_keeps j h' stood) (λ other. keeps_same facts other j h' old)
      ]

  booked_keeps : (deal : LentDeal) (table : List ℕ) (house : ℕ) (segment : List ℕ) → P segment
      → KeepsOnly P deal.bytes → (j : ℕ) → j < entry_count (length (booked_deal deal table house segment))
      → standing (length (booked_deal deal table house segment)) (slot_at (booked_deal deal table house segment) j)
      ≡ true
      → KeepsOne P (booked_deal deal table house segment) j
  booked_keeps deal table house segment p k =
      by_booking deal table house segment
      (λ x y. (j : ℕ) → j < entry_count (length x) → standing (length x) (slot_at x j) ≡ true → KeepsOne P x j)
      k.each_keeps
      (λ i o e. written_keeps (booked_fits deal table house segment i o e) p k)

  -- an entry is cancelled: nothing stands in its slot, and every other slot keeps what it kept
  module _ (deal : LentDeal) (table : List ℕ) (house place : ℕ) (k : KeepsOnly P deal.bytes) where
    abbrev left : List ℕ
    left = cancelled_deal deal table house place

    abbrev slot : ℕ
    slot = slot_of (deal_size deal) place

    same_length : length left ≡ deal_size deal
    same_length = cancelled_length deal table house place

    zeroed_keeps : cancel_code deal table house place ≡ 0 → (j : ℕ) → j < entry_count (length left)
        → standing (length left) (slot_at left j) ≡ true → KeepsOne P left j
    zeroed_keeps e j h s =
        let h' : j < entry_count (deal_size deal) = omega (arith, ap entry_count same_length) in
        elim (ℕ_discrete j slot) [
          | yes here ↦
              let blank = ap (slot_at left) here ∙ cancelled_slot deal table house place e in
              absurd (true≢false (sym s ∙ ap (standing (length left)) blank ∙ zero_free (length left)))
          | no other ↦
              let stood = ap₂ standing (sym same_length) (sym (cancelled_slot_other deal table house place j h' other))
              ∙ s in
              keeps_on deal.bytes left j j (k.each_keeps j h' stood)
              (λ segment. cancelled_keeps_other deal table house place e segment j h' other)
        ]

    cancelled_keeps : (j : ℕ) → j < entry_count (length (cancelled_deal deal table house place))
        → standing (length (cancelled_deal deal table house place)) (slot_at (cancelled_deal deal table house place) j)
        ≡ true
        → KeepsOne P (cancelled_deal deal table house place) j
    cancelled_keeps =
        elim (ℕ_discrete (cancel_code deal table house place) 0) [
          | yes e ↦ zeroed_keeps e
          | no r ↦
              subst
              (λ (x : List ℕ).
              (j : ℕ) → j < entry_count (length x) → standing (length x) (slot_at x j) ≡ true → KeepsOne P x j)
              (sym (refused_same deal table house place r)) k.each_keeps
        ]

  -- the deal is collected: each standing entry was in an old slot, and keeps what it kept there
  collected_keep : {deal : List ℕ} → Collectable deal → KeepsOnly P deal → (x : ℕ)
      → x < entry_count (length (collected_deal deal))
      → standing (length (collected_deal deal)) (slot_at (collected_deal deal) x) ≡ true
      → KeepsOne P (collected_deal deal) x
  collected_keep {deal} c k x h s =
      let from = standing_from_lem c x (omega (arith, ap entry_count (collected_length c))) s in
      let new : List ℕ = collected_deal deal in
      keeps_on deal new from.old x (k.each_keeps from.old from.old_in from.stood)
      (λ segment.
      ap (keeps_segment (lent_deal new) segment) (sym from.moves)
      ∙ collected_keeps c from.old from.old_in from.stood segment)

  -- so every call leaves such a deal, where the segment that it books is of the kind, ..
  each_after : (call : DealCall) (was : DealAndTable) → ((segment : List ℕ) → BooksIt call segment → P segment)
      → KeepsOnly P was.deal → (j : ℕ) → j < entry_count (length (after_deal_call call was).deal)
      → standing (length (after_deal_call call was).deal) (slot_at (after_deal_call call was).deal j) ≡ true
      → KeepsOne P (after_deal_call call was).deal j
  each_after (on_deal (book_segment house segment) tree) was books k =
      booked_keeps (lent_beside tree was.deal) was.table house segment (books segment refl)
      (subst (KeepsOnly P) (sym (same_bytes_lem tree was.deal)) k)
  each_after (on_deal (cancel_place house place) tree) was books k =
      cancelled_keeps (lent_beside tree was.deal) was.table house place
      (subst (KeepsOnly P) (sym (same_bytes_lem tree was.deal)) k)
  each_after (collect_into second tree) was books k =
      by_collecting second tree was
      (λ now.
      (j : ℕ) → j < entry_count (length now.deal) → standing (length now.deal) (slot_at now.deal j) ≡ true
      → KeepsOne P now.deal j)
      k.each_keeps (λ c. collected_keep c.collectable k)

  pub call_keeps : (call : DealCall) (was : DealAndTable) → ((segment : List ℕ) → BooksIt call segment → P segment)
      → KeepsOnly P was.deal → KeepsOnly P (after_deal_call call was).deal
  call_keeps call was books k =
      record { sound = call_sound call was k.sound; each_keeps = each_after call was books k }

  -- .. and so does every run
  pub run_keeps : (calls : List DealCall) (was : DealAndTable)
      → ((segment : List ℕ) → BookedIn calls segment → P segment) → KeepsOnly P was.deal
      → KeepsOnly P (run_deal_calls was calls).deal
  unfolding run_deal_calls
  run_keeps [] was books k = k
  run_keeps (call ∷ later) was books k =
      run_keeps later (after_deal_call call was) (λ segment b. books segment (inr b))
      (call_keeps call was (λ segment b. books segment (inl b)) k)
