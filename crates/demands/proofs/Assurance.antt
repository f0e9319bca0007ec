-- Request (xiii), the whole year's assurance (document 02: "Over any run of bookings, cancellations and collections
-- from an all-zero deal, the deal and the house table changed by these calls alone (after a collection answered 0 the
-- second ones take their place), any tree buffer as (vii) asks, we want this shown: no house has two standing entries
-- with equal T and equal bytes; standing areas never overlap; every booking answered 0 and not cancelled since is kept
-- with its T and bytes, at its booked place or where collections moved it; building there, given enough output, gives a
-- record that the check accepts against the deal's commitment then, its size and the deal number built with. The sum of
-- standing areas equals the areas booked with 0 less those cancelled with 0, taken from the history of calls").
-- A call, and what it leaves: DealCall and after_deal_call in DealCalls. Which runs: Year. Their answers: history_of in
-- Year. What these say is booked, and where: History. The invariant that carries all five: Assured. Every beginning of
-- a year is a year, so all of this holds after each call.
use Rattle.std.specs.Prelude.{◌≡◌, true, ◌≢◌, ℕ, ◌+◌, ◌^◌, ◌<◌, List, [], ◌∷◌, ◌++◌, length, eqb}
use Rattle.std.proofs.Common.{ap, ◌∙◌, subst, arith}
use Rattle.std.proofs.lemmas.List.{length-replicate}
use Rattle.rules.specs.Search.{one}
use Rattle.merkle.specs.Tree.{commitment_of}
use Rattle.sizes.specs.Sizes.{lent_size_allowed, area, entry_count, slot_place, deal_level}
use Rattle.entries.specs.Entry.{offset_in}
use Rattle.index.specs.Slots.{slot_at, standing}
use Rattle.room.specs.declared.Booked.{Booked}
use Rattle.packing.specs.Apart.{Beside}
use Rattle.booking.specs.Booking.{book_answer}
use Rattle.record.specs.Check.{deal_terms, check_of}
use Rattle.demands.specs.BuildsExactly.{BuildsExactly}
use Rattle.demands.specs.Calls.{book_segment, DealAndTable}
use Rattle.demands.specs.DealCalls.{TreeLent, lent_beside, TreeAsAsked, DealCall, on_deal, after_deal_call}
use Rattle.demands.specs.DealCalls.{run_deal_calls, all_zero_deal}
use Rattle.demands.proofs.DealCallsLaws.{deal_run_length}
use Rattle.demands.proofs.Collecting.{Stands, standing_sum}
use Rattle.demands.specs.History.{Answered, booking, BookedSegment, booked_with, Among, sum_of, after_answer}
use Rattle.demands.specs.History.{uncancelled, followed, NeverCancelled, areas_booked, areas_cancelled}
use Rattle.demands.proofs.FollowedLaws.{NoneCollects, followed_same, followed_unmoved}
use Rattle.demands.specs.Year.{history_of, Year, SegmentsAreBytes, StandsFor, size_at, segment_at, KeptThere}
use Rattle.demands.specs.Assured.{Assured}
use Rattle.demands.proofs.HistoryLaws.{booked_and_cancelled}
use Rattle.demands.proofs.AssuredLaws.{year_assured, year_bytes}
use Rattle.demands.proofs.OneBookingLaws.{counted}
use Rattle.demands.proofs.YearLaws.{kept_there, areas_apart, record_there, still_booked}

-- A year's calls from an all-zero deal of any allowed size, with whatever table.
module _ (d : ℕ) (table : List ℕ) (calls : List DealCall) (l : lent_size_allowed d ≡ true)
    (year : Year (all_zero_deal d table) calls) where
  -- the deal and the table then, and the history of the calls
  abbrev now : DealAndTable
  now = run_deal_calls (all_zero_deal d table) calls

  abbrev deal : List ℕ
  deal = now.deal

  abbrev history : List Answered
  history = history_of (all_zero_deal d table) calls

  -- the deal has the size that it began with
  pub size_stays : length deal ≡ d
  size_stays = deal_run_length calls (all_zero_deal d table) ∙ length-replicate d 0

  slot_in : (i : ℕ) → i < entry_count d → i < entry_count (length deal)
  slot_in i h = omega (arith, ap entry_count size_stays)

  assured : Assured (uncancelled d history) now
  assured = year_assured d table calls l year

  -- "no house has two standing entries with equal T and equal bytes". Bytes are read as the T bytes; entries with equal
  -- A bytes have equal T bytes, so the other reading follows.
  pub no_two_alike : (house i j : ℕ) → i < entry_count d → j < entry_count d → StandsFor now house i
      → StandsFor now house j → size_at deal i ≡ size_at deal j → segment_at deal i ≡ segment_at deal j → i ≡ j
  no_two_alike house i j hi hj = assured.no_two house i j (slot_in i hi) (slot_in j hj)

  -- "standing areas never overlap": of two of them one ends by the start of the other.
  pub areas_never_overlap : (i j : ℕ) → i < entry_count d → j < entry_count d → Stands deal i → Stands deal j → i ≢ j
      → Beside (offset_in (slot_at deal i)) (area (size_at deal i)) (offset_in (slot_at deal j)) (area (size_at deal j))
  areas_never_overlap i j hi hj = areas_apart deal assured.sound i j (slot_in i hi) (slot_in j hj)

  -- "every booking answered 0 and not cancelled since is kept with its T and bytes, at its booked place or where
  -- collections moved it"; ..
  pub every_booking_is_kept : (b : BookedSegment) → Among b (uncancelled d history) → KeptThere now b
  every_booking_is_kept b among =
      let s = assured.each_kept b among in kept_there now b s.0 assured.sound s.1

  -- .. and nothing stands that is not such a booking, ..
  pub whatever_stands_is_booked : (i : ℕ) → i < entry_count d → Stands deal i
      → (b : BookedSegment) × Among b (uncancelled d history) × (b.place ≡ slot_place d i)
  whatever_stands_is_booked i h s =
      let b = assured.all_booked i (slot_in i h) s in
      (b.0, b.1, b.2.place_is ∙ ap (λ (n : ℕ). slot_place n i) size_stays)

  -- .. each entry of one booking: as many of them are at its place as entries stand there, one or none.
  pub one_booking_an_entry : (i : ℕ) → i < entry_count d
      → sum_of (λ b. one (eqb b.place (slot_place d i))) (uncancelled d history) ≡ one (standing d (slot_at deal i))
  one_booking_an_entry i h =
      subst
      (λ (n : ℕ).
      sum_of (λ b. one (eqb b.place (slot_place n i))) (uncancelled d history) ≡ one (standing n (slot_at deal i)))
      size_stays (counted assured i (slot_in i h))

  -- "building there, given enough output, gives a record that the check accepts against the deal's commitment then, its
  -- size and the deal number built with": by the plain form, and with a tree as (vii) asks. Every u64 is a deal number.
  pub every_record_can_be_had : SegmentsAreBytes calls → (tree : TreeLent) → TreeAsAsked tree deal → (number : ℕ)
      → number < 2 ^ 64 → (b : BookedSegment) → Among b (uncancelled d history)
      → (r : List ℕ)
      × BuildsExactly (lent_beside tree deal) number b.place r
      × (check_of (deal_terms (commitment_of (deal_level d) deal) d number) r ≡ 0)
  every_record_can_be_had books tree f number bound b among =
      record_there now b d size_stays assured.sound (year_bytes d table calls books) (every_booking_is_kept b among)
      tree f number bound

  -- "The sum of standing areas equals the areas booked with 0 less those cancelled with 0, taken from the history of
  -- calls".
  pub booked_less_cancelled : standing_sum deal + areas_cancelled d history ≡ areas_booked history
  unfolding sum_of
  booked_less_cancelled =
      omega (arith, assured.same_sums (λ r. r.area) (λ r none. none), booked_and_cancelled d history [])

-- One booking among a year's calls: the earlier calls, the booking, and the later calls.
module _ (d : ℕ) (table : List ℕ) (earlier later : List DealCall) (house : ℕ) (segment : List ℕ) (tree : TreeLent)
    (l : lent_size_allowed d ≡ true) where
  abbrev call : DealCall
  call = on_deal (book_segment house segment) tree

  -- the deal and the table that it found, and what it was answered
  abbrev found : DealAndTable
  found = run_deal_calls (all_zero_deal d table) earlier

  abbrev answer : Booked
  answer = book_answer (lent_beside tree found.deal) found.table house segment

  -- what it booked, what all was booked right after it, and the history since then
  abbrev booked : BookedSegment
  booked = booked_with house segment answer

  abbrev booked_then : List BookedSegment
  booked_then =
      after_answer d (booking house segment answer) (uncancelled d (history_of (all_zero_deal d table) earlier))

  abbrev since : List Answered
  since = history_of (after_deal_call call found) later

  -- "every booking answered 0 and not cancelled since is kept with its T and bytes, at its booked place or where
  -- collections moved it": for one booking. The history says where it is by then (`followed`): ..
  pub a_booking_is_kept : Year (all_zero_deal d table) (earlier ++ (call ∷ later)) → answer.code ≡ 0
      → NeverCancelled d booked_then booked since
      → KeptThere (run_deal_calls (all_zero_deal d table) (earlier ++ (call ∷ later)))
      (followed d booked_then booked since)
  a_booking_is_kept year e never =
      every_booking_is_kept d table (earlier ++ (call ∷ later)) l year (followed d booked_then booked since)
      (still_booked d (all_zero_deal d table) earlier later house segment tree e never)

  -- .. as the house's, with the segment that was booked, ..
  pub for_its_house_with_its_bytes :
      ((followed d booked_then booked since).house ≡ house) × ((followed d booked_then booked since).segment ≡ segment)
  for_its_house_with_its_bytes = followed_same d since booked booked_then

  -- .. and at its booked place and offset, if no collection was answered 0 since.
  pub at_its_booked_place : NoneCollects since → followed d booked_then booked since ≡ booked
  at_its_booked_place = followed_unmoved d since booked booked_then
