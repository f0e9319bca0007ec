-- From the invariant of request (xiii) to the words of Assurance: a booked segment that is in a slot is kept where the
-- history says, with a record to be had; standing areas are apart; a booking is among what is booked after later calls
-- of which none cancels it.
use Rattle.std.specs.Prelude.{◌≡◌, refl, ◌≢◌, ℕ, ◌^◌, ◌<◌, List, [], ◌∷◌, ◌++◌, length}
use Rattle.std.proofs.Common.{sym, ap, ap₂, ◌∙◌, subst₂}
use Rattle.std.proofs.Math.Path.{subst}
use Rattle.octets.specs.Bytes.{Bytes}
use Rattle.octets.specs.Splice.{part}
use Rattle.merkle.specs.Tree.{commitment_of, node_at}
use Rattle.sizes.specs.Sizes.{place_allowed, area, entry_count, deal_level}
use Rattle.sizes.specs.SizesLaws.{lent_size, slot_allowed}
use Rattle.entries.specs.Entry.{offset_in, size_in}
use Rattle.lent.specs.LentDeal.{lent_deal, deal_refusal}
use Rattle.lent.specs.LentDealLaws.{none_refusal}
use Rattle.index.specs.Slots.{entry_at, slot_at, kept}
use Rattle.index.specs.Written.{slot_of}
use Rattle.index.specs.SlotWrittenLaws.{slot_back}
use Rattle.room.specs.Room.{Range}
use Rattle.room.specs.declared.Booked.{Booked}
use Rattle.ranges.specs.Ranges.{ranges_of}
use Rattle.ranges.specs.RangesLaws.{range_stands}
use Rattle.packing.specs.Apart.{Beside}
use Rattle.packing.specs.NoOverlapLaws.{none_overlaps_lem}
use Rattle.houses.specs.Houses.{owner_at}
use Rattle.booking.specs.Booking.{book_answer}
use Rattle.booking.specs.KeepLaws.{keeps_parts}
use Rattle.record.specs.Check.{deal_terms, check_of}
use Rattle.demands.specs.BuildsExactly.{BuildsExactly}
use Rattle.demands.specs.Calls.{book_segment, DealAndTable}
use Rattle.demands.specs.DealCalls.{TreeLent, no_tree, tree_in, lent_beside, TreeAsAsked, DealCall, on_deal}
use Rattle.demands.specs.DealCalls.{after_deal_call, run_deal_calls}
use Rattle.demands.proofs.Collecting.{Stands}
use Rattle.demands.proofs.Demand2.{kept_is_built}
use Rattle.demands.proofs.TreeDemands.{kept_is_built_with_tree}
use Rattle.demands.specs.Sound.{Sound}
use Rattle.demands.proofs.KeepsOnlyLaws.{keeps_view}
use Rattle.demands.specs.History.{Answered, booking, BookedSegment, booked_with, Among, after_answer}
use Rattle.demands.specs.History.{booked_from, uncancelled, followed, NeverCancelled}
use Rattle.demands.proofs.HistoryLaws.{booked_in_turn}
use Rattle.demands.proofs.FollowedLaws.{booked_then_lem, followed_booked}
use Rattle.demands.specs.Year.{answered_call, history_of, size_at, KeptThere}
use Rattle.demands.specs.Assured.{InSlot}

-- a booked segment that is in a slot is kept where the history says
pub kept_there : (now : DealAndTable) (b : BookedSegment) (i : ℕ) → Sound now.deal → InSlot now b i
    → KeptThere now b
kept_there now b i sound s =
    let deal = now.deal in
    let d = length deal in
    let t = (lent_size d sound.size_allowed).deal in
    let p = keeps_parts (lent_deal deal) b.segment i s.keeps_it in
    let entry_is : entry_at deal b.place ≡ slot_at deal i = ap (entry_at deal) s.place_is in
    record {
      place_allowed_lem = ap (place_allowed d) s.place_is ∙ slot_allowed d i t s.slot_in;
      is_kept_lem = ap (kept (node_at deal) d) entry_is ∙ p.0;
      owner_is = ap (owner_at now.table) (ap (slot_of d) s.place_is ∙ slot_back d i) ∙ s.owner_is;
      offset_is = ap offset_in entry_is ∙ s.offset_is;
      size_is = ap size_in entry_is ∙ p.1;
      segment_is =
          ap₂ (part deal) (sym s.offset_is) (sym p.1) ∙ keeps_view deal b.segment i t s.keeps_it;
      area_is = ap (λ (at : ℕ). part deal at (area (length b.segment))) (sym s.offset_is) ∙ p.2;
    }

-- of two standing entries' areas one ends by the start of the other
pub areas_apart : (deal : List ℕ) → Sound deal → (i j : ℕ) → i < entry_count (length deal)
    → j < entry_count (length deal) → Stands deal i → Stands deal j → i ≢ j
    → Beside (offset_in (slot_at deal i)) (area (size_at deal i)) (offset_in (slot_at deal j)) (area (size_at deal j))
areas_apart deal sound i j hi hj si sj ne =
    let d = length deal in
    subst₂ (λ (x y : Range). Beside x.offset x.area y.offset y.area)
    (range_stands d (slot_at deal i) si) (range_stands d (slot_at deal j) sj)
    ((none_overlaps_lem (ranges_of deal) (entry_count d)).0 sound.apart i j hi hj ne)

-- a sound deal gets neither 2 nor 11
passes : (deal : List ℕ) → Sound deal → deal_refusal (lent_deal deal) ≡ 0
passes deal sound = none_refusal (lent_deal deal) sound.size_allowed sound.clear refl

-- a record of a booked segment that is kept where the history says is built there, with a tree as (vii) asks or without
-- one: the deal is d bytes long
module _ (now : DealAndTable) (b : BookedSegment) (d : ℕ) (size : length now.deal ≡ d) (sound : Sound now.deal)
    (bytes : Bytes now.deal) (k : KeptThere now b) where
  abbrev IsBuilt : TreeLent → ℕ → ℕ → Type 0
  IsBuilt tree n number =
      (r : List ℕ)
      × BuildsExactly (lent_beside tree now.deal) number b.place r
      × (check_of (deal_terms (commitment_of (deal_level n) now.deal) n number) r ≡ 0)

  there : (tree : TreeLent) → TreeAsAsked tree now.deal → (number : ℕ) → number < 2 ^ 64
      → IsBuilt tree (length now.deal) number
  there no_tree f number bound =
      kept_is_built now.deal bytes (passes now.deal sound) number b.place bound k.place_allowed_lem
      k.is_kept_lem
  there (tree_in buffer) f number bound =
      kept_is_built_with_tree now.deal buffer f bytes (passes now.deal sound) number b.place bound
      k.place_allowed_lem k.is_kept_lem

  pub record_there : (tree : TreeLent) → TreeAsAsked tree now.deal → (number : ℕ) → number < 2 ^ 64
      → (r : List ℕ)
      × BuildsExactly (lent_beside tree now.deal) number b.place r
      × (check_of (deal_terms (commitment_of (deal_level d) now.deal) d number) r ≡ 0)
  record_there tree f number bound = subst (λ n. IsBuilt tree n number) size (there tree f number bound)

-- the history of calls in two parts
history_in_turn : (was : DealAndTable) (earlier later : List DealCall)
    → history_of was (earlier ++ later) ≡ history_of was earlier ++ history_of (run_deal_calls was earlier) later
unfolding history_of run_deal_calls
history_in_turn was [] later = refl
history_in_turn was (call ∷ earlier) later =
    ap (λ (h : List Answered). answered_call call was ∷ h) (history_in_turn (after_deal_call call was) earlier later)

-- a booking answered 0 is booked after all calls, where it is by then, if none of the later ones cancels it
module _ (d : ℕ) (was : DealAndTable) (earlier later : List DealCall) (house : ℕ) (segment : List ℕ)
    (tree : TreeLent) where
  abbrev call : DealCall
  call = on_deal (book_segment house segment) tree

  abbrev found : DealAndTable
  found = run_deal_calls was earlier

  abbrev answer : Booked
  answer = book_answer (lent_beside tree found.deal) found.table house segment

  abbrev booked : BookedSegment
  booked = booked_with house segment answer

  abbrev booked_then : List BookedSegment
  booked_then = after_answer d (booking house segment answer) (uncancelled d (history_of was earlier))

  abbrev since : List Answered
  since = history_of (after_deal_call call found) later

  pub still_booked : answer.code ≡ 0 → NeverCancelled d booked_then booked since
      → Among (followed d booked_then booked since) (uncancelled d (history_of was (earlier ++ (call ∷ later))))
  unfolding history_of booked_from
  still_booked e n =
      subst (Among (followed d booked_then booked since))
      (sym
      (ap (booked_from d []) (history_in_turn was earlier (call ∷ later))
      ∙ booked_in_turn d (history_of was earlier) (history_of found (call ∷ later)) []))
      (followed_booked d since booked booked_then n
      (booked_then_lem d house segment answer (uncancelled d (history_of was earlier)) e))
