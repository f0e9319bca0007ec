-- Demand 2: whatever is built from a kept entry is accepted against its deal's number, commitment and size, where
-- building takes that same number (document 02, request (ix)); a segment that a house already keeps is never booked
-- again by that house in that deal (request (x)), unless it cancels its entry (request (viii)). Every u64 is a deal
-- number: `number < 2 ^ 64`.
use Rattle.std.specs.Prelude.{◌≡◌, refl, Bool, true, false, ℕ, zero, suc, ◌^◌, ◌≤◌, ◌<◌, List, ◌∷◌, length, leb}
use Rattle.std.proofs.Common.{sym, ap, ◌∙◌, subst, arith, leb-true}
use Rattle.rules.specs.Choice.{choose}
use Rattle.octets.specs.Bytes.{Bytes}
use Rattle.octets.specs.Splice.{part, splice}
use Rattle.octets.specs.SpliceLaws.{part_written}
use Rattle.merkle.specs.Tree.{commitment_of, node_at}
use Rattle.merkle.specs.TreeLaws.{top_node}
use Rattle.merkle.specs.NodeSource.{IsTree}
use Rattle.merkle.specs.NodeSourceLaws.{run_tree}
use Rattle.rules.specs.SearchLaws.{IsLowest}
use Rattle.sizes.specs.Sizes.{place_allowed, entry_count, slot_place, deal_level}
use Rattle.sizes.specs.SizesLaws.{lent_size}
use Rattle.index.specs.Slots.{entry_at, kept}
use Rattle.record.specs.Check.{deal_terms, check_of}
use Rattle.record.specs.CheckLaws.{means_check}
use Rattle.rules.specs.Refusals.{first_refusal, unless_refused}
use Rattle.record.specs.Form.{encode}
use Rattle.builder.specs.Build.{BuildAnswer}
use Rattle.lent.specs.LentDeal.{LentDeal, lent_deal, deal_size, deal_refusal}
use Rattle.lent.specs.LentDealLaws.{refusal_none}
use Rattle.builder.specs.Build.{build_rules, terms_of, fields_for, Building, built, not_built, record_at}
use Rattle.builder.specs.Build.{answer_for, output_for, build_answer, build_output}
use Rattle.room.specs.declared.Booked.{Booked}
use Rattle.booking.specs.Booking.{keeps_own}
use Rattle.booking.specs.BookableLaws.{BookableFor}
use Rattle.booking.specs.Outcomes.{answer15}
use Rattle.booking.proofs.NeverAgain.{kept_is_15, booked_is_15}
use Rattle.builder.specs.BuildLaws.{build_means, means_build, commitment_length, built_parses, built_accepted}
use Rattle.demands.specs.BuildsExactly.{BuildsExactly}
use Rattle.demands.proofs.BuildsExactlyLaws.{builds_exactly}
use Rattle.demands.specs.Calls.{Call, book_segment, DealAndTable, answer_in, after_plain_call, run_calls, NoneCancels}
use Rattle.demands.proofs.CallsLaws.{kept_after_calls, keeping_after_calls}

-- for any source of nodes that is a tree over the deal
pub built_checks : (deal : LentDeal) → IsTree deal.nodes deal.bytes (deal_level (deal_size deal))
    → Bytes deal.bytes → (number place : ℕ) → number < 2 ^ 64 → (r : List ℕ) → record_at deal number place ≡ built r
    → check_of (terms_of deal number) r ≡ 0
built_checks deal t b number place bound r e =
    let m = build_means deal number place r e in
    let x = fields_for deal number (entry_at deal.bytes place) place in
    means_check (terms_of deal number) r x (commitment_length deal t) (lent_size (deal_size deal) m.lent).allowed
    (built_parses deal t b number place r m bound) (built_accepted deal t b number place r m)

-- building never refuses with 0
no_zero : (code : ℕ) (r : List ℕ) → unless_refused code not_built (built r) ≡ not_built 0 → ⊥
no_zero zero r e = let z : ◌≡◌ {A = ℕ} 0 1 = cc in omega arith
no_zero (suc code) r e = let z : suc code ≡ 0 = cc in omega arith

-- what stands in the output after code 0 is the record
written : (x : Building) (out : List ℕ) → (x ≡ not_built 0 → ⊥) → (answer_for x out).code ≡ 0
    → x ≡ built (part (output_for x out) 0 (answer_for x out).length)
written (not_built code) out n e = absurd (n (ap not_built e))
written (built r) out n e = go (leb (length r) (length out)) refl e
  where
    go : (b : Bool) → leb (length r) (length out) ≡ b
        → let answer : BuildAnswer =
        choose b (record { code = 0; length = length r }) (record { code = 12; length = 0 }) in
        answer.code ≡ 0 → built r ≡ built (part (choose b (splice out 0 r) out) 0 answer.length)
    go true q f =
        let h : length r ≤ length out = leb-true (length r) (length out) q in
        ap built (sym (part_written out 0 r (omega arith)))
    go false q f = absurd (omega arith)

-- by the nodes worked out from the deal's bytes
accepted : (deal : List ℕ) → Bytes deal → (number place : ℕ) → number < 2 ^ 64 → (r : List ℕ)
    → record_at (lent_deal deal) number place ≡ built r
    → check_of (deal_terms (commitment_of (deal_level (length deal)) deal) (length deal) number) r ≡ 0
accepted deal b number place bound r e =
    let p = (lent_size (length deal) (build_means (lent_deal deal) number place r e).lent).deal.is_power_lem in
    ap (λ (c : List ℕ). check_of (deal_terms c (length deal) number) r)
    (sym (top_node deal (deal_level (length deal)) p))
    ∙ built_checks (lent_deal deal) (run_tree deal (deal_level (length deal)) p) b number place bound r e

-- Demand 2. Where building with a deal's number at an entry place of the deal answers 0, the check accepts what it
-- wrote, against that number and the deal's commitment and size.
pub built_is_accepted : (deal : List ℕ) → Bytes deal → (number place : ℕ) → number < 2 ^ 64 → (out : List ℕ)
    → let answer = build_answer (lent_deal deal) number place out in
    answer.code ≡ 0
    → check_of (deal_terms (commitment_of (deal_level (length deal)) deal) (length deal) number)
    (part (build_output (lent_deal deal) number place out) 0 answer.length) ≡ 0
unfolding build_answer build_output record_at
built_is_accepted deal b number place bound out e =
    let x = record_at (lent_deal deal) number place in
    let r = part (output_for x out) 0 (answer_for x out).length in
    let y = fields_for (lent_deal deal) number (entry_at deal place) place in
    let n = no_zero (first_refusal (build_rules (lent_deal deal) place)) (encode y) in
    accepted deal b number place bound r (written x out n e)

-- Demand 2. From a kept entry a record is built: given enough output, building with the deal's number at its place
-- answers 0 and writes exactly a record that the check accepts, against that number and the deal's commitment and size.
-- The deal gets neither 2 nor 11.
pub kept_is_built : (deal : List ℕ) → Bytes deal → deal_refusal (lent_deal deal) ≡ 0 → (number place : ℕ)
    → number < 2 ^ 64 → place_allowed (length deal) place ≡ true
    → kept (node_at deal) (length deal) (entry_at deal place) ≡ true
    → (r : List ℕ)
    × BuildsExactly (lent_deal deal) number place r
    × (check_of (deal_terms (commitment_of (deal_level (length deal)) deal) (length deal) number) r ≡ 0)
kept_is_built deal b z number place bound a k =
    let rules = refusal_none (lent_deal deal) z in
    let r = encode (fields_for (lent_deal deal) number (entry_at deal place) place) in
    let e = means_build (lent_deal deal) number place r rules.0 rules.1 refl a k refl in
    (r, builds_exactly (lent_deal deal) number place r e, accepted deal b number place bound r e)

-- Demand 2, for each house (request (x): "So demand 2's "never again" now holds for each house"). A segment that a
-- house booked with code 0 gets 15 for that house, with the same offset and entry place, whatever calls of both houses
-- come in between, as long as the house cancels that place in none of them.
pub never_booked_again : (was : DealAndTable) (house : ℕ) (segment : List ℕ) → (answer_in was house segment).code ≡ 0
    → (later : List Call) → NoneCancels house (answer_in was house segment).place later
    → answer_in (run_calls was (book_segment house segment ∷ later)) house segment
    ≡ record {
      code = 15;
      offset = (answer_in was house segment).offset;
      place = (answer_in was house segment).place;
    }
unfolding run_calls
never_booked_again was house segment z later n =
    let again = booked_is_15 was.deal was.table house segment z in
    kept_after_calls house segment (after_plain_call (book_segment house segment) was) later
    (ap (λ (a : Booked). a.code) again)
    (subst (λ (a : Booked). NoneCancels house a.place later) (sym again) n)
    ∙ again

-- and one that got 15 to begin with goes on getting it
pub kept_never_booked : (was : DealAndTable) (house : ℕ) (segment : List ℕ) → (answer_in was house segment).code ≡ 15
    → (later : List Call) → NoneCancels house (answer_in was house segment).place later
    → answer_in (run_calls was later) house segment ≡ answer_in was house segment
kept_never_booked was house segment h later n = kept_after_calls house segment was later h n

-- Demand 2, for each house. Where some slot of a deal is a house's and keeps the segment, booking it answers 15 to that
-- house, with the offset and the entry place of the lowest such slot, now and after any later calls of both houses in
-- none of which the house cancels that place.
pub kept_is_never_booked : (was : DealAndTable) (house : ℕ) (segment : List ℕ) (i : ℕ)
    → BookableFor (lent_deal was.deal) was.table house segment → i < entry_count (length was.deal)
    → keeps_own (lent_deal was.deal) was.table house segment i ≡ true
    → (j : ℕ)
    × IsLowest (keeps_own (lent_deal was.deal) was.table house segment) 0 (entry_count (length was.deal)) j
    × ((later : List Call) → NoneCancels house (slot_place (length was.deal) j) later
    → answer_in (run_calls was later) house segment ≡ answer15 was.deal j)
kept_is_never_booked was house segment i b h k =
    let now = kept_is_15 was.deal was.table house segment i b h k in (
      now.0,
      now.1,
      λ later n.
          kept_never_booked was house segment (ap (λ (a : Booked). a.code) now.2) later
          (subst (λ (a : Booked). NoneCancels house a.place later) (sym now.2) n)
          ∙ now.2,
    )

-- Demand 2, for each house. A slot of a house that keeps the segment goes on doing so, and booking goes on answering 15
-- to the house, after any later calls of both houses in none of which the house cancels its place, be it the lowest
-- such slot or not.
pub kept_slot_is_never_booked : (was : DealAndTable) (house : ℕ) (segment : List ℕ) (i : ℕ)
    → BookableFor (lent_deal was.deal) was.table house segment → i < entry_count (length was.deal)
    → keeps_own (lent_deal was.deal) was.table house segment i ≡ true
    → (later : List Call) → NoneCancels house (slot_place (length was.deal) i) later
    → let now = run_calls was later in
    (keeps_own (lent_deal now.deal) now.table house segment i ≡ true) × ((answer_in now house segment).code ≡ 15)
kept_slot_is_never_booked was house segment i b h k later n =
    let now = run_calls was later in
    let s = keeping_after_calls house segment was i later (record { bookable = b; slot_in = h; keeps = k }) n in (
      s.keeps,
      ap (λ (a : Booked). a.code)
          (kept_is_15 now.deal now.table house segment i s.bookable s.slot_in s.keeps).2,
    )
