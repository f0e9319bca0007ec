-- Demands 2 and 3 for the forms that take the tree (document 02, request (vii): "demands 2 and 3 wherever the buffer is
-- used, rest on one premise"). The premise is `FilledFor deal tree`, which the paper's history gives
-- (TreeHistoryLaws.history_filled); all else is as for the plain forms (Demand2, Demand3), the deal's number too
-- (request (ix)), and each house for itself (request (x)).
use Rattle.std.specs.Prelude.{◌≡◌, true, ℕ, ◌^◌, ◌<◌, List, ◌∷◌, length}
use Rattle.std.proofs.Common.{sym, ap, ◌∙◌, subst}
use Rattle.rules.specs.SearchLaws.{IsLowest}
use Rattle.octets.specs.Bytes.{Bytes}
use Rattle.octets.specs.Splice.{part}
use Rattle.stray.specs.StrayBits.{no_stray_bits}
use Rattle.merkle.specs.Tree.{commitment_of, node_at}
use Rattle.sizes.specs.Sizes.{lent_size_allowed, place_allowed, entry_count, slot_place, deal_level}
use Rattle.tree.specs.TreeNodes.{FilledFor}
use Rattle.lent.specs.LentDeal.{lent_deal, tree_deal, deal_refusal}
use Rattle.index.specs.Slots.{entry_at, kept}
use Rattle.room.specs.declared.Booked.{Booked}
use Rattle.booking.specs.Booking.{keeps_own}
use Rattle.booking.specs.BookableLaws.{BookableFor}
use Rattle.booking.specs.Outcomes.{answer15}
use Rattle.record.specs.Form.{parse}
use Rattle.record.specs.Check.{deal_terms, check_of}
use Rattle.builder.specs.Build.{BuildAnswer}
use Rattle.builder.specs.Build.{build_answer, build_output}
use Rattle.settle.specs.Settle.{place_in, settle_with_deal}
use Rattle.demands.specs.Settles.{Settles}
use Rattle.demands.specs.BuildsExactly.{BuildsExactly}
use Rattle.demands.specs.Calls.{book_segment, DealAndTable, answer_in, NoneCancels}
use Rattle.demands.proofs.Demand2.{built_is_accepted, never_booked_again, kept_never_booked, kept_is_never_booked}
use Rattle.demands.proofs.Demand2.{kept_is_built, kept_slot_is_never_booked}
use Rattle.demands.proofs.Demand3.{same_statement, record_settles_with_deal}
use Rattle.demands.proofs.TreeForms.{same_booking, same_building, same_output, same_settling}
use Rattle.demands.specs.TreeHistory.{DealTreeTable, answer_with, TreeCall, with_tree, after_calls, plain_calls}
use Rattle.demands.proofs.TreeHistoryLaws.{same_run, same_run_answer}

module _ (deal tree : List ℕ) (f : FilledFor deal tree) where
  -- what the plain form builds exactly is built with the tree, and the other way round
  builds_with_tree : (number place : ℕ) (r : List ℕ) → BuildsExactly (lent_deal deal) number place r
      → BuildsExactly (tree_deal deal tree) number place r
  builds_with_tree number place r b out h =
      (same_building deal tree f number place out ∙ (b out h).0, same_output deal tree f number place out ∙ (b out h).1)

  builds_without_tree : (number place : ℕ) (r : List ℕ) → BuildsExactly (tree_deal deal tree) number place r
      → BuildsExactly (lent_deal deal) number place r
  builds_without_tree number place r b out h =
      let answer = same_building deal tree f number place out in
      let output = same_output deal tree f number place out in
      (sym answer ∙ (b out h).0, sym output ∙ (b out h).1)

  -- Demand 2. Where building with the tree and a deal's number answers 0, the check accepts what it wrote, against that
  -- number and the deal's commitment and size.
  pub built_with_tree_is_accepted : Bytes deal → (number place : ℕ) → number < 2 ^ 64 → (out : List ℕ)
      → let answer = build_answer (tree_deal deal tree) number place out in
      answer.code ≡ 0
      → check_of (deal_terms (commitment_of (deal_level (length deal)) deal) (length deal) number)
      (part (build_output (tree_deal deal tree) number place out) 0 answer.length) ≡ 0
  built_with_tree_is_accepted b number place bound out e =
      let same = same_building deal tree f number place out in
      rw (same, same_output deal tree f number place out)
      (built_is_accepted deal b number place bound out (ap (λ (a : BuildAnswer). a.code) (sym same) ∙ e))

  -- Demand 2. From a kept entry a record is built with the tree and the deal's number, given enough output: exactly one
  -- that the check accepts, against that number and the deal's commitment and size. The deal gets neither 2 nor 11.
  pub kept_is_built_with_tree : Bytes deal → deal_refusal (lent_deal deal) ≡ 0 → (number place : ℕ)
      → number < 2 ^ 64 → place_allowed (length deal) place ≡ true
      → kept (node_at deal) (length deal) (entry_at deal place) ≡ true
      → (r : List ℕ)
      × BuildsExactly (tree_deal deal tree) number place r
      × (check_of (deal_terms (commitment_of (deal_level (length deal)) deal) (length deal) number) r ≡ 0)
  kept_is_built_with_tree b z number place bound a k =
      let p = kept_is_built deal b z number place bound a k in
      (p.0, builds_with_tree number place p.0 p.1, p.2)

  module _ (table : List ℕ) (house : ℕ) (segment : List ℕ) where
    -- deal, tree and table now
    abbrev now : DealTreeTable
    now = record { deal = deal; tree = tree; table = table }

    abbrev plain : DealAndTable
    plain = record { deal = deal; table = table }

    -- booking with the tree answers what the plain form answers
    same : answer_with now house segment ≡ answer_in plain house segment
    same = same_booking deal tree f table house segment

    -- Demand 2, for each house. A segment that a house booked with code 0 with the tree in hand gets 15 for that house,
    -- with the same offset and entry place, whatever calls of both houses with the tree in hand come in between, as
    -- long as the house cancels that place in none of them.
    pub never_booked_again_with_tree : (answer_with now house segment).code ≡ 0 → (later : List TreeCall)
        → NoneCancels house (answer_with now house segment).place (plain_calls later)
        → answer_with (after_calls (with_tree (book_segment house segment) ∷ later) now) house segment
        ≡ record {
          code = 15;
          offset = (answer_with now house segment).offset;
          place = (answer_with now house segment).place;
        }
    never_booked_again_with_tree z later n =
        same_run_answer (with_tree (book_segment house segment) ∷ later) now f house segment
        ∙ never_booked_again plain house segment (ap (λ (a : Booked). a.code) (sym same) ∙ z) (plain_calls later)
        (subst (λ (a : Booked). NoneCancels house a.place (plain_calls later)) same n)
        ∙ ap (λ (a : Booked). record { code = 15; offset = a.offset; place = a.place }) (sym same)

    -- and one that got 15 to begin with goes on getting it
    pub kept_never_booked_with_tree : (answer_with now house segment).code ≡ 15 → (later : List TreeCall)
        → NoneCancels house (answer_with now house segment).place (plain_calls later)
        → answer_with (after_calls later now) house segment ≡ answer_with now house segment
    kept_never_booked_with_tree k later n =
        same_run_answer later now f house segment
        ∙ kept_never_booked plain house segment (ap (λ (a : Booked). a.code) (sym same) ∙ k) (plain_calls later)
        (subst (λ (a : Booked). NoneCancels house a.place (plain_calls later)) same n)
        ∙ sym same

    -- Slot i of the deal is the house's and keeps the segment.
    module _ (i : ℕ) (b : BookableFor (lent_deal deal) table house segment) (h : i < entry_count (length deal))
        (k : keeps_own (lent_deal deal) table house segment i ≡ true) where
      -- Demand 2, for each house. Booking with the tree answers 15 to it with the offset and the entry place of the
      -- lowest such slot, now and after any later calls of both houses with the tree in hand in none of which the house
      -- cancels that place.
      pub kept_is_never_booked_with_tree :
          (j : ℕ)
          × IsLowest (keeps_own (lent_deal deal) table house segment) 0 (entry_count (length deal)) j
          × ((later : List TreeCall) → NoneCancels house (slot_place (length deal) j) (plain_calls later)
          → answer_with (after_calls later now) house segment ≡ answer15 deal j)
      kept_is_never_booked_with_tree =
          let p = kept_is_never_booked plain house segment i b h k in
          (p.0, p.1, λ later n. same_run_answer later now f house segment ∙ p.2 (plain_calls later) n)

      -- Demand 2, for each house. The slot goes on being the house's and keeping the segment, and booking with the tree
      -- goes on answering 15 to it, after any later calls of both houses with the tree in hand in none of which the
      -- house cancels its place, be it the lowest such slot or not.
      pub kept_slot_is_never_booked_with_tree : (later : List TreeCall)
          → NoneCancels house (slot_place (length deal) i) (plain_calls later)
          → let there = after_calls later now in
          (keeps_own (lent_deal there.deal) there.table house segment i ≡ true)
          × ((answer_with there house segment).code ≡ 15)
      kept_slot_is_never_booked_with_tree later n =
          let p = kept_slot_is_never_booked plain house segment i b h k (plain_calls later) n in (
            ap (λ (x : DealAndTable). keeps_own (lent_deal x.deal) x.table house segment i) (same_run later now f)
                ∙ p.0,
            ap (λ (a : Booked). a.code) (same_run_answer later now f house segment) ∙ p.1,
          )

  -- Demand 3, a record with a deal and its tree in hand; the deal gets neither 2 nor 11. A record accepted against a
  -- deal number and the deal's commitment and size settles with the tree to 0 exactly when building with the tree and
  -- that same number at its entry place, given enough output, answers 0 and writes exactly that record; otherwise to 17
  -- and a pair that collides.
  pub record_settles_with_tree : (number : ℕ) (r : List ℕ) → Bytes deal → Bytes r
      → lent_size_allowed (length deal) ≡ true → no_stray_bits deal ≡ true
      → check_of (deal_terms (commitment_of (deal_level (length deal)) deal) (length deal) number) r ≡ 0
      → Settles (BuildsExactly (tree_deal deal tree) number (place_in (parse r)) r)
      (settle_with_deal (tree_deal deal tree) number r)
  record_settles_with_tree number r bd br l c k =
      let place = place_in (parse r) in
      let plain = BuildsExactly (lent_deal deal) number place r in
      let with_tree_lem = BuildsExactly (tree_deal deal tree) number place r in
      subst (Settles with_tree_lem) (sym (same_settling deal tree f number r))
      (same_statement plain with_tree_lem (settle_with_deal (lent_deal deal) number r) (builds_with_tree number place r)
      (builds_without_tree number place r) (record_settles_with_deal deal number r bd br l c k))
