-- What cancelling does to the deal: with code 0 the slot at the place is free afterwards; whatever the code, all else
-- is as it was. What it does to the table of owners: OwnerCancelLaws.
use Rattle.std.specs.Prelude.{◌≡◌, Bool, true, false, ◌&&◌, ◌↔◌, ◌≢◌, ℕ, ◌+◌, ◌≤◌, ◌<◌}
use Rattle.std.specs.Prelude.{List, [], ◌∷◌, ◌++◌, length, replicate}
use Rattle.std.proofs.Math.Path.{refl, ap}
use Rattle.std.proofs.Common.{sym, ap₂, ◌∙◌, subst}
use Rattle.std.proofs.Math.Decide.{ℕ_discrete}
use native.Mathlib.Omega.{arith}
use Rattle.rules.specs.Refusals.{rule, first_of, first_refusal}
use Rattle.rules.specs.RefusalLaws.{none_refused, all_passed, and_left, and_right, and_both}
use Rattle.octets.specs.Bytes.{Bytes}
use Rattle.octets.specs.Fill.{zero_filled}
use Rattle.octets.specs.FillLaws.{bytes_filled}
use Rattle.octets.specs.Splice.{part}
use Rattle.stray.specs.StrayBits.{clear_node, clear_nodes, no_stray_bits}
use Rattle.sizes.specs.Sizes.{lent_size_allowed, entry_count, index_start, place_allowed, slot_place}
use Rattle.sizes.specs.SizesLaws.{DealSize}
use Rattle.lent.specs.LentDeal.{LentDeal, lent_deal, deal_size}
use Rattle.lent.specs.LentDealLaws.{refusal_none, none_refusal, usable, answer_refused}
use Rattle.lent.specs.UsableLaws.{usable_size}
use Rattle.index.specs.Slots.{entry_at, slot_at, standing, kept_at, free, row_at}
use Rattle.index.specs.SlotsLaws.{zero_free}
use Rattle.index.specs.KeptLaws.{row_free}
use Rattle.index.specs.Written.{slot_of, with_slot}
use Rattle.index.specs.SlotWrittenLaws as S
use Rattle.index.specs.SlotWrittenLaws.{place_slot}
use Rattle.houses.specs.Houses.{house_allowed, table_sized, house_rules, owned}
use Rattle.cancel.specs.Cancel.{cancel_rules, cancel_code, without_entry, cancelled_deal}
use Rattle.cancel.specs.Cancels.{Cancels}

-- the zero bytes have no stray bits
zeros_clear : no_stray_bits (replicate 64 0) ≡ true
unfolding clear_nodes clear_node
zeros_clear = refl

zeros_bytes : Bytes (replicate 64 0)
unfolding zero_filled
zeros_bytes = bytes_filled 64 [] tt

-- the code by what is read of a deal: its size, whether it has stray bits, whether a tree has the length that it asks,
-- and whether an entry stands at the place
module _ (table : List ℕ) (house place : ℕ) where
  abbrev code_of : ℕ → Bool → Bool → Bool → ℕ
  code_of d clear sized stands =
      first_refusal
      (house_rules d table house
      ++ (rule clear 11
      ∷ rule sized 12
      ∷ rule (place_allowed d place) 6
      ∷ rule (stands && owned table house (slot_of d place)) 16
      ∷ []))

  code_is : (deal : LentDeal) → cancel_code deal table house place
      ≡ code_of (deal_size deal) (no_stray_bits deal.bytes) deal.tree_sized
      (standing (deal_size deal) (entry_at deal.bytes place))
  unfolding cancel_code
  code_is deal = refl

  -- an entry is looked for at an allowed place alone
  last_rules : (allowed s t own : Bool) → (allowed ≡ true → s ≡ t)
      → first_of allowed 6 (first_of (s && own) 16 0) ≡ first_of allowed 6 (first_of (t && own) 16 0)
  last_rules true s t own f = ap (λ (b : Bool). first_of (b && own) 16 0) (f refl)
  last_rules false s t own f = refl

  stands_cong : (d : ℕ) (clear sized s t : Bool) → (place_allowed d place ≡ true → s ≡ t)
      → code_of d clear sized s ≡ code_of d clear sized t
  stands_cong d clear sized s t f =
      ap (λ (later : ℕ).
      first_of (house_allowed house) 23 (first_of (lent_size_allowed d) 2 (first_of (table_sized d table) 23
      (first_of clear 11 (first_of sized 12 later)))))
      (last_rules (place_allowed d place) s t (owned table house (slot_of d place)) f)

-- so deals that agree in these get the same code
pub code_cong : (deal other : LentDeal) (table : List ℕ) (house place : ℕ) → deal_size deal ≡ deal_size other
    → no_stray_bits deal.bytes ≡ no_stray_bits other.bytes → deal.tree_sized ≡ other.tree_sized
    → (place_allowed (deal_size deal) place ≡ true → standing (deal_size deal) (entry_at deal.bytes place)
    ≡ standing (deal_size other) (entry_at other.bytes place))
    → cancel_code deal table house place ≡ cancel_code other table house place
code_cong deal other table house place size clear sized stands =
    let there = standing (deal_size other) (entry_at other.bytes place) in
    code_is table house place deal
    ∙ stands_cong table house place (deal_size deal) (no_stray_bits deal.bytes) deal.tree_sized
    (standing (deal_size deal) (entry_at deal.bytes place)) there stands
    ∙ ap (λ (d : ℕ). code_of table house place d (no_stray_bits deal.bytes) deal.tree_sized there) size
    ∙ ap₂ (λ (c t : Bool). code_of table house place (deal_size other) c t there) clear sized
    ∙ sym (code_is table house place other)

module _ (deal : LentDeal) (table : List ℕ) (house place : ℕ) where
  -- with code 0, and only then
  pub cancels : (cancel_code deal table house place ≡ 0) ↔ Cancels deal table house place
  unfolding cancel_code
  cancels = (
    λ e.
        let p = none_refused (cancel_rules deal table house place) (
          omega arith,
          (omega arith, (omega arith, (omega arith, (omega arith, (omega arith, (omega arith, tt)))))),
        ) e in
        let size = p.1.0 in
        let later = p.1.1.1 in
        let stands = standing (deal_size deal) (entry_at deal.bytes place) in
        let own = owned table house (slot_of (deal_size deal) place) in
        record {
          house_allowed_lem = p.0;
          not_refused = none_refusal deal size later.0 later.1.0;
          table_sized_lem = p.1.1.0;
          place_allowed_lem = later.1.1.0;
          stands_there = and_left stands own later.1.1.1.0;
          owned_there = and_right stands own later.1.1.1.0;
        },
    λ c.
        let d = refusal_none deal c.not_refused in
        let own = and_both (standing (deal_size deal) (entry_at deal.bytes place))
        (owned table house (slot_of (deal_size deal) place)) c.stands_there c.owned_there in
        all_passed (cancel_rules deal table house place)
        (c.house_allowed_lem, (d.0, (c.table_sized_lem, (d.1, (d.2, (c.place_allowed_lem, (own, tt))))))),
  )

  -- any other code leaves the deal as it is
  pub refused_same : cancel_code deal table house place ≢ 0 → cancelled_deal deal table house place ≡ deal.bytes
  unfolding cancelled_deal
  refused_same h =
      answer_refused (λ (code : ℕ). deal.bytes) (without_entry deal.bytes place)
      (cancel_code deal table house place) h

  -- the slot at the place, and the deal with zeros there
  abbrev slot : ℕ
  slot = slot_of (deal_size deal) place

  abbrev zeroed : List ℕ
  zeroed = with_slot deal.bytes slot (replicate 64 0)

  -- with code 0
  module _ (e : cancel_code deal table house place ≡ 0) where
    facts : Cancels deal table house place
    facts = cancels.0 e

    pub cancelled_sized : DealSize (deal_size deal)
    cancelled_sized = (usable_size (usable deal facts.not_refused)).deal

    at_slot : (slot < entry_count (deal_size deal)) × (place ≡ slot_place (deal_size deal) slot)
    at_slot = place_slot (deal_size deal) place cancelled_sized facts.place_allowed_lem

    pub cancelled_slot_in : slot < entry_count (deal_size deal)
    cancelled_slot_in = at_slot.0

    -- 64 zero bytes at the place, which are those of the slot, and nothing else changes
    pub cancelled_at : cancelled_deal deal table house place ≡ without_entry deal.bytes place
    unfolding cancelled_deal
    cancelled_at = rw e

    pub cancelled_is : cancelled_deal deal table house place ≡ with_slot deal.bytes slot (replicate 64 0)
    unfolding with_slot
    cancelled_is = cancelled_at ∙ ap (without_entry deal.bytes) at_slot.1

    -- the slot is free
    pub cancelled_slot : slot_at (cancelled_deal deal table house place) slot ≡ replicate 64 0
    cancelled_slot =
        ap (λ (x : List ℕ). slot_at x slot) cancelled_is
        ∙ S.with_slot_here deal.bytes slot (replicate 64 0) cancelled_sized cancelled_slot_in refl

    pub cancelled_free : row_at (cancelled_deal deal table house place) slot ≡ free
    cancelled_free =
        ap (λ (x : List ℕ). row_at x slot) cancelled_is
        ∙ S.with_slot_row deal.bytes slot (replicate 64 0) cancelled_sized cancelled_slot_in refl
        ∙ row_free (deal_size deal) (replicate 64 0) (zero_free (deal_size deal))

  -- whatever the code: what holds of the deal as it was, and of the deal with zeros in the slot, holds of the deal
  -- afterwards
  by_code : (P : List ℕ → Type 0) → P deal.bytes
      → (DealSize (deal_size deal) → slot < entry_count (deal_size deal) → P zeroed)
      → P (cancelled_deal deal table house place)
  by_code P same changed =
      elim (ℕ_discrete (cancel_code deal table house place) 0) [
        | yes e ↦ subst P (sym (cancelled_is e)) (changed (cancelled_sized e) (cancelled_slot_in e))
        | no h ↦ subst P (sym (refused_same h)) same
      ]

  -- the length
  pub cancelled_length : length (cancelled_deal deal table house place) ≡ deal_size deal
  cancelled_length =
      by_code (λ (x : List ℕ). length x ≡ deal_size deal) refl
      (λ t h. S.with_slot_length deal.bytes slot (replicate 64 0) t h refl)

  -- the bytes below the index
  pub cancelled_below : (at n : ℕ) → at + n ≤ index_start (deal_size deal)
      → part (cancelled_deal deal table house place) at n ≡ part deal.bytes at n
  cancelled_below at n k =
      by_code (λ (x : List ℕ). part x at n ≡ part deal.bytes at n) refl
      (λ t h. S.with_slot_below deal.bytes slot (replicate 64 0) t h refl at n k)

  -- every other slot: its bytes, its row, and whether its entry is kept
  module _ (j : ℕ) (g : j < entry_count (deal_size deal)) (ne : j ≢ slot) where
    pub cancelled_slot_other : slot_at (cancelled_deal deal table house place) j ≡ slot_at deal.bytes j
    cancelled_slot_other =
        by_code (λ (x : List ℕ). slot_at x j ≡ slot_at deal.bytes j) refl
        (λ t h. S.with_slot_other deal.bytes slot (replicate 64 0) t h refl j g ne)

    pub cancelled_row_other : row_at (cancelled_deal deal table house place) j ≡ row_at deal.bytes j
    cancelled_row_other =
        by_code (λ (x : List ℕ). row_at x j ≡ row_at deal.bytes j) refl
        (λ t h. S.with_slot_row_other deal.bytes slot (replicate 64 0) t h refl j g ne)

    pub cancelled_kept_other :
        kept_at (lent_deal (cancelled_deal deal table house place)) j ≡ kept_at (lent_deal deal.bytes) j
    cancelled_kept_other =
        by_code (λ (x : List ℕ). kept_at (lent_deal x) j ≡ kept_at (lent_deal deal.bytes) j) refl
        (λ t h. S.with_slot_kept_other deal.bytes slot (replicate 64 0) t h refl j g ne)

  -- no stray bits come in, and a deal of bytes stays one
  pub cancelled_clear : no_stray_bits deal.bytes ≡ true → no_stray_bits (cancelled_deal deal table house place) ≡ true
  cancelled_clear c =
      by_code (λ (x : List ℕ). no_stray_bits x ≡ true) c
      (λ t h. S.with_slot_clear deal.bytes slot (replicate 64 0) t h refl c zeros_clear)

  pub cancelled_bytes : Bytes deal.bytes → Bytes (cancelled_deal deal table house place)
  cancelled_bytes b =
      by_code Bytes b (λ t h. S.with_slot_bytes deal.bytes slot (replicate 64 0) t h refl b zeros_bytes)
