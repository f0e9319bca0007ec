-- What cancelling reads and writes of the table of owners (document 02, request (x)): it "see[s] only one's own
-- entries, any other place of the index gets 16"; with code 0 the slot's byte is cleared; whatever the code, every
-- other byte is as it was.
use Rattle.std.specs.Prelude.{◌≡◌, refl, true, false, ◌≢◌, ℕ, ◌<◌, List, length, eqb}
use Rattle.std.proofs.Common.{sym, ap, ◌∙◌, subst, arith, eqb-true}
use Rattle.std.proofs.Math.Decide.{ℕ_discrete}
use Rattle.octets.specs.Bytes.{Bytes}
use Rattle.sizes.specs.Sizes.{entry_count, place_allowed}
use Rattle.lent.specs.LentDeal.{LentDeal, deal_size, deal_refusal}
use Rattle.lent.specs.LentDealLaws.{refusal_none, answer_refused}
use Rattle.index.specs.Written.{slot_of}
use Rattle.houses.specs.Houses.{house_allowed, table_sized, owner_at, with_owner}
use Rattle.houses.specs.HousesLaws.{sized_length, with_owner_length, with_owner_bytes, owner_here, owner_other}
use Rattle.cancel.specs.Cancel.{stands_own, cancel_code, cancelled_table}
use Rattle.cancel.proofs.CancelLaws.{cancels, cancelled_slot_in}

module _ (deal : LentDeal) (table : List ℕ) (house place : ℕ) where
  -- the slot at the place
  abbrev slot : ℕ
  slot = slot_of (deal_size deal) place

  -- a place of the index where no entry stands, or one that is not the house's
  pub not_own : house_allowed house ≡ true → deal_refusal deal ≡ 0 → table_sized (deal_size deal) table ≡ true
      → place_allowed (deal_size deal) place ≡ true → stands_own deal table house place ≡ false
      → cancel_code deal table house place ≡ 16
  unfolding cancel_code
  not_own h e t p s = let d = refusal_none deal e in rw (h, d.0, t, d.1, d.2, p, s)

  -- a slot with another byte than the house's is not cancelled
  pub owner_cancels : cancel_code deal table house place ≡ 0 → owner_at table (slot_of (deal_size deal) place) ≡ house
  owner_cancels e = eqb-true (owner_at table slot) house ((cancels deal table house place).0 e).owned_there

  pub other_owner : owner_at table (slot_of (deal_size deal) place) ≢ house → cancel_code deal table house place ≢ 0
  other_owner ne e = ne (owner_cancels e)

  -- any code but 0 leaves the table as it is
  pub refused_table : cancel_code deal table house place ≢ 0 → cancelled_table deal table house place ≡ table
  unfolding cancelled_table
  refused_table h =
      answer_refused (λ (code : ℕ). table) (with_owner table slot 0) (cancel_code deal table house place) h

  -- with code 0 the slot's byte is cleared
  module _ (e : cancel_code deal table house place ≡ 0) where
    pub table_is : cancelled_table deal table house place ≡ with_owner table (slot_of (deal_size deal) place) 0
    unfolding cancelled_table
    table_is = rw e

    pub slot_in_table : slot_of (deal_size deal) place < length table
    slot_in_table =
        let l = sized_length (deal_size deal) table ((cancels deal table house place).0 e).table_sized_lem in
        let i = cancelled_slot_in deal table house place e in
        omega arith

    pub cleared_owner : owner_at (cancelled_table deal table house place) (slot_of (deal_size deal) place) ≡ 0
    cleared_owner = ap (λ (t : List ℕ). owner_at t slot) table_is ∙ owner_here table slot 0 slot_in_table

  -- whatever the code: what holds of the table as it was, and of the table with 0 for the slot, holds of the table
  -- afterwards
  by_code : (P : List ℕ → Type 0) → P table → (slot < length table → P (with_owner table slot 0))
      → P (cancelled_table deal table house place)
  by_code P same changed =
      elim (ℕ_discrete (cancel_code deal table house place) 0) [
        | yes e ↦ subst P (sym (table_is e)) (changed (slot_in_table e))
        | no h ↦ subst P (sym (refused_table h)) same
      ]

  -- every other byte
  pub cancelled_owner_other : (j : ℕ) → j ≢ slot_of (deal_size deal) place
      → owner_at (cancelled_table deal table house place) j ≡ owner_at table j
  cancelled_owner_other j ne =
      by_code (λ (t : List ℕ). owner_at t j ≡ owner_at table j) refl (λ h. owner_other table slot 0 h j ne)

  -- the length, and a table of bytes stays one
  pub cancelled_table_length : length (cancelled_table deal table house place) ≡ length table
  cancelled_table_length =
      by_code (λ (t : List ℕ). length t ≡ length table) refl (λ h. with_owner_length table slot 0 h)

  pub cancelled_table_sized : (d : ℕ) → table_sized d (cancelled_table deal table house place) ≡ table_sized d table
  cancelled_table_sized d = ap (λ (n : ℕ). eqb n (entry_count d)) cancelled_table_length

  pub cancelled_table_bytes : Bytes table → Bytes (cancelled_table deal table house place)
  cancelled_table_bytes b = by_code Bytes b (λ h. with_owner_bytes table slot 0 b (omega arith))
