-- No house has two standing entries with equal T and equal T bytes exactly if none keeps a segment in two slots, where
-- every standing entry keeps a segment. After a call that changes one slot no house keeps a segment in two, if none of
-- its slots kept what the changed one keeps now.
use Rattle.std.specs.Prelude.{◌≡◌, Bool, true, false, ◌&&◌, ◌≢◌, ℕ, ◌<◌, List, length, eqb}
use Rattle.std.proofs.Common.{sym, ap, ap₂, ◌∙◌, true≢false, eqb-true, eq-eqb}
use Rattle.std.proofs.Math.Decide.{ℕ_discrete}
use Rattle.rules.specs.RefusalLaws.{and_both}
use Rattle.sizes.specs.Sizes.{entry_count}
use Rattle.sizes.specs.SizesLaws.{DealSize}
use Rattle.lent.specs.LentDeal.{LentDeal, lent_deal}
use Rattle.index.specs.Slots.{slot_at, standing}
use Rattle.houses.specs.Houses.{owner_at, owned}
use Rattle.booking.specs.Booking.{keeps_segment, keeps_own}
use Rattle.booking.specs.OwnLaws.{own_owned, own_keeps, own_stands}
use Rattle.demands.specs.Calls.{DealAndTable}
use Rattle.demands.proofs.KeepsOnlyLaws.{keeps_size, keeps_view}
use Rattle.demands.specs.Year.{StandsFor}
use Rattle.demands.specs.Assured.{NoTwoAlike}
use Rattle.demands.proofs.OneSlotLaws.{SameBut, slot_was}

-- no house keeps a segment in two slots
abbrev pub KeepsOnce : DealAndTable → Type 0
KeepsOnce now =
    (house : ℕ) (segment : List ℕ) (i j : ℕ) → i < entry_count (length now.deal)
    → j < entry_count (length now.deal)
    → keeps_own (lent_deal now.deal) now.table house segment i ≡ true
    → keeps_own (lent_deal now.deal) now.table house segment j ≡ true → i ≡ j

-- every standing entry keeps a segment
abbrev pub EachKeeps : List ℕ → Type 0
EachKeeps deal =
    (i : ℕ) → i < entry_count (length deal) → standing (length deal) (slot_at deal i) ≡ true
    → (segment : List ℕ) × (keeps_segment (lent_deal deal) segment i ≡ true)

module _ (now : DealAndTable) (t : DealSize (length now.deal)) where
  abbrev deal : LentDeal
  deal = lent_deal now.deal

  pub alike_once : NoTwoAlike now → KeepsOnce now
  alike_once none house segment i j hi hj ki kj =
      none house i j hi hj (stands i ki) (stands j kj)
      (keeps_size now.deal segment i t (keeps i ki) ∙ sym (keeps_size now.deal segment j t (keeps j kj)))
      (keeps_view now.deal segment i t (keeps i ki) ∙ sym (keeps_view now.deal segment j t (keeps j kj)))
    where
      keeps : (x : ℕ) → keeps_own deal now.table house segment x ≡ true → keeps_segment deal segment x ≡ true
      keeps x k = own_keeps deal now.table house segment x k

      stands : (x : ℕ) → keeps_own deal now.table house segment x ≡ true → StandsFor now house x
      stands x k = (
        own_stands deal now.table house segment x k,
        eqb-true (owner_at now.table x) house (own_owned deal now.table house segment x k),
      )

  pub once_alike : EachKeeps now.deal → KeepsOnce now → NoTwoAlike now
  once_alike each once house i j hi hj si sj size bytes =
      let one = each i hi si.0 in
      let other = each j hj sj.0 in
      let same : one.0 ≡ other.0 =
      sym (keeps_view now.deal one.0 i t one.1) ∙ bytes ∙ keeps_view now.deal other.0 j t other.1 in
      once house one.0 i j hi hj (own i si.1 one.0 one.1)
      (own j sj.1 one.0 (ap (λ (s : List ℕ). keeps_segment deal s j) same ∙ other.1))
    where
      own : (x : ℕ) → owner_at now.table x ≡ house → (segment : List ℕ) → keeps_segment deal segment x ≡ true
          → keeps_own deal now.table house segment x ≡ true
      own x o segment k =
          and_both (owned now.table house x) (keeps_segment deal segment x)
          (eq-eqb (owner_at now.table x) house o) k

-- a call changed slot k, and what it keeps now no slot of its house kept
module _ {k : ℕ} {was now : DealAndTable} (same : SameBut k was now)
    (new : (house : ℕ) (segment : List ℕ) → keeps_own (lent_deal now.deal) now.table house segment k ≡ true
    → (j : ℕ) → j < entry_count (length was.deal)
    → keeps_own (lent_deal was.deal) was.table house segment j ≡ false) where
  abbrev keeps_now : ℕ → List ℕ → ℕ → Bool
  keeps_now house segment i = keeps_own (lent_deal now.deal) now.table house segment i

  own_same : (house : ℕ) (segment : List ℕ) (j : ℕ) → j < entry_count (length now.deal) → j ≢ k
      → keeps_now house segment j ≡ keeps_own (lent_deal was.deal) was.table house segment j
  own_same house segment j h ne =
      ap₂ ◌&&◌ (ap (λ (owner : ℕ). eqb owner house) (same.owner_same j ne))
      (same.keeps_same segment j (slot_was same j h) ne)

  -- a slot that keeps what slot k keeps is slot k
  only_new : (house : ℕ) (segment : List ℕ) (j : ℕ) → keeps_now house segment k ≡ true
      → j < entry_count (length now.deal) → keeps_now house segment j ≡ true → j ≡ k
  only_new house segment j here h there =
      elim (ℕ_discrete j k) [
        | yes e ↦ e
        | no ne ↦
            absurd
            (true≢false
            (sym there ∙ own_same house segment j h ne ∙ new house segment here j (slot_was same j h)))
      ]

  pub once_stays : KeepsOnce was → KeepsOnce now
  once_stays once house segment i j hi hj ki kj =
      elim (ℕ_discrete i k) [
        | yes e ↦ e ∙ sym (only_new house segment j (ap (keeps_now house segment) (sym e) ∙ ki) hj kj)
        | no ne ↦
            elim (ℕ_discrete j k) [
              | yes e ↦ only_new house segment i (ap (keeps_now house segment) (sym e) ∙ kj) hi ki ∙ sym e
              | no ne' ↦
                  once house segment i j (slot_was same i hi) (slot_was same j hj)
                  (sym (own_same house segment i hi ne) ∙ ki) (sym (own_same house segment j hj ne') ∙ kj)
            ]
      ]
