-- How many slots a house holds: its standing entries, kept or not. A booking takes one more for its house, a
-- cancellation gives one back, and the other house holds as many as before.
use Rattle.std.specs.Prelude.{◌≡◌, refl, Bool, true, false, not, ◌&&◌, ◌≢◌, List, length, eqb}
use Rattle.std.proofs.Math.Path.{sym, ap}
use Rattle.std.proofs.Common.{ap₂, ◌∙◌, subst, arith, pow-add, pow_mono, eq-eqb, ne_eqb}
use Prim.Native.Nat.{ℕ, zero, suc, ◌+◌, ◌*◌, ◌%◌, ◌^◌, ◌-◌, ◌≤◌, ◌<◌}
use Rattle.std.proofs.Math.Decide.{ℕ_discrete, dec_le}
use Rattle.rules.specs.Search.{one, count}
use Rattle.rules.specs.SearchLaws.{count_cong}
use Rattle.sizes.specs.Sizes.{entry_count, deal_level}
use Rattle.sizes.specs.SizesLaws.{DealSize}
use Rattle.lent.specs.LentDeal.{LentDeal, deal_size}
use Rattle.index.specs.Slots.{entry_at, slot_at, standing, row_at, Row}
use Rattle.index.specs.KeptLaws.{kept_stands}
use Rattle.index.specs.Written.{slot_of}
use Rattle.index.specs.SlotWrittenLaws.{place_slot}
use Rattle.room.specs.Room.{is_empty}
use Rattle.ranges.specs.Ranges.{row_range, ranges_of}
use Rattle.ranges.specs.RangesLaws.{range_empty}
use Rattle.houses.specs.Houses.{owner_at, owned, holds, held_count, with_owner}
use Rattle.houses.specs.HousesLaws.{owner_here, owner_other}
use Rattle.booking.specs.Write.{written_deal}
use Rattle.booking.specs.WriteLaws.{Fits, written_length, row_same, kept_written}
use Rattle.booking.specs.Booking.{held_in}
use Rattle.booking.specs.BookableLaws.{bookable_deal}
use Rattle.cancel.specs.Cancel.{cancel_code, cancelled_deal, cancelled_table}
use Rattle.cancel.proofs.CancelLaws.{cancels, cancelled_sized, cancelled_slot_in, cancelled_length, cancelled_free, cancelled_row_other}
use Rattle.cancel.proofs.OwnerCancelLaws.{owner_cancels, cancelled_owner_other}

-- one number more passes
count_more : (p q : ℕ → Bool) (k i n : ℕ) → i ≤ k → k < i + n → p k ≡ true → q k ≡ false
    → ((j : ℕ) → i ≤ j → j < i + n → j ≢ k → p j ≡ q j) → count p i n ≡ suc (count q i n)
count_more p q k i zero a b e f same = absurd (omega arith)
count_more p q k i (suc n) a b e f same =
    elim (ℕ_discrete i k) [
      | yes here ↦
          let rest = count_cong p q (suc i) n (λ j l m. same j (omega arith) (omega arith) (λ s. omega arith)) in
          rw (ap p here ∙ e, ap q here ∙ f) (omega (arith, rest))
      | no ne ↦
          let first : one (p i) ≡ one (q i) = ap one (same i (omega arith) (omega arith) ne) in
          let rest = count_more p q k (suc i) n (omega arith) (omega arith) e f
          (λ j l m. same j (omega arith) (omega arith)) in
          omega (arith, first, rest)
    ]

-- each number passes one of two tests
pub count_both : (p q : ℕ → Bool) (i n : ℕ) → ((j : ℕ) → i ≤ j → j < i + n → one (p j) + one (q j) ≡ 1)
    → count p i n + count q i n ≡ n
count_both p q i zero f = refl
count_both p q i (suc n) f =
    let rest = count_both p q (suc i) n (λ j l m. f j (omega arith) (omega arith)) in
    omega (arith, f i (omega arith) (omega arith), rest)

-- none passes
pub count_none : (p : ℕ → Bool) (i n : ℕ) → ((j : ℕ) → i ≤ j → j < i + n → p j ≡ false) → count p i n ≡ 0
count_none p i zero f = refl
count_none p i (suc n) f =
    let rest = count_none p (suc i) n (λ j l m. f j (omega arith) (omega arith)) in
    rw (f i (omega arith) (omega arith)) (omega (arith, rest))

-- a house holds a slot: its entry stands, kept or not, and its byte is the house's
module _ (deal table : List ℕ) (t : DealSize (length deal)) where
  pub holds_is : (house i : ℕ)
      → holds (ranges_of deal) table house i ≡ (standing (length deal) (slot_at deal i) && owned table house i)
  holds_is house i = ap (λ (b : Bool). b && owned table house i) (full (standing (length deal) (slot_at deal i)) refl)
    where
      full : (b : Bool) → standing (length deal) (slot_at deal i) ≡ b → not (is_empty (ranges_of deal i)) ≡ b
      full true e = rw (range_empty (length deal) (slot_at deal i) t, e)
      full false e = rw (range_empty (length deal) (slot_at deal i) t, e)

  pub held_is : (house : ℕ)
      → held_in deal table house
      ≡ count (λ i. standing (length deal) (slot_at deal i) && owned table house i) 0 (entry_count (length deal))
  unfolding held_count
  held_is house =
      count_cong (holds (ranges_of deal) table house)
      (λ i. standing (length deal) (slot_at deal i) && owned table house i) 0 (entry_count (length deal))
      (λ j a b. holds_is house j)

-- an even number of slots
pub slots_even : (d : ℕ) → DealSize d → entry_count d % 2 ≡ 0
unfolding entry_count
slots_even d t =
    elim (dec_le (deal_level d) 14) [
      | yes low ↦
          let most : 2 ^ deal_level d ≤ 2 ^ 14 = pow_mono {i = deal_level d} {j = 14} low in
          omega (arith, t.is_power_lem, most)
      | no high ↦
          let up : deal_level d ≡ 14 + (deal_level d - 14) = omega arith in
          let power : 2 ^ deal_level d ≡ 2 ^ 14 * 2 ^ (deal_level d - 14) =
          ap (λ (m : ℕ). 2 ^ m) up ∙ pow-add 2 14 (deal_level d - 14) in
          omega (arith, t.is_power_lem, power)
    ]

-- two deals with their tables that differ in slot k at most
module _ (deal other table owners : List ℕ) (k : ℕ) (same_length : length other ≡ length deal)
    (rows : (j : ℕ) → j < entry_count (length deal) → j ≢ k → row_at other j ≡ row_at deal j)
    (bytes : (j : ℕ) → j ≢ k → owner_at owners j ≡ owner_at table j) where
  abbrev slots : ℕ
  slots = entry_count (length deal)

  holds_same : (house j : ℕ) → j < slots → j ≢ k
      → holds (ranges_of other) owners house j ≡ holds (ranges_of deal) table house j
  holds_same house j h ne =
      ap₂ (λ (r : Row) (o : ℕ). not (is_empty (row_range r)) && eqb o house) (rows j h ne) (bytes j ne)

  pub held_same : (house : ℕ) → holds (ranges_of other) owners house k ≡ holds (ranges_of deal) table house k
      → held_in other owners house ≡ held_in deal table house
  unfolding held_count
  held_same house e =
      ap (λ (d : ℕ). held_count (ranges_of other) owners house (entry_count d)) same_length
      ∙ count_cong (holds (ranges_of other) owners house) (holds (ranges_of deal) table house) 0 slots
      (λ j a b.
      elim (ℕ_discrete j k) [
        | yes here ↦
            ap (holds (ranges_of other) owners house) here ∙ e ∙ ap (holds (ranges_of deal) table house) (sym here)
        | no ne ↦ holds_same house j (omega arith) ne
      ])

  pub held_more : (house : ℕ) → k < entry_count (length deal) → holds (ranges_of other) owners house k ≡ true
      → holds (ranges_of deal) table house k ≡ false → held_in other owners house ≡ suc (held_in deal table house)
  unfolding held_count
  held_more house h e f =
      ap (λ (d : ℕ). held_count (ranges_of other) owners house (entry_count d)) same_length
      ∙ count_more (holds (ranges_of other) owners house) (holds (ranges_of deal) table house) k 0 slots (omega arith)
      (omega arith) e f (λ j a b ne. holds_same house j (omega arith) ne)

  pub held_less : (house : ℕ) → k < entry_count (length deal) → holds (ranges_of other) owners house k ≡ false
      → holds (ranges_of deal) table house k ≡ true → held_in deal table house ≡ suc (held_in other owners house)
  unfolding held_count
  held_less house h e f =
      count_more (holds (ranges_of deal) table house) (holds (ranges_of other) owners house) k 0 slots (omega arith)
      (omega arith) f e (λ j a b ne. sym (holds_same house j (omega arith) ne))
      ∙ ap (λ (d : ℕ). suc (held_count (ranges_of other) owners house (entry_count d))) (sym same_length)

pub and_none : (b : Bool) → (b && false) ≡ false
and_none true = refl
and_none false = refl

-- a segment was written in slot i, which is now the house's
module _ {deal segment : List ℕ} {i o : ℕ} (facts : Fits deal segment i o) (table : List ℕ) (house : ℕ)
    (in_table : i < length table) where
  abbrev after : List ℕ
  after = written_deal deal segment i o

  abbrev ours : List ℕ
  ours = with_owner table i house

  sized : DealSize (length deal)
  sized = (bookable_deal facts.bookable).deal

  sized_after : DealSize (length after)
  sized_after = subst DealSize (sym (written_length facts)) sized

  before : (other : ℕ) → holds (ranges_of deal) table other i ≡ false
  before other = holds_is deal table sized other i ∙ ap (λ (b : Bool). b && owned table other i) facts.slot_free

  now : (other : ℕ) → holds (ranges_of after) ours other i ≡ eqb house other
  now other =
      holds_is after ours sized_after other i
      ∙ ap₂ (λ (b : Bool) (x : ℕ). b && eqb x other)
      (kept_stands _ (length after) (slot_at after i) (kept_written facts)) (owner_here table i house in_table)

  other_byte : (j : ℕ) → j ≢ i → owner_at ours j ≡ owner_at table j
  other_byte j ne = owner_other table i house in_table j ne

  pub written_held : held_in after ours house ≡ suc (held_in deal table house)
  written_held =
      held_more deal after table ours i (written_length facts) (row_same facts) other_byte house facts.slot_in
      (now house ∙ eq-eqb house house refl) (before house)

  pub written_held_other : (other : ℕ) → house ≢ other → held_in after ours other ≡ held_in deal table other
  written_held_other other ne =
      held_same deal after table ours i (written_length facts) (row_same facts) other_byte other
      (now other ∙ ne_eqb house other ne ∙ sym (before other))

-- an entry was cancelled with code 0
module _ (deal : LentDeal) (table : List ℕ) (by place : ℕ) (e : cancel_code deal table by place ≡ 0) where
  abbrev left : List ℕ
  left = cancelled_deal deal table by place

  abbrev cleared : List ℕ
  cleared = cancelled_table deal table by place

  abbrev slot : ℕ
  slot = slot_of (deal_size deal) place

  stood : (other : ℕ) → holds (ranges_of deal.bytes) table other slot ≡ eqb by other
  stood other =
      let c = (cancels deal table by place).0 e in
      let at = place_slot (deal_size deal) place (cancelled_sized deal table by place e) c.place_allowed_lem in
      holds_is deal.bytes table (cancelled_sized deal table by place e) other slot
      ∙ ap₂ (λ (b : Bool) (x : ℕ). b && eqb x other)
      (ap (λ (p : ℕ). standing (deal_size deal) (entry_at deal.bytes p)) (sym at.1) ∙ c.stands_there)
      (owner_cancels deal table by place e)

  free_now : (other : ℕ) → holds (ranges_of left) cleared other slot ≡ false
  free_now other =
      ap (λ (r : Row). not (is_empty (row_range r)) && owned cleared other slot)
      (cancelled_free deal table by place e)

  pub cancelled_held : held_in deal.bytes table by ≡ suc (held_in left cleared by)
  cancelled_held =
      held_less deal.bytes left table cleared slot (cancelled_length deal table by place)
      (cancelled_row_other deal table by place) (cancelled_owner_other deal table by place) by
      (cancelled_slot_in deal table by place e) (free_now by) (stood by ∙ eq-eqb by by refl)

  pub cancelled_held_other : (other : ℕ) → by ≢ other → held_in left cleared other ≡ held_in deal.bytes table other
  cancelled_held_other other ne =
      held_same deal.bytes left table cleared slot (cancelled_length deal table by place)
      (cancelled_row_other deal table by place) (cancelled_owner_other deal table by place) other
      (free_now other ∙ sym (stood other ∙ ne_eqb by other ne))
