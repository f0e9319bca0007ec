-- A deal with one slot replaced: that slot's row and whether it is kept are as the new bytes say, and nothing else
-- changes of the deal's length, of the bytes below the index, of the other slots' rows, and of what they keep.
use Rattle.std.specs.Prelude.{◌≡◌, true, ◌&&◌, ◌≢◌, List, length, eqb, leb, ltb}
use Rattle.std.proofs.Math.Path.{sym, ap}
use Rattle.std.proofs.Common.{ap₂, ◌∙◌, eqb-true, ltb-true}
use Prim.Native.Nat.{ℕ, ◌+◌, ◌-◌, ◌*◌, ◌/◌, ◌%◌, ◌≤◌, ◌<◌}
use Rattle.std.proofs.Math.Decide.{dec_lt}
use native.Mathlib.Omega.{arith}
use Rattle.rules.specs.RefusalLaws.{and_left, and_right}
use Rattle.octets.specs.Bytes.{Bytes}
use Rattle.octets.specs.Splice.{part, splice}
use Rattle.octets.specs.SpliceLaws.{length_splice, bytes_splice, part_before, part_after, part_written}
use Rattle.octets.specs.SpliceLaws.{splice_own, splice_over}
use Rattle.stray.specs.StrayBits.{no_stray_bits}
use Rattle.stray.specs.StrayBitsLaws.{splice_clear}
use Rattle.merkle.specs.Tree.{node_at}
use Rattle.sizes.specs.Sizes.{entry_count, index_start, place_allowed, slot_place}
use Rattle.sizes.specs.SizesLaws.{DealSize, index_area, entry_place}
use Rattle.lent.specs.LentDeal.{lent_deal}
use Rattle.index.specs.Slots.{slot_at, kept, kept_at, row_of, row_at}
use Rattle.index.specs.KeptRowsLaws.{slot_within, row_ends, kept_same}
use Rattle.index.specs.Written.{slot_of, with_slot}

-- every allowed place is that of a slot
slot_number : (start count d place : ℕ) → start % 64 ≡ 0 → place % 64 ≡ 0 → start ≤ place → place < d
    → start + 64 * count ≡ d
    → ((place - start) / 64 < count) × (place ≡ start + 64 * ((place - start) / 64))
slot_number start count d place a b c e f = (omega arith, omega arith)

pub place_slot : (d place : ℕ) → DealSize d → place_allowed d place ≡ true
    → (slot_of d place < entry_count d) × (place ≡ slot_place d (slot_of d place))
unfolding slot_place place_allowed
place_slot d place t e =
    let within = leb (index_start d) place && ltb place d in
    let a : place % 64 ≡ 0 = eqb-true (place % 64) 0 (and_left (eqb (place % 64) 0) within e) in
    let b = and_right (leb (index_start d) place) (ltb place d) (and_right (eqb (place % 64) 0) within e) in
    let x = index_area d t in
    slot_number (index_start d) (entry_count d) d place x.start_aligned a (entry_place d place t e).from_start
    (ltb-true place d b) x.start_count

-- and every slot is that of its place
pub slot_back : (d i : ℕ) → slot_of d (slot_place d i) ≡ i
unfolding slot_place
slot_back d i = omega arith

-- what a slot holds already changes nothing
pub with_slot_own : (deal : List ℕ) (i : ℕ) (entry : List ℕ) → length entry ≡ 64 → slot_at deal i ≡ entry
    → with_slot deal i entry ≡ deal
unfolding with_slot
with_slot_own deal i entry l e =
    splice_own deal (slot_place (length deal) i) entry (ap (part deal (slot_place (length deal) i)) l ∙ e)

module _ (deal : List ℕ) (i : ℕ) (entry : List ℕ) (t : DealSize (length deal)) (h : i < entry_count (length deal))
    (l : length entry ≡ 64) where
  fits : slot_place (length deal) i + length entry ≤ length deal
  fits = omega (arith, slot_within (length deal) i t h)

  pub with_slot_length : length (with_slot deal i entry) ≡ length deal
  unfolding with_slot
  with_slot_length = length_splice deal (slot_place (length deal) i) entry fits

  -- bytes written in the same slot later stand alone
  pub with_slot_over : (later : List ℕ) → length later ≡ 64
      → with_slot (with_slot deal i entry) i later ≡ with_slot deal i later
  unfolding with_slot
  with_slot_over later k =
      ap (λ (d : ℕ). splice (with_slot deal i entry) (slot_place d i) later) with_slot_length
      ∙ splice_over deal (slot_place (length deal) i) entry later fits (k ∙ sym l)

  pub with_slot_bytes : Bytes deal → Bytes entry → Bytes (with_slot deal i entry)
  unfolding with_slot
  with_slot_bytes b c = bytes_splice deal (slot_place (length deal) i) entry b c

  -- bytes below the index
  pub with_slot_below : (at n : ℕ) → at + n ≤ index_start (length deal)
      → part (with_slot deal i entry) at n ≡ part deal at n
  unfolding with_slot slot_place
  with_slot_below at n k = part_before deal (slot_place (length deal) i) entry fits at n (omega arith)

  -- that slot, and every other
  pub with_slot_here : slot_at (with_slot deal i entry) i ≡ entry
  unfolding with_slot
  with_slot_here =
      ap (λ (d : ℕ). part (with_slot deal i entry) (slot_place d i) 64) with_slot_length
      ∙ ap (part (with_slot deal i entry) (slot_place (length deal) i)) (sym l)
      ∙ part_written deal (slot_place (length deal) i) entry fits

  pub with_slot_other : (j : ℕ) → j < entry_count (length deal) → j ≢ i
      → slot_at (with_slot deal i entry) j ≡ slot_at deal j
  unfolding with_slot slot_place
  with_slot_other j g ne =
      let here = slot_place (length deal) i in
      let there = slot_place (length deal) j in
      ap (λ (d : ℕ). part (with_slot deal i entry) (slot_place d j) 64) with_slot_length
      ∙ elim (dec_lt j i) [
        | yes less ↦ part_before deal here entry fits there 64 (omega arith)
        | no more ↦ part_after deal here entry fits there 64 (omega arith) (slot_within (length deal) j t g)
      ]

  -- rows
  pub with_slot_row : row_at (with_slot deal i entry) i ≡ row_of (length deal) entry
  with_slot_row = ap₂ row_of with_slot_length with_slot_here

  pub with_slot_row_other : (j : ℕ) → j < entry_count (length deal) → j ≢ i
      → row_at (with_slot deal i entry) j ≡ row_at deal j
  with_slot_row_other j g ne = ap₂ row_of with_slot_length (with_slot_other j g ne)

  -- kept: of the deal's bytes only the entry's own area is read, and none of the index
  same_kept : (e : List ℕ)
      → kept (node_at (with_slot deal i entry)) (length deal) e ≡ kept (node_at deal) (length deal) e
  same_kept e =
      kept_same (length deal) e t deal (with_slot deal i entry) (with_slot_below _ _ (row_ends (length deal) e t))

  pub with_slot_kept : kept_at (lent_deal (with_slot deal i entry)) i ≡ kept (node_at deal) (length deal) entry
  with_slot_kept = ap₂ (kept (node_at (with_slot deal i entry))) with_slot_length with_slot_here ∙ same_kept entry

  pub with_slot_kept_other : (j : ℕ) → j < entry_count (length deal) → j ≢ i
      → kept_at (lent_deal (with_slot deal i entry)) j ≡ kept_at (lent_deal deal) j
  with_slot_kept_other j g ne =
      ap₂ (kept (node_at (with_slot deal i entry))) with_slot_length (with_slot_other j g ne)
      ∙ same_kept (slot_at deal j)

  -- stray bits: none come in but by the new bytes
  pub with_slot_clear : no_stray_bits deal ≡ true → no_stray_bits entry ≡ true
      → no_stray_bits (with_slot deal i entry) ≡ true
  unfolding with_slot slot_place
  with_slot_clear e f =
      let start : index_start (length deal) % 64 ≡ 0 = (index_area (length deal) t).start_aligned in
      let q : ℕ = index_start (length deal) / 32 + 2 * i in
      let at : slot_place (length deal) i ≡ q * 32 = omega arith in
      ap (λ (m : ℕ). no_stray_bits (splice deal m entry)) at ∙ splice_clear deal entry q 2 l (omega (arith, fits)) e f
