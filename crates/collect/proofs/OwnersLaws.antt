-- What the collected table holds: every standing entry's byte, as it was, for its new slot, and 0 for the slots past
-- the number of standing entries.
use Rattle.std.specs.Prelude.{◌≡◌, Bool, true, false, ℕ, zero, suc, ◌+◌, ◌≤◌, ◌<◌, List, [], ◌∷◌, get_or, replicate}
use Rattle.std.proofs.Common.{sym, ap, ◌∙◌, inr, ⊎_elim, arith}
use Rattle.std.proofs.Math.Logic.{inl}
use Rattle.std.proofs.Math.ListN.{length}
use Rattle.std.proofs.lemmas.List.{length-replicate}
use Rattle.rules.specs.Choice.{choose}
use Rattle.octets.specs.Bytes.{Bytes}
use Rattle.octets.specs.Splice.{part}
use Rattle.octets.specs.SpliceLaws.{get_d_part}
use Rattle.sizes.specs.Sizes.{entry_count}
use Rattle.index.specs.Slots.{slot_at, standing, row_at, Row}
use Rattle.index.specs.KeptLaws.{row_stands, row_free}
use Rattle.ranges.specs.Ranges.{ranges_of}
use Rattle.houses.specs.Houses.{table_sized, owner_at}
use Rattle.houses.specs.HousesLaws.{length_sized}
use Rattle.packing.specs.Order.{ranges_count}
use Rattle.packing.specs.Apart.{Apart}
use Rattle.packing.specs.PackingLaws.{count_le, new_slots_apart}
use Rattle.collect.specs.Collect.{slot_to, owner_to, collected_deal, collected_table}
use Rattle.collect.specs.Collectable.{Collectable, From}
use Rattle.collect.proofs.MovesLaws.{owner_length, sized, slot_ends}
use Rattle.collect.specs.ZerosLaws.{zeros_part, zeros_bytes}
use Rattle.collect.specs.WritesLaws.{Within, written_length, written_bytes_lem, written_elsewhere, written_at_lem}
use Rattle.collect.proofs.CollectLaws.{collected_length}

-- what a slot brings: one byte where its entry stands, and none where it is free
module _ (deal table : List ℕ) (j : ℕ) where
  abbrev brings : Row → List ℕ
  brings row = choose row.stands (owner_at table j ∷ []) []

  pub owner_brought : standing (length deal) (slot_at deal j) ≡ true → owner_to deal table j ≡ owner_at table j ∷ []
  owner_brought e = ap brings (row_stands (length deal) (slot_at deal j) e)

  pub none_brought : standing (length deal) (slot_at deal j) ≡ false → owner_to deal table j ≡ []
  none_brought e = ap brings (row_free (length deal) (slot_at deal j) e)

module _ {deal : List ℕ} (c : Collectable deal) (table : List ℕ) where
  abbrev slots : ℕ
  slots = entry_count (length deal)

  abbrev zeros : List ℕ
  zeros = replicate slots 0

  zeros_length : length zeros ≡ slots
  zeros_length = length-replicate slots 0

  -- the bytes lie in the table, no two of them in one slot
  owners_within : Within (slot_to deal) (owner_to deal table) zeros slots
  owners_within j h =
      omega (arith, slot_ends c j h, owner_length deal (sized c) j table, count_le (ranges_of deal) slots, zeros_length)

  owners_apart : Apart (slot_to deal) (λ j. length (owner_to deal table j)) slots
  owners_apart i j hi hj ne =
      ⊎_elim
      (λ before. inl (omega (arith, owner_length deal (sized c) j table)))
      (λ after. inr (omega (arith, owner_length deal (sized c) i table)))
      (new_slots_apart (ranges_of deal) slots c.apart i j hi hj ne)

  -- one byte a slot of the deal, and of the collected one
  pub owners_length : length (collected_table deal table) ≡ entry_count (length deal)
  unfolding collected_table
  owners_length = written_length (slot_to deal) (owner_to deal table) zeros slots owners_within ∙ zeros_length

  pub owners_sized : table_sized (length (collected_deal deal)) (collected_table deal table) ≡ true
  owners_sized =
      length_sized (length (collected_deal deal)) (collected_table deal table)
      (owners_length ∙ ap entry_count (sym (collected_length c)))

  -- the byte of a part of the table
  byte_of : (x : ℕ) (byte : List ℕ) → part (collected_table deal table) x 1 ≡ byte
      → owner_at (collected_table deal table) x ≡ get_or byte 0 0
  byte_of x byte e =
      let at : x ≡ x + 0 = omega arith in
      ap (owner_at (collected_table deal table)) at
      ∙ sym (get_d_part (collected_table deal table) x 1 0 (omega arith))
      ∙ ap (λ (b : List ℕ). get_or b 0 0) e

  -- a standing entry's byte, whatever it is, is that of its new slot
  pub moved_owner : (j : ℕ) → j < entry_count (length deal) → standing (length deal) (slot_at deal j) ≡ true
      → owner_at (collected_table deal table) (slot_to deal j) ≡ owner_at table j
  unfolding collected_table
  moved_owner j h e =
      let brought = owner_brought deal table j e in
      byte_of (slot_to deal j) (owner_at table j ∷ [])
      (ap (part (collected_table deal table) (slot_to deal j)) (sym (ap length brought))
      ∙ written_at_lem (slot_to deal) (owner_to deal table) zeros slots j owners_within owners_apart h
      ∙ brought)

  pub owner_from : (x : ℕ) (from : From deal x) → owner_at (collected_table deal table) x ≡ owner_at table from.old
  owner_from x from =
      ap (owner_at (collected_table deal table)) (sym from.moves)
      ∙ moved_owner from.old from.old_in from.stood

  -- and 0 is that of the slots past them
  pub owners_after : (x : ℕ) → ranges_count (ranges_of deal) (entry_count (length deal)) ≤ x
      → x < entry_count (length deal) → owner_at (collected_table deal table) x ≡ 0
  unfolding collected_table
  owners_after x a b =
      byte_of x (replicate 1 0)
      (written_elsewhere (slot_to deal) (owner_to deal table) zeros slots x 1 owners_within
      (omega (arith, zeros_length))
      (λ k l. inl (omega (arith, slot_ends c k l, owner_length deal (sized c) k table)))
      ∙ zeros_part slots x 1 (omega arith))

-- they are bytes, where those of the table are
byte_below : (xs : List ℕ) → Bytes xs → (i : ℕ) → get_or xs i 0 < 256
byte_below [] b i = omega arith
byte_below (x ∷ xs) b zero = b.0
byte_below (x ∷ xs) b (suc i) = byte_below xs b.1 i

brought_bytes : (s : Bool) (owner : ℕ) → owner < 256 → Bytes (choose s (owner ∷ []) [])
brought_bytes true owner h = (h, tt)
brought_bytes false owner h = tt

pub owners_bytes : (deal table : List ℕ) → Bytes table → Bytes (collected_table deal table)
unfolding collected_table
owners_bytes deal table b =
    let slots : ℕ = entry_count (length deal) in
    written_bytes_lem (slot_to deal) (owner_to deal table) (replicate slots 0) slots
    (λ k h. brought_bytes (row_at deal k).stands (owner_at table k) (byte_below table b k)) (zeros_bytes slots)
