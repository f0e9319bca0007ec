-- When house and table are refused, owners after one is written, and how many slots a house holds.
use Rattle.std.specs.Prelude.{◌≡◌, Bool, true, false, not, ◌&&◌, ◌↔◌, ◌≢◌, ℕ, zero, suc, ◌+◌, ◌≤◌, ◌<◌}
use Rattle.std.specs.Prelude.{List, [], ◌∷◌, length, eqb}
use Rattle.std.proofs.Math.Path.{ap}
use Rattle.std.proofs.Common.{ap₂, ◌∙◌, eqb-true, eq-eqb}
use Rattle.std.proofs.Math.Decide.{dec_lt}
use native.Mathlib.Omega.{arith}
use Rattle.std.proofs.Math.ListN.{get_or}
use Rattle.octets.specs.Bytes.{Bytes, bytes_of_lem}
use Rattle.octets.specs.Splice.{splice}
use Rattle.octets.specs.SpliceLaws.{length_splice, splice_before, splice_inside, splice_after, bytes_splice}
use Rattle.rules.specs.Refusals.{first_refusal}
use Rattle.rules.specs.RefusalLaws.{none_refused, all_passed}
use Rattle.rules.specs.Search.{one, count}
use Rattle.rules.specs.SearchLaws.{count_cong}
use Rattle.sizes.specs.Sizes.{lent_size_allowed, entry_count}
use Rattle.room.specs.Room.{Range, SameBelow, is_empty}
use Rattle.houses.specs.Houses.{house_allowed, table_sized, house_rules}
use Rattle.houses.specs.Houses.{owner_at, owned, holds, held_count, with_owner}

-- the refusals of house and table, by the tests in their order
module _ (d : ℕ) (table : List ℕ) (house : ℕ) where
  pub record Housed : Type 0 where
    pub house_allowed_lem : house_allowed house ≡ true
    pub size_allowed : lent_size_allowed d ≡ true
    pub table_sized_lem : table_sized d table ≡ true

  pub housed : (first_refusal (house_rules d table house) ≡ 0) ↔ Housed
  housed = (
    λ e.
        let p = none_refused (house_rules d table house) (omega arith, (omega arith, (omega arith, tt))) e in
        record { house_allowed_lem = p.0; size_allowed = p.1.0; table_sized_lem = p.1.1.0 },
    λ h. all_passed (house_rules d table house) (h.house_allowed_lem, (h.size_allowed, (h.table_sized_lem, tt))),
  )

  pub refusal_house : house_allowed house ≡ false → first_refusal (house_rules d table house) ≡ 23
  refusal_house e = rw e

  module _ (a : house_allowed house ≡ true) where
    pub refusal_size : lent_size_allowed d ≡ false → first_refusal (house_rules d table house) ≡ 2
    refusal_size e = rw (a, e)

    pub refusal_table : lent_size_allowed d ≡ true → table_sized d table ≡ false
        → first_refusal (house_rules d table house) ≡ 23
    refusal_table s e = rw (a, s, e)

-- a table with one byte a slot
pub sized_length : (d : ℕ) (table : List ℕ) → table_sized d table ≡ true → length table ≡ entry_count d
sized_length d table e = eqb-true (length table) (entry_count d) e

pub length_sized : (d : ℕ) (table : List ℕ) → length table ≡ entry_count d → table_sized d table ≡ true
length_sized d table e = eq-eqb (length table) (entry_count d) e

-- the slot's byte is written, and no other changes
module _ (table : List ℕ) (i owner : ℕ) (h : i < length table) where
  pub with_owner_length : length (with_owner table i owner) ≡ length table
  unfolding with_owner
  with_owner_length = length_splice table i (owner ∷ []) (omega arith)

  pub owner_here : owner_at (with_owner table i owner) i ≡ owner
  unfolding with_owner
  owner_here =
      let same : i ≡ i + 0 = omega arith in
      ap (λ (k : ℕ). get_or (splice table i (owner ∷ [])) k 0) same
      ∙ splice_inside table i (owner ∷ []) (omega arith) 0 (omega arith)

  pub owner_other : (j : ℕ) → j ≢ i → owner_at (with_owner table i owner) j ≡ owner_at table j
  unfolding with_owner
  owner_other j ne =
      elim (dec_lt j i) [
        | yes before ↦ splice_before table i (owner ∷ []) (omega arith) j before
        | no after ↦ splice_after table i (owner ∷ []) (omega arith) j (omega (arith, ne))
      ]

  pub owned_other : (house j : ℕ) → j ≢ i → owned (with_owner table i owner) house j ≡ owned table house j
  owned_other house j ne = ap (λ (o : ℕ). eqb o house) (owner_other j ne)

-- so the table is as long as it was, and of bytes where the owner is one
pub with_owner_sized : (d : ℕ) (table : List ℕ) (i owner : ℕ) → i < length table
    → table_sized d (with_owner table i owner) ≡ table_sized d table
with_owner_sized d table i owner h = ap (λ (n : ℕ). eqb n (entry_count d)) (with_owner_length table i owner h)

pub with_owner_bytes : (table : List ℕ) (i owner : ℕ) → Bytes table → owner < 256 → Bytes (with_owner table i owner)
unfolding with_owner
with_owner_bytes table i owner b h = bytes_splice table i (owner ∷ []) b (bytes_of_lem (owner ∷ []) one_byte)
  where
    one_byte : (j : ℕ) → j < length (owner ∷ []) → get_or (owner ∷ []) j 0 < 256
    one_byte zero l = h
    one_byte (suc j) l = absurd (omega arith)

-- the slots that a house holds: by ranges and bytes alone
pub held_cong : (slots : ℕ) (r s : ℕ → Range) (table other : List ℕ) (house : ℕ) → SameBelow slots r s
    → ((i : ℕ) → i < slots → owner_at table i ≡ owner_at other i)
    → held_count r table house slots ≡ held_count s other house slots
unfolding held_count
held_cong slots r s table other house same owners =
    count_cong (holds r table house) (holds s other house) 0 slots
    (λ j a b.
    ap₂ (λ (x : Range) (o : ℕ). not (is_empty x) && eqb o house) (same j (omega arith)) (owners j (omega arith)))

one_most : (b : Bool) → one b ≤ 1
one_most true = omega arith
one_most false = omega arith

count_most : (p : ℕ → Bool) (i n : ℕ) → count p i n ≤ n
count_most p i zero = omega arith
count_most p i (suc n) = omega (arith, one_most (p i), count_most p (suc i) n)

-- at most all of them
pub held_most : (ranges : ℕ → Range) (table : List ℕ) (house slots : ℕ) → held_count ranges table house slots ≤ slots
unfolding held_count
held_most ranges table house slots = count_most (holds ranges table house) 0 slots
