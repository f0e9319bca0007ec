-- The ways through comes_first, and the turns of the loop in move_of: a sum over the ranges before that of slot j.
use mathlib.Core.Path.{◌≡◌, refl, sym, ap, ap₂, ◌∙◌}
use Rattle.std.proofs.Common.{add-zero}
use mir.Val.{bool_byte}
use mathlib.Core.Bool.{Bool, true, false, not}
use mathlib.Core.Logic.{◌≢◌}
use Prim.Native.Nat.{ℕ, ◌+◌, ◌*◌, ◌≤◌, ◌<◌}
use native.Mathlib.Omega.{arith}
use lib.Dec.{eqb, ltb}
use borrow.Author.Tests.{lt-ltb, le-ltb, eq-eqb, ne_eqb}
use Rattle.rules.specs.Choice.{choose}
use Rattle.room.specs.Room.{Range, range, EndBy}
use Rattle.packing.specs.Total.{total}
use Rattle.packing.specs.TotalLaws.{total_next, total_most}
use Rattle.packing.specs.OrderLaws.{range_count_le}
use Rattle.packing.specs.Order.{comes_first, range_count, range_area, sum_before, new_slot, new_offset}

module _ (a o b p : ℕ) where
  pub larger : b < a → ltb b a ≡ comes_first (range o a) (range p b)
  unfolding comes_first
  larger h = rw (lt-ltb b a h)

  pub equal : a ≤ b → a ≡ b → ltb o p ≡ comes_first (range o a) (range p b)
  unfolding comes_first
  equal h e = rw (le-ltb b a h, eq-eqb a b e)

  pub smaller : a ≤ b → a ≢ b → eqb a b ≡ comes_first (range o a) (range p b)
  unfolding comes_first
  smaller h e = rw (le-ltb b a h, ne_eqb a b e)

-- 1 for a range that has bytes
pub byte_count : (b : Bool) → bool_byte (not b) ≡ choose b 0 1
byte_count true = refl
byte_count false = refl

module _ (measure : Range → ℕ) (ranges : ℕ → Range) (j : ℕ) where
  -- what slot i adds
  abbrev pub term_before : ℕ → ℕ
  term_before i = choose (comes_first (ranges i) (ranges j)) (measure (ranges i)) 0

  pub sum_start : 0 ≡ sum_before measure ranges 0 j
  unfolding sum_before total
  sum_start = refl

  pub sum_turn : (i s m : ℕ) → s ≡ sum_before measure ranges i j → m ≡ term_before i
      → s + m ≡ sum_before measure ranges (i + 1) j
  unfolding sum_before
  sum_turn i s m e f = ap₂ ◌+◌ e f ∙ sym (total_next term_before i)

  sum_most : (n m : ℕ) → ((i : ℕ) → i < n → measure (ranges i) ≤ m) → sum_before measure ranges n j ≤ n * m
  unfolding sum_before
  sum_most n m h =
      total_most term_before n m (λ i l. omega (arith, by_test (comes_first (ranges i) (ranges j)) i, h i l))
    where
      by_test : (b : Bool) (i : ℕ) → choose b (measure (ranges i)) 0 ≤ measure (ranges i)
      by_test true i = omega arith
      by_test false i = omega arith

  -- a turn at a slot that comes first, and at one that does not
  pub sum_first : (i s m : ℕ) → s ≡ sum_before measure ranges i j → comes_first (ranges i) (ranges j) ≡ true
      → m ≡ measure (ranges i) → s + m ≡ sum_before measure ranges (i + 1) j
  sum_first i s m inv e f =
      sum_turn i s m inv (f ∙ sym (ap (λ (b : Bool). choose b (measure (ranges i)) 0) e))

  pub sum_later : (i s : ℕ) → s ≡ sum_before measure ranges i j → comes_first (ranges i) (ranges j) ≡ false
      → s ≡ sum_before measure ranges (i + 1) j
  sum_later i s inv e =
      sym (add-zero s) ∙ sum_turn i s 0 inv (sym (ap (λ (b : Bool). choose b (measure (ranges i)) 0) e))

-- neither sum overflows
module _ (ranges : ℕ → Range) (n j : ℕ) where
  pub slot_most : new_slot ranges n j ≤ n
  slot_most = omega (arith, sum_most range_count ranges j n 1 (λ i h. range_count_le (ranges i)))

  pub offset_most : (limit : ℕ) → EndBy limit n ranges → new_offset ranges n j ≤ n * limit
  offset_most limit h = sum_most range_area ranges j n limit (λ i l. omega (arith, h i l))
