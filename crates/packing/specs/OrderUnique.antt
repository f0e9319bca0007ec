-- The order is the only one: whatever way of placing the ranges with bytes, in slots below their number and in the
-- order of collection, is that by new slots.
use Rattle.std.specs.Prelude.{◌≡◌, Bool, true, false, not, ◌&&◌, ◌≢◌, ℕ, ◌-◌, ◌≤◌, ◌<◌}
use Rattle.std.proofs.Common.{sym, ap, ◌∙◌, true≢false, ⊎_elim}
use Rattle.std.proofs.Math.Decide.{ℕ_discrete}
use native.Mathlib.Omega.{arith}
use Rattle.std.proofs.lemmas.Bool.{not-true}
use Rattle.rules.specs.Choice.{choose}
use Rattle.rules.specs.RefusalLaws.{and_left, and_right}
use Rattle.rules.specs.Search.{one}
use Rattle.room.specs.Room.{Range, is_empty}
use Rattle.packing.specs.TotalLaws.{total_le, total_split}
use Rattle.packing.specs.Apart.{RangesApart}
use Rattle.packing.specs.ApartLaws.{distinct_count}
use Rattle.packing.specs.Order.{comes_first, range_count, sum_before, new_slot, ranges_count}
use Rattle.packing.specs.OrderLaws.{range_count_le, first_full, first_apart}

-- a range with bytes that does not come before another
abbrev later : Range → Range → Bool
later s r = not (is_empty r) && not (comes_first r s)

later_count : (b e : Bool) → choose b 0 (choose e 0 1) ≤ one (not e && not b)
later_count true e = omega arith
later_count false true = omega arith
later_count false false = omega arith

earlier_count : (b : Bool) (r : Range) → choose b (range_count r) 0 ≤ one b
earlier_count true r = range_count_le r
earlier_count false r = omega arith

module _ (ranges : ℕ → Range) (slots : ℕ) (apart : RangesApart ranges slots) (slot : ℕ → ℕ)
    (up : (i j : ℕ) → i < slots → j < slots → is_empty (ranges i) ≡ false → is_empty (ranges j) ≡ false
    → comes_first (ranges i) (ranges j) ≡ true → slot i < slot j)
    (low : (j : ℕ) → j < slots → is_empty (ranges j) ≡ false → slot j < ranges_count ranges slots)
  where
    abbrev first : ℕ → ℕ → Bool
    first i j = comes_first (ranges i) (ranges j)

    abbrev Full : ℕ → Type 0
    Full i = is_empty (ranges i) ≡ false

    -- no two ranges with bytes are placed alike
    differ : (i j : ℕ) → i < slots → j < slots → i ≢ j → Full i → Full j → slot i ≢ slot j
    differ i j hi hj ne fi fj e =
        ⊎_elim (λ b. omega (arith, up j i hj hi fj fi b))
        (λ rest. ⊎_elim (λ b. omega (arith, up i j hi hj fi fj b)) (λ q. true≢false (sym q.0 ∙ fi)) rest)
        (first_apart (ranges i) (ranges j) (apart i j hi hj ne))

    module _ (j : ℕ) (h : j < slots) (f : is_empty (ranges j) ≡ false) where
      -- those that come before it are placed below it
      full : (k : ℕ) → first k j ≡ true → Full k
      full k b = first_full (ranges k) (ranges j) b f

      at_least : new_slot ranges slots j ≤ slot j
      unfolding sum_before
      at_least =
          omega (
            arith,
            total_le (λ k. choose (first k j) (range_count (ranges k)) 0) (λ k. one (first k j)) slots
                (λ k l. earlier_count (first k j) (ranges k)),
            distinct_count (λ k. first k j) slot slots (slot j)
                (λ i k hi hk ne bi bk. differ i k hi hk ne (full i bi) (full k bk))
                (λ k hk b. up k j hk h (full k b) f b),
          )

      -- and the others not: one with bytes that does not come before it is itself, or comes after it
      from_here : (k : ℕ) → k < slots → later (ranges j) (ranges k) ≡ true → Full k × (slot j ≤ slot k)
      from_here k hk t = (has, elim (ℕ_discrete k j) [ yes e ↦ omega (arith, ap slot e) | no ne ↦ after ne ])
        where
          has : Full k
          has = not-true (is_empty (ranges k)) (and_left (not (is_empty (ranges k))) (not (first k j)) t)

          not_first : first k j ≡ false
          not_first = not-true (first k j) (and_right (not (is_empty (ranges k))) (not (first k j)) t)

          after : k ≢ j → slot j ≤ slot k
          after ne =
              ⊎_elim (λ b. omega (arith, up j k h hk f has b))
              (λ rest.
              ⊎_elim (λ b. absurd (true≢false (sym b ∙ not_first))) (λ q. absurd (true≢false (sym q.0 ∙ has))) rest)
              (first_apart (ranges k) (ranges j) (apart k j hk h ne))

      at_most : slot j ≤ new_slot ranges slots j
      unfolding sum_before
      at_most =
          omega (
            arith,
            low j h f,
            total_split (λ k. first k j) (λ k. range_count (ranges k)) slots,
            total_le (λ k. choose (first k j) 0 (range_count (ranges k))) (λ k. one (later (ranges j) (ranges k))) slots
                (λ k l. later_count (first k j) (is_empty (ranges k))),
            distinct_count (λ k. later (ranges j) (ranges k)) (λ k. slot k - slot j) slots
                (ranges_count ranges slots - slot j)
                (λ i k hi hk ne bi bk e.
                let p = from_here i hi bi in
                let q = from_here k hk bk in
                differ i k hi hk ne p.0 q.0 (omega arith))
                (λ k hk b. let p = from_here k hk b in omega (arith, low k hk p.0)),
          )

      pub new_slot_only : slot j ≡ new_slot ranges slots j
      new_slot_only = omega (arith, at_least, at_most)
