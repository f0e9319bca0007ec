-- What is summed over the ranges before each lays them out side by side, for any measure of a range: the share of range
-- i is its measure, from the sum of those before it on.
use Rattle.std.specs.Prelude.{◌≡◌, false, ◌&&◌, ℕ, ◌+◌, ◌≤◌, ◌<◌}
use Rattle.std.proofs.Math.Path.{refl, ap}
use Rattle.std.proofs.Common.{sym, ◌∙◌, inl, inr, ⊎_elim, arith}
use Rattle.std.proofs.Math.Bool.{Bool, true, true≢false}
use Rattle.std.proofs.Math.Dec.{leb, ltb}
use borrow.Author.Tests.{leb-true, le-leb, ltb-true, lt-ltb}
use Rattle.rules.specs.Choice.{choose}
use Rattle.rules.specs.RefusalLaws.{and_left, and_right, and_both}
use Rattle.std.specs.Prelude.{Option}
use Rattle.std.specs.Prelude.{Some, None}
use Rattle.rules.specs.Search.{lowest}
use Rattle.rules.specs.SearchLaws.{lowest_found, lowest_missing}
use Rattle.room.specs.Room.{Range, SameBelow, is_empty}
use Rattle.packing.specs.Total.{total}
use Rattle.packing.specs.TotalLaws.{total_more, total_cong}
use Rattle.packing.specs.Apart.{Apart, RangesApart}
use Rattle.packing.specs.ApartLaws.{gap_total}
use Rattle.packing.specs.Order.{comes_first, sum_before}
use Rattle.packing.specs.OrderLaws.{first_self, first_trans, first_apart}

chosen_le : (b c : Bool) (m : ℕ) → (b ≡ true → c ≡ true) → choose b m 0 ≤ choose c m 0
chosen_le true c m h = rw (h refl) (omega arith)
chosen_le false c m h = omega arith

chosen_more : (b c : Bool) (m : ℕ) → b ≡ false → c ≡ true → choose b m 0 + m ≤ choose c m 0
chosen_more b c m e f = rw (e, f) (omega arith)

module _ (measure : Range → ℕ) (ranges : ℕ → Range) (slots : ℕ) where
  abbrev sum : ℕ → ℕ
  sum j = sum_before measure ranges slots j

  abbrev share : ℕ → ℕ
  share i = measure (ranges i)

  abbrev first : ℕ → ℕ → Bool
  first i j = comes_first (ranges i) (ranges j)

  -- a share ends by the start of that of a range that it comes before
  pub sum_next : (i j : ℕ) → i < slots → comes_first (ranges i) (ranges j) ≡ true
      → sum_before measure ranges slots i + measure (ranges i) ≤ sum_before measure ranges slots j
  unfolding sum_before
  sum_next i j h e =
      total_more (λ k. choose (first k i) (share k) 0) (λ k. choose (first k j) (share k) 0) slots i (share i)
      (λ k l. chosen_le (first k i) (first k j) (share k) (λ b. first_trans (ranges k) (ranges i) (ranges j) b e))
      h (chosen_more (first i i) (first i j) (share i) (first_self (ranges i)) e)

  -- and every share ends by the sum of all
  pub sum_ends : (i : ℕ) → i < slots
      → sum_before measure ranges slots i + measure (ranges i) ≤ total (λ k. measure (ranges k)) slots
  unfolding sum_before
  sum_ends i h =
      total_more (λ k. choose (first k i) (share k) 0) share slots i (share i)
      (λ k l. chosen_le (first k i) true (share k) (λ b. refl))
      h (chosen_more (first i i) true (share i) (first_self (ranges i)) refl)

  -- where it starts depends on the range alone
  sum_range : (i j : ℕ) → ranges i ≡ ranges j → sum i ≡ sum j
  unfolding sum_before
  sum_range i j e = ap (λ (r : Range). total (λ k. choose (comes_first (ranges k) r) (share k) 0) slots) e

  -- so no two shares meet, where no two ranges do and one without bytes has none
  module _ (none : (r : Range) → is_empty r ≡ true → measure r ≡ 0) (apart : RangesApart ranges slots) where
    pub sum_apart : Apart (sum_before measure ranges slots) (λ i. measure (ranges i)) slots
    sum_apart i j hi hj ne =
        ⊎_elim (λ e. inl (sum_next j i hj e))
        (λ rest.
        ⊎_elim (λ e. inr (sum_next i j hi e))
        (λ f. inr (omega (arith, sum_range i j f.1, none (ranges i) f.0))) rest)
        (first_apart (ranges i) (ranges j) (apart i j hi hj ne))

    -- and there is no gap: every number below the sum of all is in one
    holds : ℕ → ℕ → Bool
    holds x j = leb (sum j) x && ltb x (sum j + share j)

    pub sum_taken : (x : ℕ) → x < total (λ k. measure (ranges k)) slots
        → (j : ℕ) × (j < slots) × (sum_before measure ranges slots j ≤ x)
        × (x < sum_before measure ranges slots j + measure (ranges j))
    unfolding holds
    sum_taken x h = by_search (lowest (holds x) 0 slots) refl
      where
        by_search : (f : Option ℕ) → lowest (holds x) 0 slots ≡ f
            → (j : ℕ) × (j < slots) × (sum j ≤ x) × (x < sum j + share j)
        by_search (Some j) e =
            let l = lowest_found (holds x) 0 slots j e in
            let from : Bool = leb (sum j) x in
            let below : Bool = ltb x (sum j + share j) in (
              j,
              omega (arith, l.below),
              leb-true (sum j) x (and_left from below l.passes),
              ltb-true x (sum j + share j) (and_right from below l.passes),
            )
        by_search None e =
            absurd (omega (arith, gap_total sum share slots sum_apart x out (total share slots) h sum_ends))
          where
            out : (k : ℕ) → k < slots → (sum k ≤ x) × (x < sum k + share k) → ⊥
            out k b p =
                let t : holds x k ≡ true =
                and_both (leb (sum k) x) (ltb x (sum k + share k)) (le-leb (sum k) x p.0)
                (lt-ltb x (sum k + share k) p.1) in
                true≢false (sym t ∙ lowest_missing (holds x) 0 slots e k (omega arith) (omega arith))

-- the same ranges have the same sums
module _ (measure : Range → ℕ) (slots : ℕ) (r s : ℕ → Range) (same : SameBelow slots r s) where
  pub sum_same : (j : ℕ) → j < slots → sum_before measure r slots j ≡ sum_before measure s slots j
  unfolding sum_before
  sum_same j h =
      total_cong (λ i. choose (comes_first (r i) (r j)) (measure (r i)) 0)
      (λ i. choose (comes_first (s i) (s j)) (measure (s i)) 0) slots
      (λ i l.
      ap (λ (x : Range). choose (comes_first x (r j)) (measure x) 0) (same i l)
      ∙ ap (λ (y : Range). choose (comes_first (s i) y) (measure (s i)) 0) (same j h))

  pub total_same : total (λ i. measure (r i)) slots ≡ total (λ i. measure (s i)) slots
  total_same = total_cong (λ i. measure (r i)) (λ i. measure (s i)) slots (λ i l. ap measure (same i l))
