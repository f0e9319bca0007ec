-- A sum over the slots is the same after they moved: of any number that a slot has, 0 where it is free.
use Rattle.std.specs.Prelude.{◌≡◌, refl, Bool, true, false, ◌≢◌, ℕ, ◌≤◌, ◌<◌, eqb}
use Rattle.std.proofs.Common.{sym, ap, ◌∙◌, true≢false, arith, eqb-true, eq-eqb}
use Rattle.std.proofs.Math.Decide.{dec_lt}
use Rattle.rules.specs.Choice.{choose}
use Rattle.room.specs.Room.{Range, is_empty}
use Rattle.packing.specs.Total.{total}
use Rattle.packing.specs.TotalLaws.{total_cong, total_zero}
use Rattle.packing.specs.TotalSwap.{total_swap, total_only}
use Rattle.packing.specs.Apart.{RangesApart}
use Rattle.packing.specs.Order.{new_slot, ranges_count}
use Rattle.packing.specs.PackingLaws.{new_slot_in, count_le, new_slots_differ, new_slot_taken}

module _ (ranges : ℕ → Range) (slots : ℕ) (apart : RangesApart ranges slots) (old new : ℕ → ℕ)
    (none : (j : ℕ) → j < slots → is_empty (ranges j) ≡ true → old j ≡ 0)
    (moved : (j : ℕ) → j < slots → is_empty (ranges j) ≡ false → new (new_slot ranges slots j) ≡ old j)
    (rest : (x : ℕ) → ranges_count ranges slots ≤ x → x < slots → new x ≡ 0)
  where
    -- what slot j brings to the new slot x
    abbrev brings : ℕ → ℕ → ℕ
    brings x j = choose (eqb (new_slot ranges slots j) x) (old j) 0

    brings_none : (x j : ℕ) → j < slots → (is_empty (ranges j) ≡ false → new_slot ranges slots j ≢ x) → brings x j ≡ 0
    brings_none x j h ne = by_tests (eqb (new_slot ranges slots j) x) (is_empty (ranges j)) refl refl
      where
        by_tests : (b e : Bool) → eqb (new_slot ranges slots j) x ≡ b → is_empty (ranges j) ≡ e → choose b (old j) 0 ≡ 0
        by_tests false e p q = refl
        by_tests true true p q = none j h q
        by_tests true false p q = absurd (ne q (eqb-true (new_slot ranges slots j) x p))

    brings_all : (x j : ℕ) → new_slot ranges slots j ≡ x → brings x j ≡ old j
    brings_all x j e = rw (eq-eqb (new_slot ranges slots j) x e)

    -- slot j brings what it has to one new slot
    given_once : (j : ℕ) → j < slots → total (λ x. brings x j) slots ≡ old j
    given_once j h = by_test (is_empty (ranges j)) refl
      where
        by_test : (b : Bool) → is_empty (ranges j) ≡ b → total (λ x. brings x j) slots ≡ old j
        by_test true e =
            total_zero (λ x. brings x j) slots (λ x l. brings_none x j h (λ f. absurd (true≢false (sym e ∙ f))))
            ∙ sym (none j h e)
        by_test false f =
            total_only (λ x. brings x j) slots (new_slot ranges slots j)
            (omega (arith, new_slot_in ranges slots j h f, count_le ranges slots))
            (λ x l ne. brings_none x j h (λ g q. ne (sym q)))
            ∙ brings_all (new_slot ranges slots j) j refl

    -- and a new slot gets what it has from one
    taken_once : (x : ℕ) → x < slots → new x ≡ total (brings x) slots
    taken_once x h =
        elim (dec_lt x (ranges_count ranges slots)) [ yes l ↦ from l | no m ↦ free (omega arith) ]
      where
        from : x < ranges_count ranges slots → new x ≡ total (brings x) slots
        from l =
            let t = new_slot_taken ranges slots apart x l in
            let j = t.0 in
            ap new (sym t.3)
            ∙ moved j t.1 t.2
            ∙ sym (brings_all x j t.3)
            ∙ sym
            (total_only (brings x) slots j t.1
            (λ k b ne.
            brings_none x k b
            (λ f q. new_slots_differ ranges slots apart k j b t.1 ne f t.2 (q ∙ sym t.3))))

        free : ranges_count ranges slots ≤ x → new x ≡ total (brings x) slots
        free l =
            rest x l h
            ∙ sym
            (total_zero (brings x) slots
            (λ k b. brings_none x k b (λ f q. omega (arith, new_slot_in ranges slots k b f))))

    pub moved_total : total new slots ≡ total old slots
    moved_total =
        total_cong new (λ x. total (brings x) slots) slots taken_once
        ∙ total_swap brings slots slots
        ∙ total_cong (λ j. total (λ x. brings x j) slots) old slots given_once
