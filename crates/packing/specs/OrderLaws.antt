-- The order of collection: irreflexive, transitive, and total on ranges apart.
use Rattle.std.specs.Prelude.{◌≡◌, Bool, true, false, ◌&&◌, ◌↔◌, ◌⊎◌, ◌≤◌, ◌<◌, eqb, ltb}
use Rattle.std.proofs.Common.{ap₂, inl, inr, ⊎_elim, arith, ltb-true, lt-ltb, le-ltb, eqb-true, eq-eqb, ne_eqb}
use Rattle.std.proofs.Math.Decide.{dec_lt}
use Rattle.std.proofs.lemmas.Bool.{eqb-false}
use Rattle.rules.specs.Choice.{choose}
use Rattle.rules.specs.RefusalLaws.{and_left, and_right, not_passed}
use Rattle.room.specs.Room.{Range, range, is_empty}
use Rattle.packing.specs.Apart.{Beside}
use Rattle.packing.specs.Order.{comes_first, range_count}

-- a range without bytes, and one with bytes
pub empty_area : (r : Range) → is_empty r ≡ true → r.area ≡ 0
empty_area r e = eqb-true r.area 0 e

pub full_area : (r : Range) → is_empty r ≡ false → 0 < r.area
full_area r e = let ne = eqb-false r.area 0 e in omega arith

pub area_full : (r : Range) → 0 < r.area → is_empty r ≡ false
area_full r h = ne_eqb r.area 0 (λ z. omega arith)

pub empty_count : (r : Range) → is_empty r ≡ true → range_count r ≡ 0
empty_count r e = rw e

pub full_count : (r : Range) → is_empty r ≡ false → range_count r ≡ 1
full_count r e = rw e

pub counted_full : (r : Range) → range_count r ≡ 1 → is_empty r ≡ false
counted_full r e = not_passed (is_empty r) (λ z. omega (arith, empty_count r z))

pub range_count_le : (r : Range) → range_count r ≤ 1
range_count_le r = by_test (is_empty r)
  where
    by_test : (b : Bool) → choose b 0 1 ≤ 1
    by_test true = omega arith
    by_test false = omega arith

-- as facts on numbers
abbrev pub First : Range → Range → Type 0
First r s = (s.area < r.area) ⊎ ((r.area ≡ s.area) × (r.offset < s.offset))

pub first_true : (r s : Range) → (comes_first r s ≡ true) ↔ First r s
unfolding comes_first
first_true r s =
    let equal : Bool = eqb r.area s.area in
    let lower : Bool = ltb r.offset s.offset in (
      λ e.
          elim (dec_lt s.area r.area) [
            | yes l ↦ inl l
            | no k ↦
                let both : (equal && lower) ≡ true = rw (le-ltb s.area r.area (omega arith)) at e in
                inr (
                  eqb-true r.area s.area (and_left equal lower both),
                  ltb-true r.offset s.offset (and_right equal lower both),
                )
          ],
      λ f.
          ⊎_elim (λ l. rw (lt-ltb s.area r.area l))
          (λ q. rw (le-ltb s.area r.area (omega arith), eq-eqb r.area s.area q.0)
          (lt-ltb r.offset s.offset q.1))
          f,
    )

pub first_self : (r : Range) → comes_first r r ≡ false
first_self r = not_passed (comes_first r r) (λ e. ⊎_elim (λ l. omega arith) (λ q. omega arith) ((first_true r r).0 e))

pub first_trans : (r s t : Range) → comes_first r s ≡ true → comes_first s t ≡ true → comes_first r t ≡ true
first_trans r s t e f =
    (first_true r t).1
    (⊎_elim (λ l. ⊎_elim (λ m. inl (omega arith)) (λ q. inl (omega arith)) ((first_true s t).0 f))
    (λ p. ⊎_elim (λ m. inl (omega arith)) (λ q. inr (omega arith, omega arith)) ((first_true s t).0 f))
    ((first_true r s).0 e))

-- a range before another has no smaller area, and so has bytes where that one has
pub first_area : (r s : Range) → comes_first r s ≡ true → s.area ≤ r.area
first_area r s e = ⊎_elim (λ l. omega arith) (λ q. omega arith) ((first_true r s).0 e)

pub first_full : (r s : Range) → comes_first r s ≡ true → is_empty s ≡ false → is_empty r ≡ false
first_full r s e f = area_full r (omega (arith, first_area r s e, full_area s f))

-- of two ranges apart one comes before the other, or both are the same one without bytes
pub first_apart : (r s : Range) → Beside r.offset r.area s.offset s.area
    → (comes_first s r ≡ true) ⊎ ((comes_first r s ≡ true) ⊎ ((is_empty r ≡ true) × (r ≡ s)))
first_apart r s h =
    elim (dec_lt r.area s.area) [
      | yes l ↦ inl ((first_true s r).1 (inl l))
      | no k ↦
          elim (dec_lt s.area r.area) [
            | yes l ↦ inr (inl ((first_true r s).1 (inl l)))
            | no j ↦ by_offset (omega arith)
          ]
    ]
  where
    by_offset : r.area ≡ s.area
        → (comes_first s r ≡ true) ⊎ ((comes_first r s ≡ true) ⊎ ((is_empty r ≡ true) × (r ≡ s)))
    by_offset e =
        elim (dec_lt s.offset r.offset) [
          | yes l ↦ inl ((first_true s r).1 (inr (omega arith, l)))
          | no k ↦
              elim (dec_lt r.offset s.offset) [
                | yes l ↦ inr (inl ((first_true r s).1 (inr (e, l))))
                | no j ↦ inr (inr (
                  eq-eqb r.area 0 (⊎_elim (λ a. omega arith) (λ b. omega arith) h),
                  ap₂ range (omega arith) e,
                ))
              ]
        ]
