-- One range among others: of ranges that are apart it is that of one slot alone. A number that ranges have, but for one
-- range, which has 0: every other one has its number.
use Rattle.std.specs.Prelude.{◌≡◌, refl, Bool, true, false, ◌&&◌, ◌≢◌, ℕ, ◌<◌, eqb}
use Rattle.std.proofs.Common.{ap, ⊎_elim, arith, eqb-true, eq-eqb}
use Rattle.rules.specs.Choice.{choose}
use Rattle.rules.specs.RefusalLaws.{and_left, and_right, and_both, not_passed}
use Rattle.room.specs.Room.{Range}
use Rattle.packing.specs.Apart.{RangesApart}

abbrev pub same_range : Range → Range → Bool
same_range r s = eqb r.offset s.offset && eqb r.area s.area

abbrev pub without_range : Range → (Range → ℕ) → Range → ℕ
without_range gone number r = choose (same_range r gone) 0 (number r)

-- a range is its own, and of ranges that are apart none is that of slot k, which has bytes, but that one
pub range_is : (r : Range) → same_range r r ≡ true
range_is r =
    and_both (eqb r.offset r.offset) (eqb r.area r.area) (eq-eqb r.offset r.offset refl)
    (eq-eqb r.area r.area refl)

pub range_differs : (ranges : ℕ → Range) (slots k : ℕ) → RangesApart ranges slots → k < slots → 0 < (ranges k).area
    → (j : ℕ) → j < slots → j ≢ k → same_range (ranges j) (ranges k) ≡ false
range_differs ranges slots k apart hk some j hj ne = not_passed (same_range (ranges j) (ranges k)) not_same
  where
    not_same : same_range (ranges j) (ranges k) ≡ true → ⊥
    not_same e =
        let at = eqb (ranges j).offset (ranges k).offset in
        let long = eqb (ranges j).area (ranges k).area in
        let o = eqb-true (ranges j).offset (ranges k).offset (and_left at long e) in
        let n = eqb-true (ranges j).area (ranges k).area (and_right at long e) in
        ⊎_elim (λ before. omega arith) (λ later. omega arith) (apart j k hj hk ne)

module _ (number : Range → ℕ) where
  -- the range itself, and those without bytes where they have 0 anyway
  pub without_gone : (gone : Range) → without_range gone number gone ≡ 0
  without_gone gone = ap (λ (b : Bool). choose b 0 (number gone)) (range_is gone)

  pub without_none : (gone r : Range) → number r ≡ 0 → without_range gone number r ≡ 0
  without_none gone r z = by_test (same_range r gone)
    where
      by_test : (b : Bool) → choose b 0 (number r) ≡ 0
      by_test true = refl
      by_test false = z

  -- and the range of another slot
  pub without_other : (ranges : ℕ → Range) (slots k : ℕ) → RangesApart ranges slots → k < slots
      → 0 < (ranges k).area → (j : ℕ) → j < slots → j ≢ k
      → without_range (ranges k) number (ranges j) ≡ number (ranges j)
  without_other ranges slots k apart hk some j hj ne =
      ap (λ (b : Bool). choose b 0 (number (ranges j))) (range_differs ranges slots k apart hk some j hj ne)
