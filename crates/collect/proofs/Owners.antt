-- The byte of the table that a slot brings, as the gathered ranges tell it.
use mathlib.Core.Path.{◌≡◌, refl, sym, ap, ◌∙◌}
use mathlib.Core.Bool.{true}
use mathlib.Core.Logic.{◌≢◌}
use mathlib.Core.List.{List, [], ◌∷◌, ◌++◌}
use Prim.Native.Nat.{ℕ, zero, suc, ◌+◌, ◌<◌}
use native.Mathlib.Omega.{arith}
use lib.ListN.{length, take, drop, set}
use borrow.Author.Tests.{eq-eqb, ne_eqb}
use Rattle.octets.specs.Splice.{splice}
use Rattle.octets.specs.SpliceLaws.{splice_nothing}
use Rattle.index.specs.Slots.{slot_at, standing, row_at, row_area}
use Rattle.room.specs.Room.{Range, ranges_in}
use Rattle.ranges.specs.RangesLaws.{empty_free}
use Rattle.collect.specs.Collect.{slot_to, owner_to}
use Rattle.collect.specs.Ready.{Ready}
use Rattle.collect.proofs.MovesLaws.{sized, full_stands}
use Rattle.collect.proofs.OwnersLaws.{none_brought}
use Rattle.collect.proofs.Gathered.{collectable, area_at_lem}

-- a string with one byte written
pub one_written : (xs : List ℕ) (i x : ℕ) → i < length xs → set xs i x ≡ splice xs i (x ∷ [])
unfolding splice
one_written [] i x h = absurd (omega arith)
one_written (y ∷ xs) zero x h = refl
one_written (y ∷ xs) (suc i) x h =
    let next : suc (i + 1) ≡ suc i + 1 = omega arith in
    ap (λ (l : List ℕ). y ∷ l) (one_written xs i x (omega arith))
    ∙ ap (λ (n : ℕ). y ∷ (take i xs ++ (x ∷ []) ++ drop n (y ∷ xs))) next

module _ {deal : List ℕ} {ranges : List Range} (r : Ready deal ranges) (j : ℕ) (h : j < length ranges) where
  -- a slot without bytes brings none
  pub nothing_written : (ranges_in ranges j).area ≡ 0 → (table new : List ℕ)
      → new ≡ splice new (slot_to deal j) (owner_to deal table j)
  nothing_written e table new =
      let empty = eq-eqb (row_area (row_at deal j)) 0 (sym (area_at_lem r j h) ∙ e) in
      let free = empty_free (length deal) (slot_at deal j) (sized (collectable r)) empty in
      sym (ap (splice new (slot_to deal j)) (none_brought deal table j free) ∙ splice_nothing new (slot_to deal j))

  -- in any other an entry stands
  pub entry_stands : (ranges_in ranges j).area ≢ 0 → standing (length deal) (slot_at deal j) ≡ true
  entry_stands ne =
      full_stands deal (sized (collectable r)) j
      (ne_eqb (row_area (row_at deal j)) 0 (λ e. ne (area_at_lem r j h ∙ e)))
