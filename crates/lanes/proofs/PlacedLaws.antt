-- Eight words at a time, written one after the other.
use mathlib.Core.Path.{◌≡◌, sym, ap, ap₂, ◌∙◌}
use mathlib.Core.List.{List}
use Prim.Native.Nat.{ℕ, ◌+◌, ◌*◌, ◌≤◌, ◌<◌}
use native.Mathlib.Omega.{arith}
use borrow.Author.Count.{below_more}
use lib.ListN.{length}
use Rattle.octets.specs.Splice.{part, splice}
use Rattle.octets.specs.SpliceLaws.{length_splice, part_before, part_written}
use Rattle.lanes.specs.Lanes.{lanes}

module _ (f : ℕ → List ℕ) where
  -- the first l of f's lists stand one after the other
  pub record Placed (l : ℕ) (words : List ℕ) : Type 0 where
    pub sized : length words ≡ lanes * 8
    pub placed : (q : ℕ) → q < l → part words (8 * q) 8 ≡ f q

  pub placed_next : (l : ℕ) (words eight new : List ℕ) → l < lanes → length (f l) ≡ 8 → Placed l words
      → eight ≡ f l → new ≡ splice words (8 * l) eight → Placed (l + 1) new
  placed_next l words eight new b k c e put =
      let n : length eight ≡ 8 = ap length e ∙ k in
      let room : 8 * l + length eight ≤ length words = omega (arith, c.sized) in
      record {
        sized = ap length put ∙ length_splice words (8 * l) eight room ∙ c.sized;
        placed =
            below_more (λ q. part new (8 * q) 8 ≡ f q) l
            (λ q h.
            ap (λ (w : List ℕ). part w (8 * q) 8) put
            ∙ part_before words (8 * l) eight room (8 * q) 8 (omega arith)
            ∙ c.placed q h)
            (ap₂ (λ (w : List ℕ) (k : ℕ). part w (8 * l) k) put (sym n)
            ∙ part_written words (8 * l) eight room
            ∙ e);
      }
