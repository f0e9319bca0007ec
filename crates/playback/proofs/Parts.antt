-- A string written part by part.
use mathlib.Core.Path.{◌≡◌, ap, ◌∙◌}
use Prim.Native.Nat.{ℕ, ◌+◌, ◌≤◌}
use native.Mathlib.Omega.{arith}
use mathlib.Core.List.{List, ◌++◌}
use lib.ListN.{length, length-append}
use Rattle.octets.specs.Splice.{splice}
use Rattle.octets.specs.SpliceLaws.{length_splice, splice_append}

-- n bytes of d from a place on are written, and w is what that left
pub record Written (d : List ℕ) (at n : ℕ) (s w : List ℕ) : Type 0 where
  pub sized : length s ≡ n
  pub is : w ≡ splice d at s

module _ (d : List ℕ) (at n : ℕ) (s w : List ℕ) (h : at + n ≤ length d) (p : Written d at n s w) where
  -- the string keeps its length
  pub written_length : length w ≡ length d
  written_length = ap length p.is ∙ length_splice d at s (omega (arith, p.sized))

  -- the next part, behind them
  pub written_next : (place m : ℕ) (t v : List ℕ) → place ≡ at + n → length t ≡ m → v ≡ splice w place t
      → Written d at (n + m) (s ++ t) v
  written_next place m t v e l f =
      let z : length s ≡ n = p.sized in
      record {
        sized = length-append s t ∙ omega arith;
        is =
            f
            ∙ ap (λ (x : List ℕ). splice x place t) p.is
            ∙ splice_append d at place s t (omega arith) (omega arith);
      }
