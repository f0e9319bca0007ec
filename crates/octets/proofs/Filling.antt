-- A string written in two pieces, itself and the zeros after it, the zeros through a part that is lent.
use mathlib.Core.Path.{◌≡◌, ap, ap₂, ◌∙◌}
use mathlib.Core.List.{List}
use Prim.Native.Nat.{ℕ, ◌+◌, ◌-◌, ◌≤◌}
use native.Mathlib.Omega.{arith}
use lib.ListN.{length, take, drop, replicate, length-replicate}
use borrow.Rule.Slice.PartMut.{put_mid}
use Rattle.octets.specs.Fill.{zero_filled}
use Rattle.octets.specs.FillLaws.{splice_filled}
use Rattle.octets.specs.Splice.{part, splice}
use Rattle.octets.specs.SpliceLaws.{part_length, put_splice, length_splice}

module _ (d : List ℕ) (at n : ℕ) (s : List ℕ) (fits : length s ≤ n) (room : at + n ≤ length d) where
  rest : at + n - (at + length s) ≡ n - length s
  rest = omega arith

  rest_length : (e : List ℕ) → e ≡ splice d at s
      → length (take (at + n - (at + length s)) (drop (at + length s) e)) ≡ n - length s
  unfolding part
  rest_length e q =
      let l : length e ≡ length d = ap length q ∙ length_splice d at s (omega arith) in
      ap (λ (k : ℕ). length (take k (drop (at + length s) e))) rest
      ∙ part_length e (at + length s) (n - length s) (omega arith)

  pub filled_written : (e z : List ℕ) → e ≡ splice d at s
      → z ≡ replicate (length (take (at + n - (at + length s)) (drop (at + length s) e))) 0
      → put_mid (at + length s) (at + n - (at + length s)) e z ≡ splice d at (zero_filled n s)
  filled_written e z q r =
      let w : z ≡ replicate (n - length s) 0 = r ∙ ap (λ (k : ℕ). replicate k 0) (rest_length e q) in
      let l : length z ≡ at + n - (at + length s) = ap length w ∙ length-replicate (n - length s) 0 ∙ omega arith in
      put_splice e (at + length s) (at + n - (at + length s)) z l
      ∙ ap₂ (λ (x y : List ℕ). splice x (at + length s) y) q w
      ∙ splice_filled d at n s fits room
