-- What a filled string holds: the string's own bytes, and zeros after them.
use Rattle.std.specs.Prelude.{◌≡◌, Bool, ◌&&◌, take, drop, get_or}
use Rattle.std.proofs.Math.Path.{refl, sym, ap}
use Rattle.std.proofs.Common.{ap₂, ◌∙◌, zero-add, length-drop, ext_get_or, take_all}
use mathlib.Core.List.{List, [], ◌∷◌, ◌++◌}
use Prim.Native.Nat.{ℕ, zero, suc, ◌+◌, ◌-◌, ◌≤◌}
use native.Mathlib.Omega.{arith}
use Rattle.std.proofs.Math.ListN.{length, replicate, length-append, get_or-eq_default}
use Rattle.std.proofs.lemmas.List.{length-replicate, drop-append-le}
use Rattle.octets.specs.Bytes.{Bytes, bytes_append}
use Rattle.octets.specs.Equality.{same_bytes, all_zero}
use Rattle.octets.specs.EqualityLaws.{same_append, zero_same}
use Rattle.octets.specs.Fill.{zero_filled}
use Rattle.octets.specs.Splice.{part, splice}
use Rattle.octets.specs.SpliceLaws.{part_length, get_d_part, same_part, part_whole, part_append, splice_append}

-- zeros
pub zeros_at : (n i : ℕ) → ◌≡◌ {A = ℕ} (get_or (replicate n 0) i 0) 0
zeros_at zero i = refl
zeros_at (suc n) zero = refl
zeros_at (suc n) (suc i) = zeros_at n i

zeros_drop : (n k : ℕ) → drop {A = ℕ} k (replicate n 0) ≡ replicate (n - k) 0
zeros_drop n zero = let e : n ≡ n - 0 = omega arith in ap (λ (m : ℕ). replicate m 0) e
zeros_drop zero (suc k) = let e : 0 ≡ 0 - suc k = omega arith in ap (λ (m : ℕ). replicate m 0) e
zeros_drop (suc n) (suc k) =
    let e : n - k ≡ suc n - suc k = omega arith in zeros_drop n k ∙ ap (λ (m : ℕ). replicate m 0) e

bytes_zeros : (n : ℕ) → Bytes (replicate n 0)
bytes_zeros zero = tt
bytes_zeros (suc n) = (omega arith, bytes_zeros n)

-- a filled string, at each index: past the end of a string `get_or` gives 0 too
append_zeros : (xs : List ℕ) (n i : ℕ) → get_or (xs ++ replicate n 0) i 0 ≡ get_or xs i 0
append_zeros [] n i = zeros_at n i
append_zeros (x ∷ xs) n zero = refl
append_zeros (x ∷ xs) n (suc i) = append_zeros xs n i

module _ (n : ℕ) (xs : List ℕ) where
  pub filled_at : (i : ℕ) → get_or (zero_filled n xs) i 0 ≡ get_or xs i 0
  unfolding zero_filled
  filled_at i = append_zeros xs (n - length xs) i

  filled_sum : length (zero_filled n xs) ≡ length xs + (n - length xs)
  unfolding zero_filled
  filled_sum =
      length-append xs (replicate (n - length xs) 0)
      ∙ ap (λ (k : ℕ). length xs + k) (length-replicate (n - length xs) 0)

  pub filled_length : length xs ≤ n → length (zero_filled n xs) ≡ n
  filled_length h = let e = filled_sum in omega arith

  pub filled_reaches : n ≤ length (zero_filled n xs)
  filled_reaches = let e = filled_sum in omega arith

  pub bytes_filled : Bytes xs → Bytes (zero_filled n xs)
  unfolding zero_filled
  bytes_filled b = bytes_append xs (replicate (n - length xs) 0) b (bytes_zeros (n - length xs))

  -- a part within the string
  pub filled_inside : (at m : ℕ) → at + m ≤ length xs → part (zero_filled n xs) at m ≡ part xs at m
  filled_inside at m h =
      let e = filled_sum in same_part (zero_filled n xs) xs at at m (omega arith) h (λ i l. filled_at (at + i))

  -- the string itself
  pub filled_head : part (zero_filled n xs) 0 (length xs) ≡ xs
  filled_head = filled_inside 0 (length xs) (omega arith) ∙ part_whole xs

-- a part does not depend on how far beyond its end the string is filled
pub filled_same : (n k : ℕ) (xs : List ℕ) (at m : ℕ) → at + m ≤ n → at + m ≤ k
    → part (zero_filled n xs) at m ≡ part (zero_filled k xs) at m
filled_same n k xs at m h l =
    let a = filled_reaches n xs in
    let b = filled_reaches k xs in
    same_part (zero_filled n xs) (zero_filled k xs) at at m (omega arith) (omega arith)
    (λ i j. filled_at n xs (at + i) ∙ sym (filled_at k xs (at + i)))

-- two strings of one length that are the same when filled
pub filled_only : (n k : ℕ) (xs ys : List ℕ) → length xs ≡ length ys → zero_filled n xs ≡ zero_filled k ys → xs ≡ ys
filled_only n k xs ys l e = sym (filled_head n xs) ∙ ap₂ (λ (s : List ℕ) (m : ℕ). part s 0 m) e l ∙ filled_head k ys

-- a string over zeros is the string filled
pub splice_zeros : (n : ℕ) (xs : List ℕ) → splice (replicate n 0) 0 xs ≡ zero_filled n xs
unfolding splice zero_filled
splice_zeros n xs =
    ap (λ (m : ℕ). xs ++ drop {A = ℕ} m (replicate n 0)) (zero-add (length xs))
    ∙ ap (λ (s : List ℕ). xs ++ s) (zeros_drop n (length xs))

-- the n bytes from a place on, where the string ends among them
pub filled_end : (d : List ℕ) (at n : ℕ) → at ≤ length d → length d ≤ at + n
    → part (zero_filled (at + n) d) at n ≡ zero_filled n (drop at d)
unfolding part zero_filled
filled_end d at n h k =
    ap (take n) (drop-append-le at d (replicate (at + n - length d) 0) h)
    ∙ ap (λ (m : ℕ). take n (drop at d ++ replicate m 0)) rest
    ∙ take_all n (drop at d ++ replicate (n - length (drop at d)) 0)
    (omega (arith, length-drop at d, filled_sum n (drop at d)))
  where
    rest : at + n - length d ≡ n - length (drop at d)
    rest = omega (arith, length-drop at d)

-- written in two pieces, and compared in two pieces
module _ (d : List ℕ) (at n : ℕ) (s : List ℕ) (fits : length s ≤ n) (room : at + n ≤ length d) where
  pub splice_filled : splice (splice d at s) (at + length s) (replicate (n - length s) 0) ≡ splice d at (zero_filled n s)
  unfolding zero_filled
  splice_filled = splice_append d at (at + length s) s (replicate (n - length s) 0) (omega arith) refl

  pub same_filled : (same_bytes (part d at (length s)) s && all_zero (part d (at + length s) (n - length s)))
      ≡ same_bytes (part d at n) (zero_filled n s)
  unfolding zero_filled
  same_filled =
      let rest : List ℕ = part d (at + length s) (n - length s) in
      let l : length rest ≡ n - length s = part_length d (at + length s) (n - length s) (omega arith) in
      let m : length s + (n - length s) ≡ n = omega arith in
      ap (λ (b : Bool). same_bytes (part d at (length s)) s && b)
      (zero_same rest ∙ ap (λ (k : ℕ). same_bytes rest (replicate k 0)) l)
      ∙ sym
      (same_append (part d at (length s)) rest s (replicate (n - length s) 0)
      (part_length d at (length s) (omega arith)))
      ∙ ap (λ (v : List ℕ). same_bytes v (s ++ replicate (n - length s) 0))
      (part_append d at (length s) (n - length s) ∙ ap (part d at) m)

-- a part after the string is zeros
pub filled_after : (n : ℕ) (xs : List ℕ) (at m : ℕ) → length xs ≤ at → at + m ≤ n
    → part (zero_filled n xs) at m ≡ replicate m 0
filled_after n xs at m h k =
    let r = filled_reaches n xs in
    let l : length (part (zero_filled n xs) at m) ≡ m = part_length (zero_filled n xs) at m (omega arith) in
    ext_get_or 0 (part (zero_filled n xs) at m) (replicate m 0) (l ∙ sym (length-replicate m 0))
    (λ i g. get_d_part (zero_filled n xs) at m i (omega arith) ∙ filled_at n xs (at + i)
    ∙ get_or-eq_default xs 0 (omega arith) ∙ sym (zeros_at m i))
