-- Bits of little-endian numbers. Eight of them from any bit on lie in two bytes.
use Rattle.std.specs.Prelude.{◌≡◌, ℕ, zero, suc, ◌+◌, ◌-◌, ◌*◌, ◌/◌, ◌%◌, ◌^◌, ◌<◌, ◌≤◌, List, [], ◌∷◌, ◌++◌, length}
use Rattle.std.specs.Prelude.{take, drop, slice_index, refl}
use Rattle.std.proofs.Common.{sym, ap, ap₂, ◌∙◌, pow-suc, add-zero, mul_assoc, mul_comm, div-one, arith, get_or-drop}
use Rattle.std.proofs.Common.{pow_pos, pow-add, shr-shr}
use Rattle.std.proofs.Math.Nat.{zero-div, mod-add-div, add-mul-div_left, add-mul-mod_self_left}
use Rattle.octets.specs.Bytes.{Bytes}
use Rattle.octets.specs.LittleEndian.{number_of, bytes_of}

pub power_of_bytes : (n : ℕ) → 2 ^ (8 * n) ≡ 256 ^ n
power_of_bytes zero = refl
power_of_bytes (suc n) =
    let e : 8 * suc n ≡ 8 * n + 8 = omega arith in
    ap (λ (k : ℕ). 2 ^ k) e ∙ pow-add 2 (8 * n) 8 ∙ ap (λ (x : ℕ). x * 256) (power_of_bytes n) ∙ sym (pow-suc 256 n)

-- n bits from bit s on do not depend on what stands from bit w on
pub low_bits_below : (x k w s n : ℕ) → s + n ≤ w → (x + 2 ^ w * k) / 2 ^ s % 2 ^ n ≡ x / 2 ^ s % 2 ^ n
low_bits_below x k w s n h =
    let r = w - (s + n) in
    let e : w ≡ s + (n + r) = omega arith in
    let p : 2 ^ w ≡ 2 ^ s * (2 ^ n * 2 ^ r) =
    ap (λ (i : ℕ). 2 ^ i) e ∙ pow-add 2 s (n + r) ∙ ap (λ (y : ℕ). 2 ^ s * y) (pow-add 2 n r) in
    ap (λ (y : ℕ). (x + y * k) / 2 ^ s % 2 ^ n) p
    ∙ ap (λ (y : ℕ). (x + y) / 2 ^ s % 2 ^ n) (mul_assoc (2 ^ s) (2 ^ n * 2 ^ r) k)
    ∙ ap (λ (y : ℕ). y % 2 ^ n) (add-mul-div_left x (2 ^ n * 2 ^ r * k) (pow_pos s))
    ∙ ap (λ (y : ℕ). (x / 2 ^ s + y) % 2 ^ n) (mul_assoc (2 ^ n) (2 ^ r) k)
    ∙ add-mul-mod_self_left (x / 2 ^ s) (2 ^ n) (2 ^ r * k)

pub low_bits_kept : (v w s n : ℕ) → s + n ≤ w → v % 2 ^ w / 2 ^ s % 2 ^ n ≡ v / 2 ^ s % 2 ^ n
low_bits_kept v w s n h =
    sym (low_bits_below (v % 2 ^ w) (v / 2 ^ w) w s n h) ∙ ap (λ (y : ℕ). y / 2 ^ s % 2 ^ n) (mod-add-div v (2 ^ w))

-- the same of eight bits
pub bits_below : (x k w s : ℕ) → s + 8 ≤ w → (x + 2 ^ w * k) / 2 ^ s % 256 ≡ x / 2 ^ s % 256
bits_below x k w s h = low_bits_below x k w s 8 h

pub bits_kept : (v w s : ℕ) → s + 8 ≤ w → v % 2 ^ w / 2 ^ s % 256 ≡ v / 2 ^ s % 256
bits_kept v w s h = low_bits_kept v w s 8 h

-- the bytes of a number
pub take_bytes_of : (k n v : ℕ) → k ≤ n → take k (bytes_of n v) ≡ bytes_of k v
unfolding bytes_of
take_bytes_of zero n v h = refl
take_bytes_of (suc k) zero v h = absurd (omega arith)
take_bytes_of (suc k) (suc n) v h = ap (λ (l : List ℕ). v % 256 ∷ l) (take_bytes_of k n (v / 256) (omega arith))

pub byte_of_number : (n v k : ℕ) → k < n → slice_index (bytes_of n v) k ≡ v / 2 ^ (8 * k) % 256
unfolding bytes_of
byte_of_number zero v k h = absurd (omega arith)
byte_of_number (suc n) v zero h = ap (λ (y : ℕ). y % 256) (sym (div-one v))
byte_of_number (suc n) v (suc k) h =
    let e : 8 + 8 * k ≡ 8 * suc k = omega arith in
    byte_of_number n (v / 256) k (omega arith)
    ∙ ap (λ (y : ℕ). y % 256) (shr-shr v 8 (8 * k))
    ∙ ap (λ (i : ℕ). v / 2 ^ i % 256) e

-- the number of bytes one after the other
pub number_append : (xs ys : List ℕ) → number_of (xs ++ ys) ≡ number_of xs + 256 ^ length xs * number_of ys
unfolding number_of
number_append [] ys = omega arith
number_append (x ∷ xs) ys =
    let p = 256 ^ length xs in
    let e : 256 ^ suc (length xs) * number_of ys ≡ 256 * (p * number_of ys) =
    ap (λ (q : ℕ). q * number_of ys) (pow-suc 256 (length xs) ∙ mul_comm p 256) ∙ mul_assoc 256 p (number_of ys) in
    let i = number_append xs ys in
    omega arith

-- the number from byte a on
pub number_from : (xs : List ℕ) (a : ℕ) → Bytes xs → number_of xs / 2 ^ (8 * a) ≡ number_of (drop a xs)
unfolding number_of
number_from xs zero h = div-one (number_of xs)
number_from [] (suc a) h = zero-div (2 ^ (8 * suc a))
number_from (x ∷ xs) (suc a) h =
    let b : x < 256 = h.0 in
    let d : (x + 256 * number_of xs) / 256 ≡ number_of xs = omega arith in
    let e : 8 * suc a ≡ 8 + 8 * a = omega arith in
    ap (λ (i : ℕ). (x + 256 * number_of xs) / 2 ^ i) e
    ∙ sym (shr-shr (x + 256 * number_of xs) 8 (8 * a))
    ∙ ap (λ (y : ℕ). y / 2 ^ (8 * a)) d
    ∙ number_from xs a h.1

-- its two least bytes
two_bytes : (xs : List ℕ) → number_of xs ≡ slice_index xs 0 + 256 * slice_index xs 1 + 2 ^ 16 * number_of (drop 2 xs)
unfolding number_of
two_bytes [] = refl
two_bytes (x ∷ []) = omega arith
two_bytes (x ∷ y ∷ xs) = omega arith

pub eight_bits : (xs : List ℕ) (a s : ℕ) → Bytes xs → s ≤ 8
    → number_of xs / 2 ^ (8 * a + s) % 256 ≡ (slice_index xs a + 256 * slice_index xs (a + 1)) / 2 ^ s % 256
eight_bits xs a s h k =
    ap (λ (y : ℕ). y % 256) (sym (shr-shr (number_of xs) (8 * a) s))
    ∙ ap (λ (y : ℕ). y / 2 ^ s % 256) (number_from xs a h ∙ two_bytes (drop a xs))
    ∙ bits_below (slice_index (drop a xs) 0 + 256 * slice_index (drop a xs) 1) (number_of (drop 2 (drop a xs))) 16 s
    (omega arith)
    ∙ ap₂ (λ (y z : ℕ). (y + 256 * z) / 2 ^ s % 256) (first a xs) (get_or-drop a xs 1 0)
  where
    first : (i : ℕ) (l : List ℕ) → slice_index (drop i l) 0 ≡ slice_index l i
    first i l = get_or-drop i l 0 0 ∙ ap (λ (j : ℕ). slice_index l j) (add-zero i)
