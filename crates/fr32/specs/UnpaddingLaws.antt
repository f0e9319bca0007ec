-- Laws of the data in a segment: each raw byte from two bytes of it.
use Rattle.std.specs.Prelude.{◌≡◌, ℕ, zero, suc, ◌+◌, ◌-◌, ◌*◌, ◌/◌, ◌%◌, ◌^◌, ◌<◌, ◌≤◌, List, [], ◌∷◌, length, take}
use Rattle.std.specs.Prelude.{drop, slice_index, slice_index_or, refl}
use Rattle.std.proofs.Common.{sym, ap, ap₂, ◌∙◌, zero-add, add_assoc, mul_assoc, div-one, mod-lt, arith, length-drop}
use Rattle.std.proofs.Common.{get_or-take, get_or-drop, drop-drop, pow_pos, shr-shr}
use Rattle.std.proofs.Math.Nat.{sub-zero, zero-sub, zero-div, add-mul-div_left, div-eq_of_lt}
use Rattle.std.proofs.Math.Pow.{field}
use Rattle.octets.specs.Bytes.{Bytes, bytes_take, bytes_drop}
use Rattle.octets.specs.LittleEndian.{number_of}
use Rattle.octets.specs.LittleEndianLaws.{length_bytes_of}
use Rattle.fr32.specs.Padding.{segment_nodes, data_of, unpadded}
use Rattle.fr32.specs.BitLaws.{bits_below, bits_kept, number_from, eight_bits}

pub length_unpadded : (n : ℕ) (segment : List ℕ) → length (unpadded n segment) ≡ n
unfolding unpadded
length_unpadded n segment = length_bytes_of n (data_of (segment_nodes n) segment)

-- what stands above the low part of a number
pub above : (x p d : ℕ) → 0 < p → (x % p + p * d) / p ≡ d
above x p d h = add-mul-div_left (x % p) d h ∙ ap (λ (y : ℕ). y + d) (div-eq_of_lt (mod-lt x h)) ∙ zero-add d

-- the data from node i on
data_from : (i m : ℕ) (segment : List ℕ) → data_of m segment / 2 ^ (254 * i) ≡ data_of (m - i) (drop (32 * i) segment)
unfolding data_of
data_from zero m segment = div-one (data_of m segment) ∙ ap (λ (k : ℕ). data_of k segment) (sym (sub-zero m))
data_from (suc i) zero segment =
    zero-div (2 ^ (254 * suc i)) ∙ ap (λ (k : ℕ). data_of k (drop (32 * suc i) segment)) (sym (zero-sub (suc i)))
data_from (suc i) (suc m) segment =
    let v = data_of (suc m) segment in
    let e : 254 * suc i ≡ 254 + 254 * i = omega arith in
    let k : m - i ≡ suc m - suc i = omega arith in
    let d : 32 + 32 * i ≡ 32 * suc i = omega arith in
    ap (λ (b : ℕ). v / 2 ^ b) e
    ∙ sym (shr-shr v 254 (254 * i))
    ∙ ap (λ (y : ℕ). y / 2 ^ (254 * i))
    (above (number_of (take 32 segment)) (2 ^ 254) (data_of m (drop 32 segment)) (pow_pos 254))
    ∙ data_from i m (drop 32 segment)
    ∙ ap₂ (λ (n : ℕ) (l : List ℕ). data_of n l) k (drop-drop (32 * i) 32 segment ∙ ap (λ (n : ℕ). drop n segment) d)

-- the data from bit b of node i on
pub data_at : (m : ℕ) (segment : List ℕ) (bit i b : ℕ) → bit ≡ 254 * i + b
    → data_of m segment / 2 ^ bit ≡ data_of (m - i) (drop (32 * i) segment) / 2 ^ b
data_at m segment bit i b e =
    ap (λ (k : ℕ). data_of m segment / 2 ^ k) e
    ∙ sym (shr-shr (data_of m segment) (254 * i) b)
    ∙ ap (λ (y : ℕ). y / 2 ^ b) (data_from i m segment)

-- eight bits of the first node, from bit s of byte a on
node_bits : (m : ℕ) (segment : List ℕ) (a s : ℕ) → Bytes segment → length segment ≤ 32 * m → 8 * a + s + 8 ≤ 254 → s < 8
    → data_of m segment / 2 ^ (8 * a + s) % 256
    ≡ (slice_index segment a + 256 * slice_index segment (a + 1)) / 2 ^ s % 256
unfolding data_of
node_bits zero [] a s h l w k = ap (λ (y : ℕ). y % 256) (zero-div (2 ^ (8 * a + s)) ∙ sym (zero-div (2 ^ s)))
node_bits zero (x ∷ xs) a s h l w k = absurd (omega arith)
node_bits (suc m) segment a s h l w k =
    let x = number_of (take 32 segment) in
    bits_below (x % 2 ^ 254) (data_of m (drop 32 segment)) 254 (8 * a + s) w
    ∙ bits_kept x 254 (8 * a + s) w
    ∙ eight_bits (take 32 segment) a s (bytes_take 32 segment h) (omega arith)
    ∙ ap₂ (λ (y z : ℕ). (y + 256 * z) / 2 ^ s % 256) (get_or-take 32 segment a 0 (omega arith))
    (get_or-take 32 segment (a + 1) 0 (omega arith))

-- the first byte
first_byte : (m : ℕ) (segment : List ℕ) → Bytes segment → length segment ≤ 32 * m
    → data_of m segment % 256 ≡ slice_index segment 0
first_byte m segment h l =
    ap (λ (y : ℕ). y % 256) (sym (div-one (data_of m segment)))
    ∙ node_bits m segment 0 0 h l (omega arith) (omega arith)
    ∙ ap (λ (y : ℕ). y % 256) (div-one (slice_index segment 0 + 256 * slice_index segment 1))
    ∙ least segment h
  where
    least : (xs : List ℕ) → Bytes xs → (slice_index xs 0 + 256 * slice_index xs 1) % 256 ≡ slice_index xs 0
    least [] b = refl
    least (x ∷ xs) b = let lt : x < 256 = b.0 in omega arith

low_six : (xs : List ℕ) → number_of xs % 64 ≡ slice_index xs 0 % 64
unfolding number_of
low_six [] = refl
low_six (x ∷ xs) = omega arith

-- the node's last six bits, and the data after it
last_byte : (m : ℕ) (segment : List ℕ) → Bytes segment
    → data_of (suc m) segment / 2 ^ 248 ≡ slice_index segment 31 % 64 + 64 * data_of m (drop 32 segment)
unfolding data_of
last_byte m segment h =
    let node = take 32 segment in
    let x = number_of node in
    let d = data_of m (drop 32 segment) in
    ap (λ (y : ℕ). (x % 2 ^ 254 + y) / 2 ^ 248) (mul_assoc (2 ^ 248) 64 d)
    ∙ add-mul-div_left (x % 2 ^ 254) (64 * d) (pow_pos 248)
    ∙ ap (λ (y : ℕ). y + 64 * d)
    (field x 6 248
    ∙ ap (λ (y : ℕ). y % 64) (number_from node 31 (bytes_take 32 segment h))
    ∙ low_six (drop 31 node)
    ∙ ap (λ (y : ℕ). y % 64) (get_or-drop 31 node 0 0 ∙ get_or-take 32 segment 31 0 (omega arith)))

-- eight bits from bit s of byte 31 on, which end in the next node
next_bits : (m : ℕ) (segment : List ℕ) (s : ℕ) → Bytes segment → length segment ≤ 32 * m → s ≤ 6
    → data_of m segment / 2 ^ (248 + s) % 256
    ≡ (slice_index segment 31 % 64 + 64 * slice_index segment 32) / 2 ^ s % 256
unfolding data_of
next_bits zero [] s h l k = ap (λ (y : ℕ). y % 256) (zero-div (2 ^ (248 + s)) ∙ sym (zero-div (2 ^ s)))
next_bits zero (x ∷ xs) s h l k = absurd (omega arith)
next_bits (suc m) segment s h l k =
    let y = slice_index segment 31 % 64 in
    let d = data_of m (drop 32 segment) in
    let rest : length (drop 32 segment) ≤ 32 * m = rw length-drop (omega arith) in
    ap (λ (z : ℕ). z % 256) (sym (shr-shr (data_of (suc m) segment) 248 s))
    ∙ ap (λ (z : ℕ). z / 2 ^ s % 256) (last_byte m segment h ∙ split y d)
    ∙ bits_below (y + 64 * (d % 256)) (d / 256) 14 s (omega arith)
    ∙ ap (λ (z : ℕ). (y + 64 * z) / 2 ^ s % 256)
    (first_byte m (drop 32 segment) (bytes_drop 32 segment h) rest ∙ get_or-drop 32 segment 0 0)
  where
    split : (y d : ℕ) → y + 64 * d ≡ y + 64 * (d % 256) + 2 ^ 14 * (d / 256)
    split y d = omega arith

-- Raw byte p: bit 8 p of the data is bit s of byte a of node i.
module _ (m : ℕ) (segment : List ℕ) (bytes : Bytes segment) (sized : length segment ≤ 32 * m) (p i a s : ℕ)
    (at : 8 * p ≡ 254 * i + (8 * a + s)) where
  left : length (drop (32 * i) segment) ≤ 32 * (m - i)
  left = rw length-drop (omega arith)

  from_node : data_of m segment / 2 ^ (8 * p) % 256 ≡ data_of (m - i) (drop (32 * i) segment) / 2 ^ (8 * a + s) % 256
  from_node = ap (λ (y : ℕ). y % 256) (data_at m segment (8 * p) i (8 * a + s) at)

  next : slice_index_or (drop (32 * i) segment) (a + 1) 0 ≡ slice_index segment (32 * i + a + 1)
  next = get_or-drop (32 * i) segment (a + 1) 0 ∙ ap (λ (q : ℕ). slice_index segment q) (sym (add_assoc (32 * i) a 1))

  pub raw_byte : 8 * a + s ≤ 246 → s < 8
      → data_of m segment / 2 ^ (8 * p) % 256
      ≡ (slice_index segment (32 * i + a) + 256 * slice_index segment (32 * i + a + 1)) / 2 ^ s % 256
  raw_byte w k =
      from_node
      ∙ node_bits (m - i) (drop (32 * i) segment) a s (bytes_drop (32 * i) segment bytes) left (omega arith) k
      ∙ ap₂ (λ (y z : ℕ). (y + 256 * z) / 2 ^ s % 256) (get_or-drop (32 * i) segment a 0) next

  pub raw_last_byte : a ≡ 31 → s ≤ 6
      → data_of m segment / 2 ^ (8 * p) % 256
      ≡ (slice_index segment (32 * i + a) % 64 + 64 * slice_index segment (32 * i + a + 1)) / 2 ^ s % 256
  raw_last_byte e k =
      let rest = drop (32 * i) segment in
      from_node
      ∙ ap (λ (b : ℕ). data_of (m - i) rest / 2 ^ (8 * b + s) % 256) e
      ∙ next_bits (m - i) rest s (bytes_drop (32 * i) segment bytes) left k
      ∙ ap (λ (b : ℕ). (slice_index rest b % 64 + 64 * slice_index rest (b + 1)) / 2 ^ s % 256) (sym e)
      ∙ ap₂ (λ (y z : ℕ). (y % 64 + 64 * z) / 2 ^ s % 256) (get_or-drop (32 * i) segment a 0) next
