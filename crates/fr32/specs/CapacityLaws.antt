-- How many data bits a segment holds: 254 for each whole node, and 8 for each byte of a last node that is cut short.
use Rattle.std.specs.Prelude.{◌≡◌, ℕ, zero, suc, ◌+◌, ◌*◌, ◌/◌, ◌%◌, ◌^◌, ◌<◌, ◌≤◌, Bool, true, false, List, [], length}
use Rattle.std.specs.Prelude.{take, drop, ◌==◌, nat_lt, refl}
use Rattle.std.proofs.Common.{sym, ap, ap₂, ◌∙◌, add-zero, mul-suc, mod-lt, mod-eq_of_lt, lt_of_lt_of_le, le_trans}
use Rattle.std.proofs.Common.{le_of_eq, mul-le-mul_left, div-lt_iff_lt-mul, le-div_iff_mul-le, mul_comm, one-mul, arith}
use Rattle.std.proofs.Common.{length-drop, drop_of_length-le, take_all, pow_pos, pow_mono, pow-add, ltb-true, ltb-false}
use Rattle.std.proofs.Common.{eq-eqb, ne_eqb}
use Rattle.std.proofs.Math.Nat.{div-eq_of_lt}
use Rattle.octets.specs.Bytes.{Bytes, bytes_drop}
use Rattle.octets.specs.LittleEndian.{number_of}
use Rattle.octets.specs.LittleEndianLaws.{number_bound}
use Rattle.fr32.specs.Padding.{segment_length, segment_nodes, data_of}
use Rattle.fr32.specs.BitLaws.{power_of_bytes}

-- bits of l bytes of a segment
abbrev pub data_bits : ℕ → ℕ
data_bits l = 254 * (l / 32) + 8 * (l % 32)

-- the raw bits have room in a segment, and at most eight bits are left after them
pub room_for_raw : (n : ℕ) → 8 * n ≤ data_bits (segment_length n)
room_for_raw n = omega arith

pub room_left : (n : ℕ) → data_bits (segment_length n) ≤ 8 * n + 8
room_left n = omega arith

-- the bytes of a node that is cut short
pub number_in_bits : (xs : List ℕ) → Bytes xs → number_of xs < 2 ^ (8 * length xs)
number_in_bits xs h = rw (power_of_bytes (length xs)) (number_bound (length xs) xs refl h)

pub cut_node : (xs : List ℕ) → Bytes xs → length xs < 32 → number_of xs < 2 ^ 254
cut_node xs h l = lt_of_lt_of_le (number_in_bits xs h) (pow_mono {i = 8 * length xs} {j = 254} (omega arith))

data_none : (m : ℕ) → data_of m [] ≡ 0
unfolding data_of number_of
data_none zero = refl
data_none (suc m) = ap (λ (y : ℕ). 0 + 2 ^ 254 * y) (data_none m)

pub data_cut : (m : ℕ) (segment : List ℕ) → Bytes segment → length segment < 32
    → data_of (suc m) segment ≡ number_of segment
unfolding data_of
data_cut m segment h l =
    let t : take 32 segment ≡ segment = take_all 32 segment (omega arith) in
    let d : drop 32 segment ≡ [] = drop_of_length-le segment {i = 32} (omega arith) in
    ap₂ (λ (x y : List ℕ). number_of x % 2 ^ 254 + 2 ^ 254 * data_of m y) t d
    ∙ ap₂ (λ (x y : ℕ). x + 2 ^ 254 * y) (mod-eq_of_lt (cut_node segment h l)) (data_none m)
    ∙ add-zero (number_of segment)

-- a number in two parts
two_parts : (x d p q : ℕ) → x < p → d < q → x + p * d < p * q
two_parts x d p q h k = let u = mul-le-mul_left p k in let v = mul-suc p d in omega arith

data_bound : (m k t : ℕ) (segment : List ℕ) → Bytes segment → length segment ≡ 32 * k + t → t < 32
    → length segment ≤ 32 * m
    → data_of m segment < 2 ^ (254 * k + 8 * t)
unfolding data_of
data_bound zero k t segment h e lt l = pow_pos (254 * k + 8 * t)
data_bound (suc m) zero t segment h e lt l =
    let b : 8 * length segment ≡ 254 * 0 + 8 * t = omega arith in
    rw (data_cut m segment h (omega arith), ← b) (number_in_bits segment h)
data_bound (suc m) (suc k) t segment h e lt l =
    let b : 254 * suc k + 8 * t ≡ 254 + (254 * k + 8 * t) = omega arith in
    let rest : length (drop 32 segment) ≡ 32 * k + t = length-drop 32 segment ∙ omega arith in
    let d : data_of m (drop 32 segment) < 2 ^ (254 * k + 8 * t) =
    data_bound m k t (drop 32 segment) (bytes_drop 32 segment h) rest lt (omega arith) in
    lt_of_lt_of_le
    (two_parts (number_of (take 32 segment) % 2 ^ 254) (data_of m (drop 32 segment)) (2 ^ 254) (2 ^ (254 * k + 8 * t))
    (mod-lt (number_of (take 32 segment)) (pow_pos 254)) d)
    (le_of_eq (sym (ap (λ (i : ℕ). 2 ^ i) b ∙ pow-add 2 254 (254 * k + 8 * t))))

-- a number of at most eight bits more than p has: its upper eight bits are zero if and only if it is below p
upper_zero : (x p : ℕ) → 0 < p → x < p * 256 → nat_lt x p ≡ (x / p % 256 == 0)
upper_zero x p h k = by_test (nat_lt x p) refl
  where
    q : x / p < 256
    q = (div-lt_iff_lt-mul h).1 (rw (mul_comm 256 p) k)

    by_test : (t : Bool) → nat_lt x p ≡ t → nat_lt x p ≡ (x / p % 256 == 0)
    by_test true e = e ∙ sym (eq-eqb (x / p % 256) 0 (ap (λ (y : ℕ). y % 256) (div-eq_of_lt (ltb-true x p e))))
    by_test false e =
        let one : 1 ≤ x / p = (le-div_iff_mul-le h).1 (rw (one-mul p) (ltb-false x p e)) in
        let m : x / p % 256 ≡ x / p = mod-eq_of_lt q in
        e ∙ sym (ne_eqb (x / p % 256) 0 (λ z. absurd (omega arith)))

-- no data past n raw bytes: the eight bits after them are zero
pub rest_zero : (n : ℕ) (segment : List ℕ) → Bytes segment → length segment ≡ segment_length n
    → nat_lt (data_of (segment_nodes n) segment) (2 ^ (8 * n))
    ≡ (data_of (segment_nodes n) segment / 2 ^ (8 * n) % 256 == 0)
rest_zero n segment h e =
    let l = segment_length n in
    let b : data_of (segment_nodes n) segment < 2 ^ data_bits l =
    data_bound (segment_nodes n) (l / 32) (l % 32) segment h (omega arith) (omega arith) (omega arith) in
    upper_zero (data_of (segment_nodes n) segment) (2 ^ (8 * n)) (pow_pos (8 * n))
    (lt_of_lt_of_le b (le_trans (pow_mono (room_left n)) (le_of_eq (pow-add 2 (8 * n) 8))))
