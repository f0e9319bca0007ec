-- Nodes and the number in them, there and back, for any number of nodes of which the last may be cut short.
use Rattle.std.specs.Prelude.{◌≡◌, ℕ, zero, suc, ◌+◌, ◌-◌, ◌*◌, ◌/◌, ◌%◌, ◌^◌, ◌<◌, ◌≤◌, true, List, [], ◌∷◌, ◌++◌}
use Rattle.std.specs.Prelude.{length, take, drop, slice_index, refl}
use Rattle.std.proofs.Common.{sym, ap, ap₂, ◌∙◌, add-zero, zero-add, mod-lt, mod-eq_of_lt, lt_of_lt_of_le}
use Rattle.std.proofs.Common.{div-lt_iff_lt-mul, arith, length-drop, take-append-drop, length-take-le, get_or-drop}
use Rattle.std.proofs.Common.{take_at, drop_at, pow_pos, pow_mono, shr_lt}
use Rattle.std.proofs.Math.Nat.{mod-mod, mod-add-div, add-mul-mod_self_left}
use Rattle.std.proofs.lemmas.List.{take-append-le}
use Rattle.std.proofs.Math.Seq.{take-append-add}
use Rattle.octets.specs.Bytes.{Bytes, bytes_take, bytes_drop}
use Rattle.octets.specs.LittleEndian.{number_of, bytes_of}
use Rattle.octets.specs.LittleEndianLaws.{length_bytes_of, bytes_bytes_of, number_of_bytes, bytes_of_number}
use Rattle.rules.specs.RefusalLaws.{and_left, and_right}
use Rattle.stray.specs.StrayBits.{clear_node, clear_nodes, no_stray_bits}
use Rattle.stray.specs.StrayBitsLaws.{node_clear, clear_nodes_lem}
use Rattle.fr32.specs.Padding.{segment_length, segment_nodes, nodes_of, data_of, padded}
use Rattle.fr32.specs.BitLaws.{power_of_bytes, take_bytes_of, number_from}
use Rattle.fr32.specs.PaddingLaws.{length_padded, last_byte_clear}
use Rattle.fr32.specs.UnpaddingLaws.{above}
use Rattle.fr32.specs.CapacityLaws.{room_for_raw, number_in_bits, cut_node, data_cut}

-- the first bytes of nodes
take_cut : (t m v : ℕ) → t ≤ 32 → take t (nodes_of (suc m) v) ≡ bytes_of t (v % 2 ^ 254)
unfolding nodes_of
take_cut t m v h =
    let l = length_bytes_of 32 (v % 2 ^ 254) in
    take-append-le t (bytes_of 32 (v % 2 ^ 254)) (nodes_of m (v / 2 ^ 254)) (omega arith)
    ∙ take_bytes_of t 32 (v % 2 ^ 254) h

take_more : (n m v : ℕ)
    → take (32 + n) (nodes_of (suc m) v) ≡ bytes_of 32 (v % 2 ^ 254) ++ take n (nodes_of m (v / 2 ^ 254))
unfolding nodes_of
take_more n m v =
    let x = bytes_of 32 (v % 2 ^ 254) in
    ap (λ (k : ℕ). take (k + n) (x ++ nodes_of m (v / 2 ^ 254))) (sym (length_bytes_of 32 (v % 2 ^ 254)))
    ∙ take-append-add x (nodes_of m (v / 2 ^ 254)) n

-- A number comes back from the bytes that have room for its bits.
data_of_nodes : (m k t v : ℕ) → t < 32 → 32 * k + t ≤ 32 * m → v < 2 ^ (254 * k + 8 * t)
    → data_of m (take (32 * k + t) (nodes_of m v)) ≡ v
unfolding data_of
data_of_nodes zero k t v lt l h =
    let e : 254 * k + 8 * t ≡ 0 = omega arith in
    let b : v < 2 ^ 0 = rw e at h in
    omega arith
data_of_nodes (suc m) zero t v lt l h =
    let e : 254 * 0 + 8 * t ≡ 8 * t = omega arith in
    let b : v < 256 ^ t = rw (e, power_of_bytes t) at h in
    let s : v % 2 ^ 254 ≡ v =
    mod-eq_of_lt (lt_of_lt_of_le h (pow_mono {i = 254 * 0 + 8 * t} {j = 254} (omega arith))) in
    ap (data_of (suc m))
    (ap (λ (n : ℕ). take n (nodes_of (suc m) v)) (zero-add t) ∙ take_cut t m v (omega arith) ∙ ap (bytes_of t) s)
    ∙ data_cut m (bytes_of t v) (bytes_bytes_of t v) (rw (length_bytes_of t v) lt)
    ∙ number_of_bytes t v b
data_of_nodes (suc m) (suc k) t v lt l h =
    let e : 32 * suc k + t ≡ 32 + (32 * k + t) = omega arith in
    let f : 254 * suc k + 8 * t ≡ 254 * k + 8 * t + 254 = omega arith in
    let b : v < 2 ^ (254 * k + 8 * t + 254) = rw f at h in
    let x = bytes_of 32 (v % 2 ^ 254) in
    let y = take (32 * k + t) (nodes_of m (v / 2 ^ 254)) in
    let n = length_bytes_of 32 (v % 2 ^ 254) in
    ap (data_of (suc m)) (ap (λ (i : ℕ). take i (nodes_of (suc m) v)) e ∙ take_more (32 * k + t) m v)
    ∙ ap₂ (λ (a c : List ℕ). number_of a % 2 ^ 254 + 2 ^ 254 * data_of m c) (take_at x y 32 n) (drop_at x y 32 n)
    ∙ ap₂ (λ (a c : ℕ). a % 2 ^ 254 + 2 ^ 254 * c) (number_in_node v)
    (data_of_nodes m k t (v / 2 ^ 254) lt (omega arith) (shr_lt (254 * k + 8 * t) 254 b))
    ∙ ap (λ (a : ℕ). a + 2 ^ 254 * (v / 2 ^ 254)) (mod-mod v (2 ^ 254))
    ∙ mod-add-div v (2 ^ 254)
  where
    number_in_node : (w : ℕ) → number_of (bytes_of 32 (w % 2 ^ 254)) ≡ w % 2 ^ 254
    number_in_node w =
        number_of_bytes 32 (w % 2 ^ 254)
        (lt_of_lt_of_le (mod-lt w (pow_pos 254)) (pow_mono {i = 254} {j = 256} (omega arith)))

-- so the number in a segment is that of its raw bytes
pub padded_data : (raw : List ℕ) → Bytes raw → data_of (segment_nodes (length raw)) (padded raw) ≡ number_of raw
unfolding padded
padded_data raw h =
    let n = length raw in
    let l = segment_length n in
    let v = number_of raw in
    let e : l ≡ 32 * (l / 32) + l % 32 = omega arith in
    ap (λ (k : ℕ). data_of (segment_nodes n) (take k (nodes_of (segment_nodes n) v))) e
    ∙ data_of_nodes (segment_nodes n) (l / 32) (l % 32) v (omega arith) (omega arith)
    (lt_of_lt_of_le (number_in_bits raw h) (pow_mono (room_for_raw n)))

-- a segment has no stray bits
pub padded_clear : (raw : List ℕ) → no_stray_bits (padded raw) ≡ true
padded_clear raw =
    let l = length_padded raw in
    clear_nodes_lem (length (padded raw) / 32) (padded raw)
    (λ i h.
    let e : 32 * i + 31 ≡ i * 32 + 31 = omega arith in
    rw (← e) (last_byte_clear raw i 31 (omega arith) (omega arith) refl))

-- the number in a node without stray bits
one_byte : (xs : List ℕ) → length xs ≡ 1 → number_of xs ≡ slice_index xs 0
unfolding number_of
one_byte [] e = absurd (omega arith)
one_byte (x ∷ []) e = add-zero x
one_byte (x ∷ y ∷ xs) e = absurd (omega arith)

clear_number : (node : List ℕ) → Bytes node → length node ≡ 32 → clear_node node ≡ true → number_of node < 2 ^ 254
clear_number node h l c =
    let one : length (drop 31 node) ≡ 1 = length-drop 31 node ∙ omega arith in
    let top : number_of (drop 31 node) < 64 =
    rw (one_byte (drop 31 node) one, get_or-drop 31 node 0 0) (node_clear node c) in
    (div-lt_iff_lt-mul {k = 2 ^ 248} {x = number_of node} {y = 64} (pow_pos 248)).0 (rw (number_from node 31 h) top)

-- Bytes without stray bits come back from the number in them.
pub nodes_of_data : (m k : ℕ) (segment : List ℕ) → Bytes segment → length segment ≤ 32 * m → k ≡ length segment / 32
    → clear_nodes k segment ≡ true
    → take (length segment) (nodes_of m (data_of m segment)) ≡ segment
unfolding data_of clear_nodes
nodes_of_data zero k [] h l e c = refl
nodes_of_data zero k (x ∷ xs) h l e c = absurd (omega arith)
nodes_of_data (suc m) zero segment h l e c =
    let n = length segment in
    let v = number_of segment in
    ap (λ (w : ℕ). take n (nodes_of (suc m) w)) (data_cut m segment h (omega arith))
    ∙ take_cut n m v (omega arith)
    ∙ ap (bytes_of n) (mod-eq_of_lt (cut_node segment h (omega arith)))
    ∙ bytes_of_number n segment refl h
nodes_of_data (suc m) (suc k) segment h l e c =
    let node = take 32 segment in
    let rest = drop 32 segment in
    let v = data_of (suc m) segment in
    let left : length rest ≡ length segment - 32 = length-drop 32 segment in
    let n : length segment ≡ 32 + length rest = omega arith in
    let sized : length node ≡ 32 = length-take-le 32 segment (omega arith) in
    let whole : number_of node < 2 ^ 254 =
    clear_number node (bytes_take 32 segment h) sized (and_left (clear_node node) (clear_nodes k rest) c) in
    let low : v % 2 ^ 254 ≡ number_of node =
    add-mul-mod_self_left (number_of node % 2 ^ 254) (2 ^ 254) (data_of m rest)
    ∙ mod-mod (number_of node) (2 ^ 254)
    ∙ mod-eq_of_lt whole in
    ap (λ (i : ℕ). take i (nodes_of (suc m) v)) n
    ∙ take_more (length rest) m v
    ∙ ap₂ ◌++◌
    (ap (bytes_of 32) low ∙ bytes_of_number 32 node sized (bytes_take 32 segment h))
    (ap (λ (d : ℕ). take (length rest) (nodes_of m d)) (above (number_of node) (2 ^ 254) (data_of m rest) (pow_pos 254))
    ∙ nodes_of_data m k rest (bytes_drop 32 segment h) (omega arith) (omega arith)
    (and_right (clear_node node) (clear_nodes k rest) c))
    ∙ take-append-drop 32 segment
