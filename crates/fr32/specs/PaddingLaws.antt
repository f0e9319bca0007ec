-- Laws of a segment: its length, and each of its bytes from two raw bytes.
use Rattle.std.specs.Prelude.{◌≡◌, ℕ, zero, suc, ◌+◌, ◌*◌, ◌/◌, ◌%◌, ◌^◌, ◌<◌, List, ◌++◌, length, slice_index}
use Rattle.std.specs.Prelude.{slice_index_or, refl}
use Rattle.std.proofs.Common.{sym, ap, ap₂, ◌∙◌, zero-add, div-one, mod-lt, arith, length-append, get_or-append-add}
use Rattle.std.proofs.Common.{length-take-le, lit<, shr-shr}
use Rattle.std.proofs.Math.ListN.{get_or-append}
use Rattle.std.proofs.Math.Seq.{get_or-take}
use Rattle.std.proofs.Math.Pow.{field}
use Rattle.octets.specs.Bytes.{Bytes}
use Rattle.octets.specs.LittleEndian.{number_of, bytes_of}
use Rattle.octets.specs.LittleEndianLaws.{length_bytes_of}
use Rattle.fr32.specs.Padding.{segment_length, segment_nodes, nodes_of, padded}
use Rattle.fr32.specs.BitLaws.{bits_kept, byte_of_number, eight_bits}

pub length_nodes_of : (m v : ℕ) → length (nodes_of m v) ≡ 32 * m
unfolding nodes_of
length_nodes_of zero v = refl
length_nodes_of (suc m) v =
    length-append (bytes_of 32 (v % 2 ^ 254)) (nodes_of m (v / 2 ^ 254))
    ∙ ap₂ ◌+◌ (length_bytes_of 32 (v % 2 ^ 254)) (length_nodes_of m (v / 2 ^ 254))
    ∙ omega arith

pub length_padded : (raw : List ℕ) → length (padded raw) ≡ segment_length (length raw)
unfolding padded
length_padded raw =
    let n = length raw in
    length-take-le (segment_length n) (nodes_of (segment_nodes n) (number_of raw)) (rw length_nodes_of (omega arith))

-- byte j of node i
nodes_byte : (m v i j : ℕ) → i < m → j < 32
    → slice_index (nodes_of m v) (32 * i + j) ≡ v / 2 ^ (254 * i) % 2 ^ 254 / 2 ^ (8 * j) % 256
unfolding nodes_of
nodes_byte zero v i j h k = absurd (omega arith)
nodes_byte (suc m) v zero j h k =
    let x = bytes_of 32 (v % 2 ^ 254) in
    let l = length_bytes_of 32 (v % 2 ^ 254) in
    ap (λ (q : ℕ). slice_index (x ++ nodes_of m (v / 2 ^ 254)) q) (zero-add j)
    ∙ get_or-append x (nodes_of m (v / 2 ^ 254)) 0 j (omega arith)
    ∙ byte_of_number 32 (v % 2 ^ 254) j k
    ∙ ap (λ (y : ℕ). y % 2 ^ 254 / 2 ^ (8 * j) % 256) (sym (div-one v))
nodes_byte (suc m) v (suc i) j h k =
    let x = bytes_of 32 (v % 2 ^ 254) in
    let l = length_bytes_of 32 (v % 2 ^ 254) in
    let e : 32 * suc i + j ≡ length x + (32 * i + j) = omega arith in
    let d : 254 + 254 * i ≡ 254 * suc i = omega arith in
    ap (λ (q : ℕ). slice_index (x ++ nodes_of m (v / 2 ^ 254)) q) e
    ∙ get_or-append-add x (nodes_of m (v / 2 ^ 254)) (32 * i + j) 0
    ∙ nodes_byte m (v / 2 ^ 254) i j (omega arith) k
    ∙ ap (λ (y : ℕ). y % 2 ^ 254 / 2 ^ (8 * j) % 256) (shr-shr v 254 (254 * i) ∙ ap (λ (b : ℕ). v / 2 ^ b) d)

six_bits : (x : ℕ) → x % 64 % 256 ≡ x % 64
six_bits x = omega arith

six_of_eight : (x : ℕ) → x % 64 ≡ x % 256 % 64
six_of_eight x = omega arith

-- byte j of node i of a segment: the eight data bits from bit 254 i + 8 j on, of which byte 31 has the first six
module _ (raw : List ℕ) (i j : ℕ) (within : 32 * i + j < segment_length (length raw)) (place : j < 32) where
  pub from_nodes : slice_index_or (padded raw) (32 * i + j) 0
      ≡ number_of raw / 2 ^ (254 * i) % 2 ^ 254 / 2 ^ (8 * j) % 256
  unfolding padded
  from_nodes =
      let n = length raw in
      get_or-take (segment_length n) (nodes_of (segment_nodes n) (number_of raw)) (32 * i + j) 0 within
      ∙ nodes_byte (segment_nodes n) (number_of raw) i j (omega arith) place

  pub bits : j < 31 → slice_index (padded raw) (32 * i + j) ≡ number_of raw / 2 ^ (254 * i + 8 * j) % 256
  bits h =
      from_nodes
      ∙ bits_kept (number_of raw / 2 ^ (254 * i)) 254 (8 * j) (omega arith)
      ∙ ap (λ (y : ℕ). y % 256) (shr-shr (number_of raw) (254 * i) (8 * j))

  last_bits : j ≡ 31 → slice_index (padded raw) (32 * i + j) ≡ number_of raw / 2 ^ (254 * i + 8 * j) % 64
  last_bits e =
      let v = number_of raw / 2 ^ (254 * i) in
      from_nodes
      ∙ ap (λ (k : ℕ). v % 2 ^ 254 / 2 ^ (8 * k) % 256) e
      ∙ ap (λ (y : ℕ). y % 256) (field v 6 248)
      ∙ six_bits (v / 2 ^ 248)
      ∙ ap (λ (y : ℕ). y % 64) (shr-shr (number_of raw) (254 * i) 248)
      ∙ ap (λ (k : ℕ). number_of raw / 2 ^ (254 * i + 8 * k) % 64) (sym e)

  pub last_byte_clear : j ≡ 31 → slice_index (padded raw) (32 * i + j) < 64
  last_byte_clear e = rw (last_bits e) (mod-lt (number_of raw / 2 ^ (254 * i + 8 * j)) (lit< tt))

  -- that bit is bit s of raw byte a
  module _ (bytes : Bytes raw) (a s : ℕ) (at : 254 * i + 8 * j ≡ 8 * a + s) (shift : s < 8) where
    raw_bits : number_of raw / 2 ^ (254 * i + 8 * j) % 256
        ≡ (slice_index raw a + 256 * slice_index raw (a + 1)) / 2 ^ s % 256
    raw_bits = ap (λ (b : ℕ). number_of raw / 2 ^ b % 256) at ∙ eight_bits raw a s bytes (omega arith)

    pub padded_byte : j < 31
        → slice_index (padded raw) (32 * i + j) ≡ (slice_index raw a + 256 * slice_index raw (a + 1)) / 2 ^ s % 256
    padded_byte h = bits h ∙ raw_bits

    pub padded_last_byte : j ≡ 31
        → slice_index (padded raw) (32 * i + j) ≡ (slice_index raw a + 256 * slice_index raw (a + 1)) / 2 ^ s % 256 % 64
    padded_last_byte e =
        last_bits e ∙ six_of_eight (number_of raw / 2 ^ (254 * i + 8 * j)) ∙ ap (λ (y : ℕ). y % 64) raw_bits
