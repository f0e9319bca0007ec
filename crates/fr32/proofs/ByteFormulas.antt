-- The bytes that the code works out from a place: of a segment, and of its raw bytes.
use Rattle.std.proofs.Common.{◌≡◌, ℕ, ◌+◌, ◌*◌, ◌/◌, ◌%◌, ◌^◌, ◌<◌, ◌≤◌, Bool, true, false, ◌&&◌, eqb, ltb, List}
use Rattle.std.proofs.Common.{length, get_or, sym, ap, ◌∙◌, ap₂, arith}
use Rattle.octets.specs.Bytes.{Bytes}
use Rattle.octets.specs.LittleEndianLaws.{each_byte}
use Rattle.stray.specs.StrayBits.{no_stray_bits}
use Rattle.fr32.specs.Padding.{segment_length, segment_nodes, data_of, padded, unpadded, only_raw_bits}
use Rattle.fr32.specs.BitLaws.{byte_of_number}
use Rattle.fr32.specs.CapacityLaws.{rest_zero}
use Rattle.fr32.specs.PaddingLaws.{padded_byte, padded_last_byte}
use Rattle.fr32.specs.UnpaddingLaws.{raw_byte, raw_last_byte}

-- a byte is below 256
whole : (xs : List ℕ) (at : ℕ) → Bytes xs → {byte : ℕ} → byte ≡ get_or xs at 0 → byte % 256 ≡ get_or xs at 0
whole xs at bytes e = let b = each_byte xs bytes at in omega arith

-- where byte q of a segment starts in the data
abbrev start_bit : ℕ → ℕ
start_bit q = 254 * (q / 32) + 8 * (q % 32)

module _ (raw : List ℕ) (q : ℕ) (bytes : Bytes raw) (within : q < segment_length (length raw))
    {low high byte : ℕ} (l : low ≡ get_or raw (start_bit q / 8) 0) (h : high ≡ get_or raw (start_bit q / 8 + 1) 0)
    (b : byte ≡ (low % 256 + 256 * high) / 2 ^ (start_bit q % 8) % 256) where
  place : 32 * (q / 32) + q % 32 ≡ q
  place = omega arith

  from_raw : byte
      ≡ (get_or raw (start_bit q / 8) 0 + 256 * get_or raw (start_bit q / 8 + 1) 0) / 2 ^ (start_bit q % 8) % 256
  from_raw = b ∙ ap₂ (λ (x y : ℕ). (x + 256 * y) / 2 ^ (start_bit q % 8) % 256) (whole raw (start_bit q / 8) bytes l) h

  pub at_place : (q % 32 ≡ 31 → ⊥) → byte ≡ get_or (padded raw) q 0
  at_place n =
      from_raw
      ∙ sym
      (padded_byte raw (q / 32) (q % 32) (omega arith) (omega arith) bytes
      (start_bit q / 8) (start_bit q % 8) (omega arith) (omega arith) (omega arith))
      ∙ ap (λ (k : ℕ). get_or (padded raw) k 0) place

  pub at_last_place : q % 32 ≡ 31 → byte % 64 ≡ get_or (padded raw) q 0
  at_last_place e =
      ap (λ (x : ℕ). x % 64) from_raw
      ∙ sym
      (padded_last_byte raw (q / 32) (q % 32) (omega arith) (omega arith) bytes
      (start_bit q / 8) (start_bit q % 8) (omega arith) (omega arith) e)
      ∙ ap (λ (k : ℕ). get_or (padded raw) k 0) place

-- where raw byte p starts: a bit of a node, in a byte of the segment
abbrev node_bit : ℕ → ℕ
node_bit p = 8 * p % 254

abbrev start_byte : ℕ → ℕ
start_byte p = 32 * (8 * p / 254) + node_bit p / 8

module _ (segment : List ℕ) (p : ℕ) (bytes : Bytes segment) {low high byte : ℕ}
    (l : low ≡ get_or segment (start_byte p) 0) (h : high ≡ get_or segment (start_byte p + 1) 0) where
  pub within_node : byte ≡ (low % 256 + 256 * high) / 2 ^ (node_bit p % 8) % 256 → node_bit p < 248
      → byte ≡ data_of ((length segment + 31) / 32) segment / 2 ^ (8 * p) % 256
  within_node b n =
      b
      ∙ ap₂ (λ (x y : ℕ). (x + 256 * y) / 2 ^ (node_bit p % 8) % 256) (whole segment (start_byte p) bytes l) h
      ∙ sym
      (raw_byte ((length segment + 31) / 32) segment bytes (omega arith) p
      (8 * p / 254) (node_bit p / 8) (node_bit p % 8) (omega arith) (omega arith) (omega arith))

  pub across_end : byte ≡ (low % 64 + 64 * high) / 2 ^ (node_bit p % 8) % 256 → 248 ≤ node_bit p
      → byte ≡ data_of ((length segment + 31) / 32) segment / 2 ^ (8 * p) % 256
  across_end b n =
      b
      ∙ ap₂ (λ (x y : ℕ). (x % 64 + 64 * y) / 2 ^ (node_bit p % 8) % 256) l h
      ∙ sym
      (raw_last_byte ((length segment + 31) / 32) segment bytes (omega arith) p
      (8 * p / 254) (node_bit p / 8) (node_bit p % 8) (omega arith) (omega arith) (omega arith))

-- raw byte p of n, and whether there are other bits
module _ (n p : ℕ) (segment : List ℕ) (sized : length segment ≡ segment_length n) {byte : ℕ}
    (b : byte ≡ data_of ((length segment + 31) / 32) segment / 2 ^ (8 * p) % 256) where
  from_data : byte ≡ data_of (segment_nodes n) segment / 2 ^ (8 * p) % 256
  from_data = b ∙ ap (λ (l : ℕ). data_of ((l + 31) / 32) segment / 2 ^ (8 * p) % 256) sized

  pub raw_place : p < n → byte ≡ get_or (unpadded n segment) p 0
  unfolding unpadded
  raw_place h = from_data ∙ sym (byte_of_number n (data_of (segment_nodes n) segment) p h)

  pub after_raw : p ≡ n → Bytes segment → no_stray_bits segment ≡ true → eqb byte 0 ≡ only_raw_bits n segment
  unfolding only_raw_bits
  after_raw e h c =
      ap (λ (x : ℕ). eqb x 0) (from_data ∙ ap (λ (k : ℕ). data_of (segment_nodes n) segment / 2 ^ (8 * k) % 256) e)
      ∙ sym (rest_zero n segment h sized)
      ∙ ap (λ (t : Bool). t && ltb (data_of (segment_nodes n) segment) (2 ^ (8 * n))) (sym c)

pub stray : (n : ℕ) (segment : List ℕ) → no_stray_bits segment ≡ false → false ≡ only_raw_bits n segment
unfolding only_raw_bits
stray n segment c = ap (λ (t : Bool). t && ltb (data_of (segment_nodes n) segment) (2 ^ (8 * n))) (sym c)
