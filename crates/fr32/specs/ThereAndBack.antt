-- Raw bytes go there and back unchanged, and each accepted segment comes back from its raw bytes (document 02, request
-- (iv)). The same of the two routines is in proofs/Returns.antt.
use Rattle.std.specs.Prelude.{◌≡◌, ℕ, ◌*◌, ◌/◌, ◌^◌, ◌<◌, true, List, length, take, nat_lt, refl}
use Rattle.std.proofs.Common.{sym, ap, ap₂, ◌∙◌, arith, lt-ltb, ltb-true}
use Rattle.octets.specs.Bytes.{Bytes}
use Rattle.octets.specs.LittleEndian.{bytes_of}
use Rattle.octets.specs.LittleEndianLaws.{number_of_bytes, bytes_of_number}
use Rattle.rules.specs.RefusalLaws.{and_left, and_right, and_both}
use Rattle.stray.specs.StrayBits.{no_stray_bits}
use Rattle.fr32.specs.Padding.{segment_length, segment_nodes, nodes_of, data_of, padded, unpadded, only_raw_bits}
use Rattle.fr32.specs.BitLaws.{power_of_bytes}
use Rattle.fr32.specs.PaddingLaws.{length_padded}
use Rattle.fr32.specs.UnpaddingLaws.{length_unpadded}
use Rattle.fr32.specs.CapacityLaws.{number_in_bits}
use Rattle.fr32.specs.InverseLaws.{padded_data, padded_clear, nodes_of_data}

-- Raw bytes go there and back unchanged.
pub there_and_back : (raw : List ℕ) → Bytes raw
    → (length (padded raw) ≡ segment_length (length raw)) × (only_raw_bits (length raw) (padded raw) ≡ true)
    × (unpadded (length raw) (padded raw) ≡ raw)
unfolding only_raw_bits unpadded
there_and_back raw h =
    let n = length raw in
    let d = padded_data raw h in (
      length_padded raw,
      and_both (no_stray_bits (padded raw)) (nat_lt (data_of (segment_nodes n) (padded raw)) (2 ^ (8 * n)))
          (padded_clear raw)
          (lt-ltb (data_of (segment_nodes n) (padded raw)) (2 ^ (8 * n)) (rw d (number_in_bits raw h))),
      ap (bytes_of n) d ∙ bytes_of_number n raw refl h,
    )

-- Each accepted segment comes back from its raw bytes.
pub back_and_there : (n : ℕ) (segment : List ℕ) → Bytes segment → length segment ≡ segment_length n
    → only_raw_bits n segment ≡ true
    → padded (unpadded n segment) ≡ segment
unfolding padded unpadded only_raw_bits
back_and_there n segment h l o =
    let m = segment_nodes n in
    let v = data_of m segment in
    let clear = and_left (no_stray_bits segment) (nat_lt v (2 ^ (8 * n))) o in
    let small : v < 2 ^ (8 * n) = ltb-true v (2 ^ (8 * n))
    (and_right (no_stray_bits segment) (nat_lt v (2 ^ (8 * n))) o) in
    ap₂ (λ (k w : ℕ). take (segment_length k) (nodes_of (segment_nodes k) w)) (length_unpadded n segment)
    (number_of_bytes n v (rw power_of_bytes at small))
    ∙ ap (λ (k : ℕ). take k (nodes_of m v)) (sym l)
    ∙ nodes_of_data m (length segment / 32) segment h (omega arith) refl clear
