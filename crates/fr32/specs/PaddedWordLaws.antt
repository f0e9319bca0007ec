-- Each word of a segment from the number of the raw bytes.
use Rattle.std.specs.Prelude.{◌≡◌, ℕ, ◌+◌, ◌*◌, ◌/◌, ◌%◌, ◌^◌, ◌<◌, ◌≤◌, List, length, slice_index}
use Rattle.std.proofs.Common.{sym, ap, ◌∙◌, add_assoc, arith, shr-shr}
use Rattle.std.proofs.Math.Pow.{field}
use Rattle.octets.specs.LittleEndian.{number_of, bytes_of}
use Rattle.octets.specs.Splice.{part}
use Rattle.fr32.specs.Padding.{segment_length, padded}
use Rattle.fr32.specs.BitLaws.{bits_kept}
use Rattle.fr32.specs.PaddingLaws.{length_padded, from_nodes, bits}
use Rattle.fr32.specs.WordLaws.{word_of_bytes}

-- word j of node i of a segment: the data bits from bit 254 i + 64 j on, of which word 3 has the first 62
module _ (raw : List ℕ) (i j : ℕ) (within : 32 * i + 8 * j + 8 ≤ segment_length (length raw)) where
  fits : 32 * i + 8 * j + 8 ≤ length (padded raw)
  fits = let l = length_padded raw in omega arith

  abbrev from : ℕ
  from = number_of raw / 2 ^ (254 * i + 64 * j)

  pub padded_word : j < 3 → part (padded raw) (32 * i + 8 * j) 8 ≡ bytes_of 8 (from % 2 ^ 64)
  padded_word h =
      word_of_bytes (padded raw) (32 * i + 8 * j) (from % 2 ^ 64) fits
      (λ c k.
      let e : 254 * i + 8 * (8 * j + c) ≡ 254 * i + 64 * j + 8 * c = omega arith in
      ap (λ (q : ℕ). slice_index (padded raw) q) (add_assoc (32 * i) (8 * j) c)
      ∙ bits raw i (8 * j + c) (omega arith) (omega arith) (omega arith)
      ∙ ap (λ (b : ℕ). number_of raw / 2 ^ b % 256) e
      ∙ ap (λ (y : ℕ). y % 256) (sym (shr-shr (number_of raw) (254 * i + 64 * j) (8 * c)))
      ∙ sym (bits_kept from 64 (8 * c) (omega arith)))

  pub padded_last_word : j ≡ 3 → part (padded raw) (32 * i + 8 * j) 8 ≡ bytes_of 8 (from % 2 ^ 62)
  padded_last_word h =
      word_of_bytes (padded raw) (32 * i + 8 * j) (from % 2 ^ 62) fits
      (λ c k.
      let v = number_of raw / 2 ^ (254 * i) in
      let e : 8 * (8 * j + c) ≡ 192 + 8 * c = omega arith in
      let d : 254 * i + 192 ≡ 254 * i + 64 * j = omega arith in
      ap (λ (q : ℕ). slice_index (padded raw) q) (add_assoc (32 * i) (8 * j) c)
      ∙ from_nodes raw i (8 * j + c) (omega arith) (omega arith)
      ∙ ap (λ (b : ℕ). v % 2 ^ 254 / 2 ^ b % 256) e
      ∙ ap (λ (y : ℕ). y % 256) (sym (shr-shr (v % 2 ^ 254) 192 (8 * c)))
      ∙ ap (λ (y : ℕ). y / 2 ^ (8 * c) % 256) (field v 62 192)
      ∙ ap (λ (y : ℕ). y % 2 ^ 62 / 2 ^ (8 * c) % 256)
      (shr-shr (number_of raw) (254 * i) 192 ∙ ap (λ (b : ℕ). number_of raw / 2 ^ b) d))
