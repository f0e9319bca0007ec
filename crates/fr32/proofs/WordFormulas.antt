-- The words that the code works out: from two words, of a segment, and of its raw bytes.
use Rattle.std.proofs.Common.{◌≡◌, ℕ, ◌+◌, ◌-◌, ◌*◌, ◌/◌, ◌%◌, ◌^◌, ◌<◌, ◌≤◌, List, length, sym, ap, ◌∙◌, ap₂}
use Rattle.std.proofs.Common.{mod-eq_of_lt, mul_assoc, mul_comm, div-one, arith, pow_pos, pow-add}
use native.Mathlib.Nat.{add-mod-mod, add-mul-div_left}
use native.Mathlib.Nat.{add-mul-mod_self_left}
use lib.Pow.{mod-mod-pow}
use Rattle.octets.specs.Bytes.{Bytes}
use Rattle.octets.specs.LittleEndian.{number_of, bytes_of}
use Rattle.octets.specs.Splice.{part}
use Rattle.fr32.specs.Padding.{segment_length, data_of, padded, unpadded}
use Rattle.fr32.specs.Words.{word_at, across_words, across_nodes}
use Rattle.fr32.specs.WordLaws.{bits_of_words}
use Rattle.fr32.specs.PaddedWordLaws.{padded_word, padded_last_word}
use Rattle.fr32.specs.RawWordLaws.{unpadded_word, raw_word, raw_last_word}

pub not_shifted : (low high s : ℕ) → s ≡ 0 → low < 2 ^ 64 → low ≡ across_words low high s
not_shifted low high s e h =
    sym
    (ap (across_words low high) e
    ∙ ap (λ (y : ℕ). y % 2 ^ 64) (div-one (low + 2 ^ 64 * high))
    ∙ add-mul-mod_self_left low (2 ^ 64) high
    ∙ mod-eq_of_lt h)

pub shifted : (low high s : ℕ) → s < 64
    → (low / 2 ^ s + high * 2 ^ (64 - s) % 2 ^ 64) % 2 ^ 64 ≡ across_words low high s
shifted low high s h =
    let e : 64 ≡ s + (64 - s) = omega arith in
    let p : 2 ^ 64 ≡ 2 ^ s * 2 ^ (64 - s) = ap (λ (k : ℕ). 2 ^ k) e ∙ pow-add 2 s (64 - s) in
    add-mod-mod (low / 2 ^ s) (high * 2 ^ (64 - s)) (2 ^ 64)
    ∙ ap (λ (y : ℕ). (low / 2 ^ s + y) % 2 ^ 64) (mul_comm high (2 ^ (64 - s)))
    ∙ ap (λ (y : ℕ). y % 2 ^ 64)
    (sym
    (ap (λ (y : ℕ). (low + y) / 2 ^ s)
    (ap (λ (y : ℕ). y * high) p ∙ mul_assoc (2 ^ s) (2 ^ (64 - s)) high)
    ∙ add-mul-div_left low (2 ^ (64 - s) * high) (pow_pos s)))

pub over_end : (low high s : ℕ)
    → across_words (low % 2 ^ 62 + 2 ^ 62 * (high % 4)) (high / 4) s ≡ across_nodes low high s
over_end low high s =
    let e : low % 2 ^ 62 + 2 ^ 62 * (high % 4) + 2 ^ 64 * (high / 4) ≡ low % 2 ^ 62 + 2 ^ 62 * high = omega arith in
    ap (λ (y : ℕ). y / 2 ^ s % 2 ^ 64) e

-- where word w of a segment starts in the data, and the word of the raw bytes that has that bit
abbrev start_bit : ℕ → ℕ
start_bit w = 254 * (w / 4) + 64 * (w % 4)

abbrev start_word : ℕ → ℕ
start_word w = 8 * (start_bit w / 64)

module _ (raw : List ℕ) (w : ℕ) (bytes : Bytes raw) (within : w + 1 < 4 * (4 * length raw / 127))
    {low high word : ℕ} (l : low ≡ word_at raw (start_word w)) (h : high ≡ word_at raw (start_word w + 8))
    (b : word ≡ across_words low high (start_bit w % 64)) where
  place : 32 * (w / 4) + 8 * (w % 4) ≡ 8 * w
  place = omega arith

  from_raw : word ≡ number_of raw / 2 ^ start_bit w % 2 ^ 64
  from_raw =
      let e : 8 * start_word w + start_bit w % 64 ≡ start_bit w = omega arith in
      b
      ∙ ap₂ (λ (x y : ℕ). across_words x y (start_bit w % 64)) l h
      ∙ sym (bits_of_words raw (start_word w) (start_bit w % 64) bytes (omega arith) (omega arith))
      ∙ ap (λ (k : ℕ). number_of raw / 2 ^ k % 2 ^ 64) e

  pub at_word : (w % 4 ≡ 3 → ⊥) → bytes_of 8 word ≡ part (padded raw) (8 * w) 8
  at_word n =
      ap (bytes_of 8) from_raw
      ∙ sym (padded_word raw (w / 4) (w % 4) (omega arith) (omega arith))
      ∙ ap (λ (k : ℕ). part (padded raw) k 8) place

  pub at_last_word : w % 4 ≡ 3 → bytes_of 8 (word % 2 ^ 62) ≡ part (padded raw) (8 * w) 8
  at_last_word e =
      ap (bytes_of 8) (ap (λ (x : ℕ). x % 2 ^ 62) from_raw ∙ mod-mod-pow (number_of raw / 2 ^ start_bit w) 2 62)
      ∙ sym (padded_last_word raw (w / 4) (w % 4) (omega arith) e)
      ∙ ap (λ (k : ℕ). part (padded raw) k 8) place

-- where word w of the raw bytes starts: a bit of a node, in a word of the segment
abbrev node_bit : ℕ → ℕ
node_bit w = 64 * w % 254

abbrev node_word : ℕ → ℕ
node_word w = 32 * (64 * w / 254) + 8 * (node_bit w / 64)

module _ (segment : List ℕ) (w : ℕ) (bytes : Bytes segment) (inside : node_word w + 16 ≤ length segment)
    {low high word : ℕ} (l : low ≡ word_at segment (node_word w)) (h : high ≡ word_at segment (node_word w + 8)) where
  pub within_node : word ≡ across_words low high (node_bit w % 64) → node_bit w < 192
      → word ≡ data_of ((length segment + 31) / 32) segment / 2 ^ (64 * w) % 2 ^ 64
  within_node b n =
      b
      ∙ ap₂ (λ (x y : ℕ). across_words x y (node_bit w % 64)) l h
      ∙ sym
      (raw_word ((length segment + 31) / 32) segment bytes (omega arith) w
      (64 * w / 254) (8 * (node_bit w / 64)) (node_bit w % 64) (omega arith) inside (omega arith) (omega arith)
      (omega arith))

  pub across_end : word ≡ across_nodes low high (node_bit w % 64) → 192 ≤ node_bit w
      → word ≡ data_of ((length segment + 31) / 32) segment / 2 ^ (64 * w) % 2 ^ 64
  across_end b n =
      b
      ∙ ap₂ (λ (x y : ℕ). across_nodes x y (node_bit w % 64)) l h
      ∙ sym
      (raw_last_word ((length segment + 31) / 32) segment bytes (omega arith) w
      (64 * w / 254) (8 * (node_bit w / 64)) (node_bit w % 64) (omega arith) inside (omega arith) (omega arith))

-- word w of n raw bytes: it lies in the segment with the word after it, and stands at its place
module _ (n w : ℕ) (segment : List ℕ) (sized : length segment ≡ segment_length n) (room : w + 1 < n / 8) where
  pub words_inside : node_word w + 16 ≤ length segment
  words_inside = omega arith

  pub raw_word_place : {word : ℕ} → word ≡ data_of ((length segment + 31) / 32) segment / 2 ^ (64 * w) % 2 ^ 64
      → bytes_of 8 word ≡ part (unpadded n segment) (8 * w) 8
  raw_word_place b =
      ap (bytes_of 8) (b ∙ ap (λ (l : ℕ). data_of ((l + 31) / 32) segment / 2 ^ (64 * w) % 2 ^ 64) sized)
      ∙ sym (unpadded_word n segment w (omega arith))
