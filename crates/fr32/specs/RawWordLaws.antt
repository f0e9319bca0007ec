-- Each word of the raw bytes from two words of the segment.
use Rattle.std.specs.Prelude.{◌≡◌, ℕ, zero, suc, ◌+◌, ◌-◌, ◌*◌, ◌/◌, ◌%◌, ◌^◌, ◌<◌, ◌≤◌, List, [], ◌∷◌, length, take}
use Rattle.std.specs.Prelude.{drop}
use Rattle.std.proofs.Common.{sym, ap, ap₂, ◌∙◌, add_assoc, mul_assoc, mul-add, div-one, mod-eq_of_lt, arith}
use Rattle.std.proofs.Common.{length-drop, get_or-take, drop-drop, length-take-le, pow_pos, shr-shr}
use Rattle.std.proofs.Math.Nat.{mod-add-div, add-mul-div_left, add-mul-mod_self_left}
use Rattle.std.proofs.Math.Pow.{field}
use Rattle.octets.specs.Bytes.{Bytes, bytes_take, bytes_drop}
use Rattle.octets.specs.LittleEndian.{number_of, bytes_of}
use Rattle.octets.specs.LittleEndianLaws.{length_bytes_of, number_bound}
use Rattle.octets.specs.Splice.{part}
use Rattle.octets.specs.SpliceLaws.{same_part, part_end}
use Rattle.fr32.specs.Padding.{segment_nodes, data_of, unpadded}
use Rattle.fr32.specs.Words.{word_at, across_words, across_nodes}
use Rattle.fr32.specs.BitLaws.{low_bits_below, low_bits_kept, bits_kept, byte_of_number, number_from}
use Rattle.fr32.specs.UnpaddingLaws.{data_at}
use Rattle.fr32.specs.WordLaws.{word_of_bytes, first_word, bits_of_words}

-- word w of the raw bytes in a segment
pub unpadded_word : (n : ℕ) (segment : List ℕ) (w : ℕ) → 8 * w + 8 ≤ n
    → part (unpadded n segment) (8 * w) 8 ≡ bytes_of 8 (data_of (segment_nodes n) segment / 2 ^ (64 * w) % 2 ^ 64)
unfolding unpadded
unpadded_word n segment w h =
    let v = data_of (segment_nodes n) segment in
    let l = length_bytes_of n v in
    word_of_bytes (bytes_of n v) (8 * w) (v / 2 ^ (64 * w) % 2 ^ 64) (omega arith)
    (λ c k.
    let e : 8 * (8 * w + c) ≡ 64 * w + 8 * c = omega arith in
    byte_of_number n v (8 * w + c) (omega arith)
    ∙ ap (λ (b : ℕ). v / 2 ^ b % 256) e
    ∙ ap (λ (y : ℕ). y % 256) (sym (shr-shr v (64 * w) (8 * c)))
    ∙ sym (bits_kept (v / 2 ^ (64 * w)) 64 (8 * c) (omega arith)))

take_reaches : (k n : ℕ) (xs : List ℕ) → k ≤ n → k ≤ length xs → k ≤ length (take n xs)
take_reaches zero n xs h l = omega arith
take_reaches (suc k) zero xs h l = absurd (omega arith)
take_reaches (suc k) (suc n) [] h l = absurd (omega arith)
take_reaches (suc k) (suc n) (x ∷ xs) h l = let r = take_reaches k n xs (omega arith) (omega arith) in omega arith

-- a word of what is left of a string
part_of_rest : (xs : List ℕ) (b a : ℕ) → part (drop b xs) a 8 ≡ part xs (b + a) 8
unfolding part
part_of_rest xs b a = ap (take 8) (drop-drop a b xs)

-- a word of the first node
word_of_node : (segment : List ℕ) (a : ℕ) → a + 8 ≤ 32 → a + 8 ≤ length segment
    → part (take 32 segment) a 8 ≡ part segment a 8
word_of_node segment a h l =
    same_part (take 32 segment) segment a a 8 (take_reaches (a + 8) 32 segment h l) l
    (λ c k. get_or-take 32 segment (a + c) 0 (omega arith))

-- 64 bits of the first node, from bit s of byte a on
bits_in_node : (m : ℕ) (segment : List ℕ) (a s : ℕ) → Bytes segment → length segment ≤ 32 * m → a + 16 ≤ length segment
    → a + 16 ≤ 32 → 8 * a + s + 64 ≤ 254 → s ≤ 64
    → data_of m segment / 2 ^ (8 * a + s) % 2 ^ 64 ≡ across_words (word_at segment a) (word_at segment (a + 8)) s
unfolding data_of
bits_in_node zero segment a s h l r n w k = absurd (omega arith)
bits_in_node (suc m) segment a s h l r n w k =
    let x = number_of (take 32 segment) in
    low_bits_below (x % 2 ^ 254) (data_of m (drop 32 segment)) 254 (8 * a + s) 64 w
    ∙ low_bits_kept x 254 (8 * a + s) 64 w
    ∙ bits_of_words (take 32 segment) a s (bytes_take 32 segment h) (take_reaches (a + 16) 32 segment n r) k
    ∙ ap₂ (λ (y z : List ℕ). across_words (number_of y) (number_of z) s)
    (word_of_node segment a (omega arith) (omega arith)) (word_of_node segment (a + 8) (omega arith) (omega arith))

-- the least word of the data
data_word : (m : ℕ) (segment : List ℕ) → Bytes segment → length segment ≤ 32 * m → 8 ≤ length segment
    → data_of m segment % 2 ^ 64 ≡ word_at segment 0
unfolding data_of part
data_word zero segment h l r = absurd (omega arith)
data_word (suc m) segment h l r =
    let node = take 32 segment in
    let x = number_of node in
    let n : 8 ≤ length node = take_reaches 8 32 segment (omega arith) r in
    let b : Bytes node = bytes_take 32 segment h in
    ap (λ (y : ℕ). y % 2 ^ 64) (sym (div-one (data_of (suc m) segment)))
    ∙ low_bits_below (x % 2 ^ 254) (data_of m (drop 32 segment)) 254 0 64 (omega arith)
    ∙ low_bits_kept x 254 0 64 (omega arith)
    ∙ ap (λ (y : ℕ). y % 2 ^ 64) (div-one x ∙ first_word node n)
    ∙ add-mul-mod_self_left (number_of (take 8 node)) (2 ^ 64) (number_of (drop 8 node))
    ∙ mod-eq_of_lt (number_bound 8 (take 8 node) (length-take-le 8 node n) (bytes_take 8 node b))
    ∙ ap number_of (word_of_node segment 0 (omega arith) r)

-- 64 bits from bit s of word 3 on, which end in the next node
bits_over_end : (m : ℕ) (segment : List ℕ) (s : ℕ) → Bytes segment → length segment ≤ 32 * m → 40 ≤ length segment
    → s ≤ 62
    → data_of m segment / 2 ^ (192 + s) % 2 ^ 64 ≡ across_nodes (word_at segment 24) (word_at segment 32) s
unfolding data_of
bits_over_end zero segment s h l r k = absurd (omega arith)
bits_over_end (suc m) segment s h l r k =
    let node = take 32 segment in
    let x = number_of node in
    let d = data_of m (drop 32 segment) in
    let y = word_at segment 24 % 2 ^ 62 in
    let n : length (drop 32 segment) ≡ length segment - 32 = length-drop 32 segment in
    let sized : length node ≡ 32 = length-take-le 32 segment (omega arith) in
    ap (λ (z : ℕ). z % 2 ^ 64) (sym (shr-shr (data_of (suc m) segment) 192 s))
    ∙ ap (λ (z : ℕ). z / 2 ^ s % 2 ^ 64)
    (ap (λ (z : ℕ). (x % 2 ^ 254 + z) / 2 ^ 192) (mul_assoc (2 ^ 192) (2 ^ 62) d)
    ∙ add-mul-div_left (x % 2 ^ 254) (2 ^ 62 * d) (pow_pos 192)
    ∙ ap (λ (z : ℕ). z + 2 ^ 62 * d)
    (field x 62 192
    ∙ ap (λ (z : ℕ). z % 2 ^ 62)
    (number_from node 24 (bytes_take 32 segment h)
    ∙ ap number_of
    (sym (part_end node 24 8 (omega arith)) ∙ word_of_node segment 24 (omega arith) (omega arith))))
    ∙ split y d)
    ∙ low_bits_below (y + 2 ^ 62 * (d % 2 ^ 64)) (d / 2 ^ 64) 126 s 64 (omega arith)
    ∙ ap (λ (z : ℕ). (y + 2 ^ 62 * z) / 2 ^ s % 2 ^ 64)
    (data_word m (drop 32 segment) (bytes_drop 32 segment h) (omega arith) (omega arith)
    ∙ ap number_of (part_of_rest segment 32 0))
  where
    split : (y d : ℕ) → y + 2 ^ 62 * d ≡ y + 2 ^ 62 * (d % 2 ^ 64) + 2 ^ 126 * (d / 2 ^ 64)
    split y d =
        ap (λ (z : ℕ). y + z)
        (ap (λ (z : ℕ). 2 ^ 62 * z) (sym (mod-add-div d (2 ^ 64)))
        ∙ mul-add (2 ^ 62) (d % 2 ^ 64) (2 ^ 64 * (d / 2 ^ 64))
        ∙ ap (λ (z : ℕ). 2 ^ 62 * (d % 2 ^ 64) + z) (sym (mul_assoc (2 ^ 62) (2 ^ 64) (d / 2 ^ 64))))
        ∙ sym (add_assoc y (2 ^ 62 * (d % 2 ^ 64)) (2 ^ 126 * (d / 2 ^ 64)))

-- Word w of the raw bytes: bit 64 w of the data is bit s of byte a of node i.
module _ (m : ℕ) (segment : List ℕ) (bytes : Bytes segment) (sized : length segment ≤ 32 * m) (w i a s : ℕ)
    (at : 64 * w ≡ 254 * i + (8 * a + s)) (within : 32 * i + a + 16 ≤ length segment) where
  abbrev rest : List ℕ
  rest = drop (32 * i) segment

  left : length rest ≡ length segment - 32 * i
  left = length-drop (32 * i) segment

  from_node : data_of m segment / 2 ^ (64 * w) % 2 ^ 64 ≡ data_of (m - i) rest / 2 ^ (8 * a + s) % 2 ^ 64
  from_node = ap (λ (y : ℕ). y % 2 ^ 64) (data_at m segment (64 * w) i (8 * a + s) at)

  next : part rest (a + 8) 8 ≡ part segment (32 * i + a + 8) 8
  next = part_of_rest segment (32 * i) (a + 8) ∙ ap (λ (q : ℕ). part segment q 8) (sym (add_assoc (32 * i) a 8))

  pub raw_word : a + 16 ≤ 32 → 8 * a + s ≤ 190 → s < 64
      → data_of m segment / 2 ^ (64 * w) % 2 ^ 64
      ≡ across_words (word_at segment (32 * i + a)) (word_at segment (32 * i + a + 8)) s
  raw_word n b k =
      let l = left in
      from_node
      ∙ bits_in_node (m - i) rest a s (bytes_drop (32 * i) segment bytes) (omega arith) (omega arith) n (omega arith)
      (omega arith)
      ∙ ap₂ (λ (y z : List ℕ). across_words (number_of y) (number_of z) s) (part_of_rest segment (32 * i) a) next

  pub raw_last_word : a ≡ 24 → s ≤ 62
      → data_of m segment / 2 ^ (64 * w) % 2 ^ 64
      ≡ across_nodes (word_at segment (32 * i + a)) (word_at segment (32 * i + a + 8)) s
  raw_last_word e k =
      let l = left in
      from_node
      ∙ ap (λ (b : ℕ). data_of (m - i) rest / 2 ^ (8 * b + s) % 2 ^ 64) e
      ∙ bits_over_end (m - i) rest s (bytes_drop (32 * i) segment bytes) (omega arith) (omega arith) k
      ∙ ap (λ (b : ℕ). across_nodes (word_at rest b) (word_at rest (b + 8)) s) (sym e)
      ∙ ap₂ (λ (y z : List ℕ). across_nodes (number_of y) (number_of z) s) (part_of_rest segment (32 * i) a) next
