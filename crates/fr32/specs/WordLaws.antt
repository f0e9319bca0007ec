-- Laws of words of eight bytes: a word from its bytes, and 64 bits from any bit on in two words.
use Rattle.std.specs.Prelude.{◌≡◌, ℕ, ◌+◌, ◌-◌, ◌*◌, ◌/◌, ◌%◌, ◌^◌, ◌<◌, ◌≤◌, List, length, take, drop, slice_index}
use Rattle.std.proofs.Common.{sym, ap, ◌∙◌, add_assoc, mul_assoc, mul-add, arith, length-drop, take-append-drop}
use Rattle.std.proofs.Common.{drop-drop, ext_get_or, length-take-le, shr-shr}
use Rattle.octets.specs.Bytes.{Bytes}
use Rattle.octets.specs.LittleEndian.{number_of, bytes_of}
use Rattle.octets.specs.LittleEndianLaws.{length_bytes_of}
use Rattle.octets.specs.Splice.{part}
use Rattle.octets.specs.SpliceLaws.{part_length, get_d_part}
use Rattle.fr32.specs.Words.{word_at, across_words}
use Rattle.fr32.specs.BitLaws.{low_bits_below, byte_of_number, number_append, number_from}

-- a word from its eight bytes
pub word_of_bytes : (xs : List ℕ) (at x : ℕ) → at + 8 ≤ length xs
    → ((c : ℕ) → c < 8 → slice_index xs (at + c) ≡ x / 2 ^ (8 * c) % 256)
    → part xs at 8 ≡ bytes_of 8 x
word_of_bytes xs at x h f =
    let l : length (part xs at 8) ≡ 8 = part_length xs at 8 h in
    ext_get_or 0 (part xs at 8) (bytes_of 8 x) (l ∙ sym (length_bytes_of 8 x))
    (λ c k. let g : c < 8 = omega arith in get_d_part xs at 8 c g ∙ f c g ∙ sym (byte_of_number 8 x c g))

-- the least word of a number, and what stands above it
pub first_word : (xs : List ℕ) → 8 ≤ length xs → number_of xs ≡ number_of (take 8 xs) + 2 ^ 64 * number_of (drop 8 xs)
first_word xs h =
    ap number_of (sym (take-append-drop 8 xs))
    ∙ number_append (take 8 xs) (drop 8 xs)
    ∙ ap (λ (k : ℕ). number_of (take 8 xs) + 256 ^ k * number_of (drop 8 xs)) (length-take-le 8 xs h)

two_above : (a b r p : ℕ) → a + p * (b + p * r) ≡ a + p * b + p * p * r
two_above a b r p =
    ap (λ (y : ℕ). a + y) (mul-add p b (p * r) ∙ ap (λ (y : ℕ). p * b + y) (sym (mul_assoc p p r)))
    ∙ sym (add_assoc a (p * b) (p * p * r))

-- 64 bits from any bit on lie in two words
pub bits_of_words : (xs : List ℕ) (a s : ℕ) → Bytes xs → a + 16 ≤ length xs → s ≤ 64
    → number_of xs / 2 ^ (8 * a + s) % 2 ^ 64 ≡ across_words (word_at xs a) (word_at xs (a + 8)) s
unfolding part
bits_of_words xs a s h l k =
    let ys = drop a xs in
    let m : length ys ≡ length xs - a = length-drop a xs in
    let n : 8 ≤ length (drop 8 ys) = rw length-drop (omega arith) in
    let low = number_of (take 8 ys) in
    let high = number_of (take 8 (drop 8 ys)) in
    let rest = number_of (drop 8 (drop 8 ys)) in
    ap (λ (y : ℕ). y % 2 ^ 64) (sym (shr-shr (number_of xs) (8 * a) s))
    ∙ ap (λ (y : ℕ). y / 2 ^ s % 2 ^ 64)
    (number_from xs a h
    ∙ first_word ys (omega arith)
    ∙ ap (λ (y : ℕ). low + 2 ^ 64 * y) (first_word (drop 8 ys) n)
    ∙ two_above low high rest (2 ^ 64))
    ∙ low_bits_below (low + 2 ^ 64 * high) rest 128 s 64 (omega arith)
    ∙ ap (λ (l : List ℕ). across_words low (number_of (take 8 l)) s) (drop-drop 8 a xs)
