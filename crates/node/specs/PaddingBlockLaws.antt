-- SHA-256 of 64 bytes: two blocks, the second of them the padding block, whose rounds need no schedule.
use Rattle.std.specs.Prelude.{◌≡◌, refl, Bool, List, [], ◌∷◌, ◌++◌, ℕ, ◌+◌, ◌*◌, ◌<◌, eqb, length, get_or, drop, replicate}
use Rattle.std.proofs.Common.{sym, ◌∙◌, arith, eqb→eq, get_or-drop, get_or-append-add}
use Rattle.sha256.specs.Table.{table}
use Rattle.sha256.specs.Fips.{◌⊞◌, constants, σ0, σ1, schedule_word, next_word, schedule, rounds, pad, zero_bytes}
use Rattle.sha256.specs.Fips.{length_byte, block_at, word_at, hash_value, compress, initial, digest, sha256}
use Rattle.sha256.specs.TableLaws.{get_d_table, table_ext}
use Rattle.sha256.specs.BlockLaws.{schedule_of, rounds_sums}
use Rattle.sha256.specs.PaddingLaws.{pad_length, pad_block}
use Rattle.node.specs.PaddingBlock.{padding_block, padding_schedule, padding_sums}
use Rattle.node.specs.Every.{at}

-- the schedule's table
is_next : ℕ → ℕ → Bool
is_next i x = eqb x (next_word padding_schedule (16 + i))

word_is_next : (i : ℕ) → i < 48 → get_or padding_schedule (16 + i) 0 ≡ next_word padding_schedule (16 + i)
unfolding padding_schedule is_next schedule_word σ0 σ1
word_is_next i h =
    sym (get_or-drop 16 padding_schedule i 0)
    ∙ eqb→eq (get_or (drop 16 padding_schedule) i 0) (next_word padding_schedule (16 + i))
    (at is_next (drop 16 padding_schedule) tt i h)

pub padding_schedule_lem : schedule padding_block ≡ padding_schedule
unfolding padding_schedule
padding_schedule_lem = schedule_of padding_block padding_schedule 48 (omega arith) refl word_is_next

-- the sums' table
sum_is : (i : ℕ) → i < 64 → get_or padding_sums i 0 ≡ get_or constants i 0 ⊞ get_or padding_schedule i 0
unfolding padding_sums
sum_is i h = get_d_table (λ i. get_or constants i 0 ⊞ get_or padding_schedule i 0) 64 i h

-- the rounds of the padding block, with the sums as constants and no schedule
pub padding_rounds : (h : List ℕ) → rounds padding_sums [] h 64 ≡ rounds constants (schedule padding_block) h 64
padding_rounds h = rw padding_schedule_lem (rounds_sums padding_sums constants padding_schedule h 64 sum_is)

-- the padding of 64 bytes
padding : List ℕ
padding = 128 ∷ (replicate (zero_bytes 64) 0 ++ table (length_byte 512) 8)

pad_64 : (m : List ℕ) → length m ≡ 64 → pad m ≡ m ++ padding
unfolding pad padding
pad_64 m e = rw e

padding_words : block_at padding 0 ≡ padding_block
unfolding padding table
padding_words = refl

padding_at : (m : List ℕ) → length m ≡ 64 → (i : ℕ) → get_or (pad m) (64 + i) 0 ≡ get_or padding i 0
padding_at m e i = rw (pad_64 m e, ← e) (get_or-append-add m padding i 0)

second_block : (m : List ℕ) → length m ≡ 64 → block_at (pad m) 64 ≡ padding_block
second_block m e =
    table_ext (λ i. word_at (pad m) (64 + 4 * i)) (λ i. word_at padding (0 + 4 * i)) 16
    (λ i l.
    let a : 64 + 4 * i ≡ 64 + (0 + 4 * i) = omega arith in
    let b : 64 + 4 * i + 1 ≡ 64 + (0 + 4 * i + 1) = omega arith in
    let c : 64 + 4 * i + 2 ≡ 64 + (0 + 4 * i + 2) = omega arith in
    let d : 64 + 4 * i + 3 ≡ 64 + (0 + 4 * i + 3) = omega arith in
    rw (
      d,
      c,
      b,
      a,
      padding_at m e (0 + 4 * i),
      padding_at m e (0 + 4 * i + 1),
      padding_at m e (0 + 4 * i + 2),
      padding_at m e (0 + 4 * i + 3),
    ))
    ∙ padding_words

-- SHA-256 of 64 bytes
pub sha256_of_64 : (m : List ℕ) → length m ≡ 64
    → sha256 m ≡ digest (compress (compress initial (block_at m 0)) padding_block)
unfolding sha256 hash_value
sha256_of_64 m e =
    let f : length (pad m) ≡ 128 = omega (arith, pad_length m) in
    rw (f, second_block m e, pad_block m 0 (omega arith))
