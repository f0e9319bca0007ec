-- The bytes of a number with the least significant first; four bytes as such a number, whose bytes are then exchanged,
-- are a word of FIPS 180-4.
use Rattle.std.specs.Prelude.{◌≡◌, ℕ, ◌+◌, ◌*◌, ◌/◌, ◌%◌, ◌^◌, ◌<◌}
use Rattle.std.proofs.Common.{arith}
use Rattle.sha256.specs.Fips.{word}

low_byte : (a above n : ℕ) → a < 256 → n ≡ a + above * 256 → n % 256 ≡ a
low_byte a above n h e = omega arith

pub bytes_of_number : (a b c d n : ℕ) → a < 256 → b < 256 → c < 256 → d < 256
    → n ≡ a + b * 2 ^ 8 + c * 2 ^ 16 + d * 2 ^ 24
    → (n % 256 ≡ a) × (n / 2 ^ 8 % 256 ≡ b) × (n / 2 ^ 16 % 256 ≡ c) × (n / 2 ^ 24 ≡ d)
bytes_of_number a b c d n ha hb hc hd h = (
  low_byte a (b + c * 2 ^ 8 + d * 2 ^ 16) n ha (omega arith),
  low_byte b (c + d * 2 ^ 8) (n / 2 ^ 8) hb (omega arith),
  low_byte c d (n / 2 ^ 16) hc (omega arith),
  omega arith,
)

pub word_swapped : (a b c d n : ℕ) → a < 256 → b < 256 → c < 256 → d < 256
    → n ≡ a + b * 2 ^ 8 + c * 2 ^ 16 + d * 2 ^ 24
    → word (n % 256) (n / 2 ^ 8 % 256) (n / 2 ^ 16 % 256) (n / 2 ^ 24) ≡ word a b c d
word_swapped a b c d n ha hb hc hd h =
    let e = bytes_of_number a b c d n ha hb hc hd h in
    rw (e.0, e.1, e.2, e.3)
