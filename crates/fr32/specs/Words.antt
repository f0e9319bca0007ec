-- Words of eight bytes, by which whole nodes are padded and unpadded.
use Rattle.std.specs.Prelude.{ℕ, ◌+◌, ◌*◌, ◌/◌, ◌%◌, ◌^◌, List}
use Rattle.octets.specs.LittleEndian.{number_of}
use Rattle.octets.specs.Splice.{part}

-- the word at a place
abbrev pub word_at : List ℕ → ℕ → ℕ
word_at xs at = number_of (part xs at 8)

-- the 64 bits of two words from bit s of the low one on
abbrev pub across_words : ℕ → ℕ → ℕ → ℕ
across_words low high s = (low + 2 ^ 64 * high) / 2 ^ s % 2 ^ 64

-- the same where the low word is the last of a node and has 62 data bits
abbrev pub across_nodes : ℕ → ℕ → ℕ → ℕ
across_nodes low high s = (low % 2 ^ 62 + 2 ^ 62 * high) / 2 ^ s % 2 ^ 64
