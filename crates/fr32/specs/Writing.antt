-- What a string is told by: its words of eight bytes, and its bytes, each as a routine gives it.
use Rattle.std.specs.Prelude.{◌≡◌, ℕ, ◌*◌, ◌<◌, List, get_or}
use Rattle.octets.specs.LittleEndian.{bytes_of}
use Rattle.octets.specs.Splice.{part}

-- each answer for one of the first n words is that word
abbrev pub GivesWords : (ℕ → ℕ → Type 0) → ℕ → List ℕ → Type 0
GivesWords gives n s = (w x : ℕ) → w < n → gives w x → bytes_of 8 x ≡ part s (8 * w) 8

-- each answer for one of the first n bytes is that byte
abbrev pub GivesBytes : (ℕ → ℕ → Type 0) → ℕ → List ℕ → Type 0
GivesBytes gives n s = (q x : ℕ) → q < n → gives q x → x ≡ get_or s q 0
