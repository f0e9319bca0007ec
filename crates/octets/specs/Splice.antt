-- A part of a byte string, and a string with one part replaced.
use Rattle.std.specs.Prelude.{ℕ, ◌+◌, List, ◌++◌, length, take, drop}

-- the n bytes that start at a place
unfoldable pub part : List ℕ → ℕ → ℕ → List ℕ
part d at n = take n (drop at d)

-- the string with other bytes written from a place on, all else as it was
unfoldable pub splice : List ℕ → ℕ → List ℕ → List ℕ
splice d at s = take at d ++ s ++ drop (at + length s) d
