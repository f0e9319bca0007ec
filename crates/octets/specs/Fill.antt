-- A byte string filled with zeros (document 02, request (iii): the zero trailer).
use Rattle.std.specs.Prelude.{ℕ, ◌-◌, List, ◌++◌, length, replicate}

-- the string, and zeros after it up to n bytes; a string of n bytes or more stays as it is
unfoldable pub zero_filled : ℕ → List ℕ → List ℕ
zero_filled n xs = xs ++ replicate (n - length xs) 0
