-- Lists of numbers that are bytes.
use Rattle.std.specs.Prelude.{ℕ, zero, suc, ◌<◌, List, [], ◌∷◌, ◌++◌, length, take, drop, get_or}
use Rattle.std.proofs.Common.{arith}
use Rattle.std.specs.Int.{w8}
use mir.Val.{Val, Fits}
use denote.Array.{each}
use denote.Plain.{UInt}
use denote.Shadow.{shadow}

-- every element is a byte
abbrev pub Bytes : List ℕ → Type 0
Bytes [] = Unit {0}
Bytes (x ∷ xs) = (x < 256) × Bytes xs

-- from what is known of each element of a lent slice
pub bytes_of_lem : (xs : List ℕ) → ((i : ℕ) → i < length xs → get_or xs i 0 < 256) → Bytes xs
bytes_of_lem [] f = tt
bytes_of_lem (x ∷ xs) f = (f 0 (omega arith), bytes_of_lem xs (λ i h. f (suc i) (omega arith)))

-- from what is known of a lent slice: each element fits its width
pub bytes_of_slice : (xs : List ℕ) → ((i : ℕ) → Fits w8 (get_or xs i 0)) → Bytes xs
bytes_of_slice xs f = bytes_of_lem xs (λ i h. (f i).fits)

-- from what owning an array of bytes tells
pub bytes_of_array : (xs : List ℕ) (us : List Val) → shadow (each ℕ (UInt w8).own_val xs us) → Bytes xs
bytes_of_array [] us h = tt
bytes_of_array (x ∷ xs) [] h = absurd h
bytes_of_array (x ∷ xs) (u ∷ us) h = (h.0.1, bytes_of_array xs us h.1)

pub bytes_take : (n : ℕ) (xs : List ℕ) → Bytes xs → Bytes (take n xs)
bytes_take zero xs h = tt
bytes_take (suc n) [] h = tt
bytes_take (suc n) (x ∷ xs) h = (h.0, bytes_take n xs h.1)

pub bytes_drop : (n : ℕ) (xs : List ℕ) → Bytes xs → Bytes (drop n xs)
bytes_drop zero xs h = h
bytes_drop (suc n) [] h = tt
bytes_drop (suc n) (x ∷ xs) h = bytes_drop n xs h.1

pub bytes_append : (xs ys : List ℕ) → Bytes xs → Bytes ys → Bytes (xs ++ ys)
bytes_append [] ys h k = k
bytes_append (x ∷ xs) ys h k = (h.0, bytes_append xs ys h.1 k)
