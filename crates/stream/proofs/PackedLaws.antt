-- The parts of a packed state, read and written one after the other.
use mathlib.Core.Path.{◌≡◌, sym, ap, ◌∙◌}
use Prim.Native.Nat.{ℕ}
use native.Mathlib.Omega.{arith}
use mathlib.Core.List.{List, ◌∷◌, ◌++◌, append_assoc}
use lib.ListN.{length, replicate, length-append}
use Rattle.octets.specs.LittleEndian.{bytes_of}
use Rattle.octets.specs.LittleEndianLaws.{length_bytes_of}
use Rattle.octets.specs.Splice.{splice}
use Rattle.octets.specs.SpliceLaws.{splice_whole, splice_append}
use Rattle.stream.specs.declared.Stream.{Stream}
use Rattle.stream.specs.Packed.{packed_length, packed}

pub packed_written : (s : Stream) (before one two three four : List ℕ) → length before ≡ packed_length
    → length s.partial ≡ 32 → length s.waiting ≡ 1024
    → one ≡ splice before 0 (bytes_of 8 s.count)
    → two ≡ splice one 8 (s.code ∷ replicate 7 0)
    → three ≡ splice two 16 s.partial
    → four ≡ splice three 48 s.waiting
    → four ≡ packed s
unfolding packed
packed_written s before one two three four l lp lw a b c d =
    let n = bytes_of 8 s.count in
    let k = s.code ∷ replicate 7 0 in
    let ln = length_bytes_of 8 s.count in
    let lnk : length (n ++ k) ≡ 16 = length-append n k ∙ omega arith in
    let lnkp : length ((n ++ k) ++ s.partial) ≡ 48 = length-append (n ++ k) s.partial ∙ omega arith in
    let b' : two ≡ splice before 0 (n ++ k) =
    b ∙ ap (λ (x : List ℕ). splice x 8 k) a ∙ splice_append before 0 8 n k (omega arith) (omega arith) in
    let c' : three ≡ splice before 0 ((n ++ k) ++ s.partial) =
    c
    ∙ ap (λ (x : List ℕ). splice x 16 s.partial) b'
    ∙ splice_append before 0 16 (n ++ k) s.partial (omega arith) (omega arith) in
    d
    ∙ ap (λ (x : List ℕ). splice x 48 s.waiting) c'
    ∙ splice_append before 0 48 ((n ++ k) ++ s.partial) s.waiting (omega arith) (omega arith)
    ∙ splice_whole before (((n ++ k) ++ s.partial) ++ s.waiting)
    (sym (length-append ((n ++ k) ++ s.partial) s.waiting ∙ omega arith))
    ∙ append_assoc (n ++ k) s.partial s.waiting
    ∙ append_assoc n k (s.partial ++ s.waiting)
