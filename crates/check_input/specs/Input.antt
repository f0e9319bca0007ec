-- What the program answers for its input (document 01, "What is built"; document 02, request (ix): the number after D).
use Rattle.std.specs.Prelude.{ℕ, ◌+◌, List, [], ◌∷◌, length, take, drop, leb}
use Rattle.rules.specs.Refusals.{rule, first_refusal, unless_refused}
use Rattle.octets.specs.LittleEndian.{number_of}
use Rattle.octets.specs.Splice.{part}
use Rattle.record.specs.Check.{deal_terms, check_of}

-- a commitment of 32 bytes, D in 8 bytes, the deal's number in 8 bytes, and a record of at most 4,096 bytes
unfoldable pub check_input : List ℕ → ℕ
check_input input =
    unless_refused
    (first_refusal (rule (leb 32 (length input)) 1 ∷ rule (leb 48 (length input)) 2 ∷ rule
    (leb (length input) (48 + 4096)) 3 ∷ []))
    (λ code. code)
    (check_of (deal_terms (take 32 input) (number_of (part input 32 8)) (number_of (part input 40 8))) (drop 48 input))
