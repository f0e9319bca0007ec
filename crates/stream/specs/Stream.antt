-- The commitment of bytes that arrive in pieces (document 02, request (i)).
use Rattle.std.specs.Prelude.{ℕ, zero, suc, ◌+◌, ◌-◌, ◌*◌, ◌/◌, ◌%◌, ◌^◌, List, [], ◌∷◌, ◌++◌, length, take, set}
use Rattle.std.specs.Prelude.{replicate, eqb, ltb, Result}
use Rattle.rules.specs.declared.Refusal.{Refusal}
use Rattle.rules.specs.Answers.{answered}
use Rattle.rules.specs.Choice.{choose}
use Rattle.rules.specs.Refusals.{rule, first_refusal, unless_refused}
use Rattle.octets.specs.Splice.{part, splice}
use Rattle.pow2.specs.Power.{power_between, height}
use Rattle.node.specs.Node.{node_hash}
use Rattle.merkle.specs.Tree.{commitment_of}
use Rattle.stray.specs.StrayBits.{clear_node, no_stray_bits}
use Rattle.stream.specs.declared.Stream.{Stream}
use Rattle.stream.specs.declared.Ended.{Ended}

-- a code, and beside it the commitment and the number of the bytes
pub record Streamed : Type 0 where
  pub code : ℕ
  pub node : List ℕ
  pub count : ℕ

-- the largest number of bytes
abbrev pub largest : ℕ
largest = 2 ^ 36

-- with a refusal the count is 0 and the commitment 32 zero bytes
abbrev pub refused : ℕ → Streamed
refused code = record { code = code; node = replicate 32 0; count = 0 }

-- What all the bytes together get: 11 where a whole node within the first 2^36 bytes has stray bits, else 2 where their
-- number is no power of two from 32 to 2^36, else their commitment and their number. 32 bytes are 2 ^ 5
unfoldable pub streamed : List ℕ → Streamed
streamed bytes =
    unless_refused (first_refusal (
    rule (no_stray_bits (take largest bytes)) 11 ∷
    rule (power_between 32 largest (length bytes)) 2 ∷ []))
    refused
    (record { code = 0; node = commitment_of (height (length bytes) - 5) bytes; count = length bytes })

-- a new start: no byte taken, no node waiting
abbrev pub started : Stream
started = record { code = 0; count = 0; partial = replicate 32 0; waiting = replicate 1024 0 }

-- a code that sticks until a new start
abbrev pub failed_with : ℕ → Stream
failed_with code = record { code = code; count = 0; partial = replicate 32 0; waiting = replicate 1024 0 }

-- The waiting nodes, one for each height, after one more node of a height that has k nodes already. Where k is even the
-- node waits. Where it is odd, the one that waits is its left neighbour: their node hash is one more node of the next
-- height, which has k / 2. The first number is how many heights are left.
unfoldable pub with_node : ℕ → ℕ → ℕ → List ℕ → List ℕ → List ℕ
with_node zero h k node waiting = waiting
with_node (suc left) h k node waiting =
    choose (eqb (k % 2) 0)
    (splice waiting (32 * h) node)
    (with_node left (suc h) (k / 2) (node_hash (part waiting (32 * h) 32 ++ node)) waiting)

-- the state with a count of bytes, of which the partial node holds the last ones: once it is whole, it is judged and
-- goes to the waiting ones
abbrev pub counted : ℕ → List ℕ → List ℕ → Stream
counted count partial waiting =
    choose (eqb (count % 32) 0)
    (choose (clear_node partial)
    (record { code = 0; count = count; partial = partial; waiting = with_node 32 0 (count / 32 - 1) partial waiting })
    (failed_with 11))
    (record { code = 0; count = count; partial = partial; waiting = waiting })

-- the state after one more byte
unfoldable pub take_byte : Stream → ℕ → Stream
take_byte s b =
    choose (eqb s.code 0)
    (choose (ltb s.count largest)
    (counted (s.count + 1) (set s.partial (s.count % 32) b) s.waiting)
    (failed_with 2))
    s

-- the state after a piece of bytes
unfoldable pub take_piece : Stream → List ℕ → Stream
take_piece s [] = s
take_piece s (b ∷ bs) = take_piece (take_byte s b) bs

-- the code that a state stands for: 11 and 0 are its own, any other counts as 2, also in a state that was never handed
-- out
abbrev pub lasting_code : ℕ → ℕ
lasting_code code = choose (eqb code 0) 0 (choose (eqb code 11) 11 2)

-- The answer at the end
unfoldable pub ending : Stream → Streamed
ending s =
    unless_refused (first_refusal (
    rule (eqb s.code 0) (lasting_code s.code) ∷
    rule (power_between 32 largest s.count) 2 ∷ []))
    refused
    (record { code = 0; node = part s.waiting (32 * (height s.count - 5)) 32; count = s.count })

-- the answer that a result stands for
abbrev pub ended_answer : Result Ended Refusal → Streamed
ended_answer = answered (λ e. record { code = 0; node = e.node; count = e.count }) refused

-- the state after several pieces, each state handed on as it came back
unfoldable pub take_pieces : Stream → List (List ℕ) → Stream
take_pieces s [] = s
take_pieces s (p ∷ ps) = take_pieces (take_piece s p) ps

-- all the bytes of several pieces
unfoldable pub together : List (List ℕ) → List ℕ
together [] = []
together (p ∷ ps) = p ++ together ps
