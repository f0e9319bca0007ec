-- The calls of a stream over a lent state (include/vizhuthamen.h): what they answer, and the state that they leave. A
-- state of another length than 1,072 bytes is refused with 12 and stays.
use Rattle.std.specs.Prelude.{ℕ, List, [], ◌∷◌, length, eqb}
use Rattle.rules.specs.Choice.{choose}
use Rattle.stream.specs.Stream.{take_piece, lasting_code}
use Rattle.stream.specs.Packed.{packed_length, unpacked, packed_start, packed_take, packed_end}
use Rattle.vizhuthamen.specs.Export.{lent_code}

-- vz_stream_new
abbrev pub new_code : List ℕ → ℕ
new_code state = lent_code packed_length state 0

abbrev pub new_state : List ℕ → List ℕ
new_state state = choose (eqb (length state) packed_length) packed_start state

-- vz_stream_take: the code is the state's own, and the state is written with each of them
abbrev pub taken_code : List ℕ → List ℕ → ℕ
taken_code state piece = lent_code packed_length state (lasting_code (take_piece (unpacked state) piece).code)

abbrev pub taken_state : List ℕ → List ℕ → List ℕ
taken_state state piece = choose (eqb (length state) packed_length) (packed_take state piece) state

-- vz_stream_end, with a lent node
abbrev pub end_code : List ℕ → List ℕ → ℕ
end_code state node = lent_code packed_length state (lent_code 32 node (packed_end state).code)

-- the state after several calls of vz_stream_take, each with the bytes as the one before left them
unfoldable pub taken_states : List ℕ → List (List ℕ) → List ℕ
taken_states state [] = state
taken_states state (p ∷ ps) = taken_states (taken_state state p) ps
