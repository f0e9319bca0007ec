-- Document 02, request (i), for a caller in any language: vz_stream_new on 1,072 bytes, whatever they held;
-- vz_stream_take for each piece, on those bytes as the call before left them; then vz_stream_end. However the bytes
-- were cut, its code, commitment and count are those of the definition over all of them.
use Rattle.std.specs.Prelude.{◌≡◌, refl, List, [], ◌∷◌, ◌++◌, ℕ, length}
use Rattle.std.proofs.Common.{ap, ◌∙◌, eq-eqb}
use Rattle.stream.specs.declared.Stream.{Stream}
use Rattle.stream.specs.Stream.{streamed, started, take_piece, ending, take_pieces, together}
use Rattle.stream.specs.Packed.{packed_length, packed, packed_end}
use Rattle.stream.specs.PackedLaws.{Packable, unpack_packed, length_packed}
use Rattle.stream.specs.After.{After}
use Rattle.stream.specs.AfterLaws.{after_start, after_piece, after_pieces}
use Rattle.stream.specs.PackedAfterLaws.{packable, packed_take_lem}
use Rattle.stream.specs.CutAnywhere.{cut_anywhere}
use Rattle.vizhuthamen.specs.Export.{lent_output}
use Rattle.vizhuthamen.specs.StreamCalls.{new_state, taken_state, taken_states, end_code}

-- each call leaves the bytes of the state after its piece
taken : (bytes : List ℕ) (s : Stream) → After bytes s → (piece : List ℕ)
    → taken_state (packed s) piece ≡ packed (take_piece s piece)
taken bytes s a piece =
    rw (eq-eqb (length (packed s)) packed_length (length_packed s (packable bytes s a)))
    (packed_take_lem bytes s a piece)

handed_on : (bytes : List ℕ) (s : Stream) → After bytes s → (pieces : List (List ℕ))
    → taken_states (packed s) pieces ≡ packed (take_pieces s pieces)
unfolding taken_states take_pieces
handed_on bytes s a [] = refl
handed_on bytes s a (p ∷ pieces) =
    ap (λ (v : List ℕ). taken_states v pieces) (taken bytes s a p)
    ∙ handed_on (bytes ++ p) (take_piece s p) (after_piece bytes p s a) pieces

module _ (memory : List ℕ) (pieces : List (List ℕ)) (sized : length memory ≡ packed_length) where
  -- the bytes after all calls
  abbrev left : List ℕ
  left = taken_states (new_state memory) pieces

  left_is : left ≡ packed (take_pieces started pieces)
  left_is =
      ap (λ (v : List ℕ). taken_states v pieces) (rw (eq-eqb (length memory) packed_length sized))
      ∙ handed_on [] started after_start pieces

  fits : Packable (take_pieces started pieces)
  fits = packable (together pieces) (take_pieces started pieces) (after_pieces pieces)

  left_sized : length left ≡ packed_length
  left_sized = ap length left_is ∙ length_packed (take_pieces started pieces) fits

  ends : packed_end left ≡ streamed (together pieces)
  ends =
      ap packed_end left_is ∙ ap ending (unpack_packed (take_pieces started pieces) fits) ∙ cut_anywhere pieces

  -- what is answered then, with a lent node and a lent count
  pub calls_cut_anywhere : (node : List ℕ) (count : ℕ) → length node ≡ 32
      → let code = end_code left node in
      let answer = streamed (together pieces) in
      (code ≡ answer.code)
      × (lent_output code (packed_end left).node node ≡ lent_output answer.code answer.node node)
      × (lent_output code (packed_end left).count count ≡ lent_output answer.code answer.count count)
  calls_cut_anywhere node count l =
      rw (eq-eqb (length left) packed_length left_sized, eq-eqb (length node) 32 l, ends) (refl, refl, refl)
