-- Fr32 padding in pieces, the zero trailer included (document 02, requests (iii) and (iv)): of the filled segment of a
-- raw archive the 128 b bytes after the first 128 c are the segment of the 127 b raw bytes after the first 127 c,
-- filled with zeros in its turn. So a last piece that is shorter, and the zeros after it, need no case of their own.
use Rattle.std.specs.Prelude.{◌≡◌, ℕ, ◌+◌, ◌-◌, ◌*◌, ◌≤◌, Bool, true, false, List, [], ◌∷◌, ◌++◌, length, take, drop}
use Rattle.std.specs.Prelude.{replicate, nat_le, refl}
use Rattle.std.proofs.Math.Path.{sym, ap}
use Rattle.std.proofs.Common.{◌∙◌, arith, append-nil, drop_of_length-le, take-append-drop, take_all, drop_at}
use Rattle.std.proofs.Common.{length-take-le, leb-true, leb-false, le-leb}
use Rattle.std.proofs.Math.ListN.{length-drop}
use Rattle.std.proofs.lemmas.List.{length-replicate}
use Rattle.std.proofs.Math.Seq.{take-nil, take_at}
use Rattle.rules.specs.Refusals.{unless_refused}
use Rattle.rules.specs.RefusalLaws.{and_both}
use Rattle.octets.specs.Bytes.{Bytes, bytes_take, bytes_drop}
use Rattle.octets.specs.Splice.{part, splice}
use Rattle.octets.specs.Fill.{zero_filled}
use Rattle.octets.specs.FillLaws.{filled_inside, filled_end, filled_same, filled_after, splice_zeros}
use Rattle.fr32.specs.Padding.{segment_length, padded}
use Rattle.fr32.specs.PaddingLaws.{length_padded}
use Rattle.fr32.specs.Answers.{pad_code, pad_output}
use Rattle.fr32.specs.AnswerLaws.{PadAllowed, pad_passes}
use Rattle.fr32.specs.InPieces.{padded_append}

-- a string that has the length already gets no zeros
filled_already : (n : ℕ) (xs : List ℕ) → length xs ≡ n → zero_filled n xs ≡ xs
unfolding zero_filled
filled_already n xs e =
    let z : n - length xs ≡ 0 = omega arith in ap (λ (k : ℕ). xs ++ replicate k 0) z ∙ append-nil xs

-- no raw bytes: nothing, filled with zeros
none_filled : (n : ℕ) → zero_filled n (padded []) ≡ replicate n 0
unfolding zero_filled padded
none_filled n = let z : n - 0 ≡ n = omega arith in ap (λ (k : ℕ). replicate k 0) z

-- b blocks of 127 raw bytes and then others
module _ (raw : List ℕ) (bytes : Bytes raw) (b : ℕ) (enough : 127 * b ≤ length raw) where
  abbrev first : List ℕ
  first = take (127 * b) raw

  first_length : length first ≡ 127 * b
  first_length = length-take-le (127 * b) raw enough

  pub first_segment : length (padded first) ≡ 128 * b
  first_segment = length_padded first ∙ ap (λ (n : ℕ). segment_length n) first_length ∙ omega arith

  pub two_segments : padded raw ≡ padded first ++ padded (drop (127 * b) raw)
  two_segments =
      ap padded (sym (take-append-drop (127 * b) raw))
      ∙ padded_append first (drop (127 * b) raw) (bytes_take (127 * b) raw bytes) (omega (arith, first_length))

module _ (raw : List ℕ) (bytes : Bytes raw) (n c b : ℕ) (room : 128 * c + 128 * b ≤ n) where
  -- the raw bytes, and the part of the filled segment
  abbrev piece : List ℕ
  piece = part raw (127 * c) (127 * b)

  abbrev Law : Type 0
  Law = part (zero_filled n (padded raw)) (128 * c) (128 * b) ≡ zero_filled (128 * b) (padded piece)

  length_raw : length (padded raw) ≡ segment_length (length raw)
  length_raw = length_padded raw

  -- no raw bytes are left
  past : length raw ≤ 127 * c → Law
  unfolding part
  past h =
      filled_after n (padded raw) (128 * c) (128 * b) (omega (arith, length_raw)) room
      ∙ sym (none_filled (128 * b))
      ∙ ap (λ (p : List ℕ). zero_filled (128 * b) (padded p))
      (sym (ap (take (127 * b)) (drop_of_length-le raw h) ∙ take-nil (127 * b)))

  module _ (some : 127 * c ≤ length raw) where
    abbrev rest : List ℕ
    rest = drop (127 * c) raw

    rest_segment : drop (128 * c) (padded raw) ≡ padded rest
    rest_segment =
        ap (drop (128 * c)) (two_segments raw bytes c some)
        ∙ drop_at (padded (take (127 * c) raw)) (padded rest) (128 * c) (first_segment raw bytes c some)

    -- enough for the piece
    whole : 127 * b ≤ length rest → Law
    unfolding part
    whole h =
        let r = bytes_drop (127 * c) raw bytes in
        let l = first_segment rest r b h in
        filled_inside n (padded raw) (128 * c) (128 * b) (omega (arith, length_raw, length-drop (127 * c) raw))
        ∙ ap (take (128 * b)) (rest_segment ∙ two_segments rest r b h)
        ∙ take_at (padded piece) (padded (drop (127 * b) rest)) (128 * b) l
        ∙ sym (filled_already (128 * b) (padded piece) l)

    -- the last piece
    short : length rest ≤ 127 * b → Law
    unfolding part
    short h =
        let l = length-drop (127 * c) raw in
        filled_same n (128 * c + 128 * b) (padded raw) (128 * c) (128 * b) room (omega arith)
        ∙ filled_end (padded raw) (128 * c) (128 * b) (omega (arith, length_raw)) (omega (arith, length_raw))
        ∙ ap (zero_filled (128 * b)) (rest_segment ∙ ap padded (sym (take_all (127 * b) rest h)))

    left : Law
    left = by (nat_le (127 * b) (length rest)) refl
      where
        by : (t : Bool) → nat_le (127 * b) (length rest) ≡ t → Law
        by true e = whole (leb-true (127 * b) (length rest) e)
        by false e = short (omega (arith, leb-false (127 * b) (length rest) e))

  pub filled_piece : part (zero_filled n (padded raw)) (128 * c) (128 * b)
      ≡ zero_filled (128 * b) (padded (part raw (127 * c) (127 * b)))
  filled_piece = by (nat_le (127 * c) (length raw)) refl
    where
      by : (t : Bool) → nat_le (127 * c) (length raw) ≡ t → Law
      by true e = left (leb-true (127 * c) (length raw) e)
      by false e = past (omega (arith, leb-false (127 * c) (length raw) e))

-- The routine: raw bytes that are padded into zeros leave the filled segment. Where there are no raw bytes it refuses,
-- and the zeros stay.
module _ (raw : List ℕ) (n : ℕ) (short : length raw ≤ 8323072) (fits : segment_length (length raw) ≤ n) where
  abbrev zeros : List ℕ
  zeros = replicate n 0

  some_bytes : 1 ≤ length raw → pad_output raw zeros ≡ zero_filled n (padded raw)
  some_bytes h =
      let allowed : PadAllowed raw zeros = record {
        raw_length = and_both (nat_le 1 (length raw)) (nat_le (length raw) 8323072) (le-leb 1 (length raw) h)
            (le-leb (length raw) 8323072 short);
        room = rw length-replicate fits;
      } in
      ap (λ (c : ℕ). unless_refused c (λ code. zeros) (splice zeros 0 (padded raw))) (pad_passes raw zeros allowed)
      ∙ splice_zeros n (padded raw)

  no_bytes : raw ≡ [] → pad_output raw zeros ≡ zero_filled n (padded raw)
  unfolding pad_code
  no_bytes e = ap (λ (r : List ℕ). pad_output r zeros) e ∙ sym (none_filled n)
      ∙ ap (λ (r : List ℕ). zero_filled n (padded r)) (sym e)

  pub padded_into_zeros : pad_output raw zeros ≡ zero_filled n (padded raw)
  padded_into_zeros = by raw refl
    where
      by : (r : List ℕ) → raw ≡ r → pad_output raw zeros ≡ zero_filled n (padded raw)
      by [] e = no_bytes e
      by (x ∷ xs) e = some_bytes (rw e (omega arith))
