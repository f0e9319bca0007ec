-- Raw bytes go there and back unchanged by the two routines, and each accepted segment comes back from its raw bytes
-- (document 02, request (iv)).
use Rattle.std.specs.Prelude.{◌≡◌, ℕ, ◌≤◌, List, length}
use Rattle.std.proofs.Common.{sym, ap, ◌∙◌}
use Rattle.octets.specs.Bytes.{Bytes}
use Rattle.fr32.specs.Padding.{segment_length, padded, unpadded}
use Rattle.fr32.specs.UnpaddingLaws.{length_unpadded}
use Rattle.fr32.specs.Answers.{written, pad_answer, unpad_answer}
use Rattle.fr32.specs.AnswerLaws.{pad_written, unpad_written, PadAllowed, pad_allowed, pad_answers, pad_writes}
use Rattle.fr32.specs.AnswerLaws.{UnpadAllowed}
use Rattle.fr32.specs.ThereAndBack.{there_and_back, back_and_there}
use Rattle.fr32.proofs.UnpadAnswerLaws.{unpad_allowed, unpad_answers, unpad_writes}

-- What `pad` wrote with code 0, `unpad` takes with code 0, given room, and writes the
-- raw bytes.
pub raw_returns : (raw output back : List ℕ) → Bytes raw → (pad_answer raw output).code ≡ 0 → length raw ≤ length back
    → (unpad_answer (length raw) (pad_written raw output) back ≡ written (length raw))
    × (unpad_written (length raw) (pad_written raw output) back ≡ raw)
raw_returns raw output back h e r =
    let n = length raw in
    let a = pad_allowed raw output e in
    let t = there_and_back raw h in
    let u : UnpadAllowed n (padded raw) back =
    record { raw_length = a.raw_length; sized = t.0; only_raw = t.1; room = r } in
    rw (pad_writes raw output a) (unpad_answers n (padded raw) back u, unpad_writes n (padded raw) back u ∙ t.2)

-- What `unpad` wrote with code 0, `pad` takes with code 0, given room, and writes the segment.
pub segment_returns : (n : ℕ) (segment output back : List ℕ) → Bytes segment → (unpad_answer n segment output).code ≡ 0
    → length segment ≤ length back
    → (pad_answer (unpad_written n segment output) back ≡ written (length segment))
    × (pad_written (unpad_written n segment output) back ≡ segment)
segment_returns n segment output back h e r =
    let u = unpad_allowed n segment output e in
    let raw = unpadded n segment in
    let l : length raw ≡ n = length_unpadded n segment in
    let sized : segment_length (length raw) ≡ length segment = ap (λ (k : ℕ). segment_length k) l ∙ sym u.sized in
    let a : PadAllowed raw back = record { raw_length = rw l u.raw_length; room = rw sized r } in
    rw (unpad_writes n segment output u) (
      pad_answers raw back a ∙ ap written sized,
      pad_writes raw back a ∙ back_and_there n segment h u.sized u.only_raw,
    )
