-- What code 0 says of the two routines.
use Rattle.std.specs.Prelude.{◌≡◌, ℕ, zero, suc, ◌≤◌, true, List, length, refl}
use Rattle.std.proofs.Math.Path.{sym}
use Rattle.std.proofs.Common.{ap, ◌∙◌}
use native.Mathlib.Omega.{arith}
use borrow.Author.Tests.{leb-true, le-leb}
use Rattle.rules.specs.Refusals.{unless_refused}
use Rattle.rules.specs.RefusalLaws.{none_refused, all_passed}
use Rattle.octets.specs.Splice.{part, splice}
use Rattle.octets.specs.SpliceLaws.{part_written}
use Rattle.fr32.specs.Padding.{raw_length_allowed, segment_length, padded, only_raw_bits}
use Rattle.fr32.specs.PaddingLaws.{length_padded}
use Rattle.fr32.specs.Answers.{Written, refused, written}
use Rattle.fr32.specs.Answers.{pad_rules, pad_code, pad_answer, pad_output, unpad_answer}
use Rattle.fr32.specs.Answers.{unpad_output}

-- the bytes that a routine wrote
abbrev written_bytes : Written → List ℕ → List ℕ
written_bytes answer output = part output 0 answer.length

-- what `pad` wrote, and what `unpad` wrote
abbrev pub pad_written : List ℕ → List ℕ → List ℕ
pad_written raw output = written_bytes (pad_answer raw output) (pad_output raw output)

abbrev pub unpad_written : ℕ → List ℕ → List ℕ → List ℕ
unpad_written n segment output = written_bytes (unpad_answer n segment output) (unpad_output n segment output)

-- an answer has the code that was worked out
pub answer_code : (code n : ℕ) → (unless_refused code refused (written n)).code ≡ code
answer_code zero n = refl
answer_code (suc code) n = refl

-- where nothing is refused, the bytes of s are written
pub all_written : (code n : ℕ) (output s : List ℕ) → code ≡ 0 → length s ≡ n → n ≤ length output
    → written_bytes (unless_refused code refused (written n)) (unless_refused code (λ c. output) (splice output 0 s))
    ≡ s
all_written code n output s e l h =
    ap
    (λ (c : ℕ). written_bytes (unless_refused c refused (written n))
    (unless_refused c (λ d. output) (splice output 0 s)))
    e
    ∙ ap (part (splice output 0 s) 0) (sym l)
    ∙ part_written output 0 s (omega arith)

module _ (raw output : List ℕ) where
  -- all that is asked inward
  pub record PadAllowed : Type 0 where
    pub raw_length : raw_length_allowed (length raw) ≡ true
    pub room : segment_length (length raw) ≤ length output

  pub pad_allowed : (pad_answer raw output).code ≡ 0 → PadAllowed
  unfolding pad_code
  pad_allowed e =
      let code = sym (answer_code (pad_code raw output) (segment_length (length raw))) ∙ e in
      let p = none_refused (pad_rules raw output) (omega arith, (omega arith, tt)) code in
      record { raw_length = p.0; room = leb-true (segment_length (length raw)) (length output) p.1.0 }

  pub pad_passes : PadAllowed → pad_code raw output ≡ 0
  unfolding pad_code
  pad_passes a =
      all_passed (pad_rules raw output) (
        a.raw_length,
        (le-leb (segment_length (length raw)) (length output) a.room, tt),
      )

  pub pad_answers : PadAllowed → pad_answer raw output ≡ written (segment_length (length raw))
  pad_answers a = ap (λ (c : ℕ). unless_refused c refused (written (segment_length (length raw)))) (pad_passes a)

  pub pad_writes : PadAllowed → pad_written raw output ≡ padded raw
  pad_writes a =
      all_written (pad_code raw output) (segment_length (length raw)) output (padded raw) (pad_passes a)
      (length_padded raw) a.room

module _ (n : ℕ) (segment output : List ℕ) where
  -- all that is asked outward
  pub record UnpadAllowed : Type 0 where
    pub raw_length : raw_length_allowed n ≡ true
    pub sized : length segment ≡ segment_length n
    pub only_raw : only_raw_bits n segment ≡ true
    pub room : n ≤ length output
