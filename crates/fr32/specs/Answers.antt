-- What the public routines answer and write (document 02, request (iv)). The rest of the output stays; nothing changes
-- on a refusal.
use Rattle.std.specs.Prelude.{ℕ, List, [], ◌∷◌, length, ◌==◌, nat_le, Result}
use Rattle.rules.specs.declared.Refusal.{Refusal}
use Rattle.rules.specs.Answers.{answered}
use Rattle.rules.specs.Refusals.{Rule, rule, first_refusal, unless_refused}
use Rattle.octets.specs.Splice.{splice}
use Rattle.fr32.specs.Padding.{raw_length_allowed, segment_length, padded, unpadded, only_raw_bits}

-- a code, and the number of bytes written beside it
pub record Written : Type 0 where
  pub code : ℕ
  pub length : ℕ

abbrev pub refused : ℕ → Written
refused code = record { code = code; length = 0 }

abbrev pub written : ℕ → Written
written n = record { code = 0; length = n }

-- the answer that a result stands for
abbrev pub written_answer : Result ℕ Refusal → Written
written_answer = answered written refused

-- inward: 2, 12
abbrev pub pad_rules : List ℕ → List ℕ → List Rule
pad_rules raw output =
    rule (raw_length_allowed (length raw)) 2
    ∷ rule (nat_le (segment_length (length raw)) (length output)) 12
    ∷ []

unfoldable pub pad_code : List ℕ → List ℕ → ℕ
pad_code raw output = first_refusal (pad_rules raw output)

abbrev pub pad_answer : List ℕ → List ℕ → Written
pad_answer raw output = unless_refused (pad_code raw output) refused (written (segment_length (length raw)))

abbrev pub pad_output : List ℕ → List ℕ → List ℕ
pad_output raw output = unless_refused (pad_code raw output) (λ code. output) (splice output 0 (padded raw))

-- outward, with the raw length that the caller names: 2, 24, 11, 12
abbrev pub unpad_rules : ℕ → List ℕ → List ℕ → List Rule
unpad_rules n segment output =
    rule (raw_length_allowed n) 2
    ∷ rule (length segment == segment_length n) 24
    ∷ rule (only_raw_bits n segment) 11
    ∷ rule (nat_le n (length output)) 12
    ∷ []

unfoldable pub unpad_code : ℕ → List ℕ → List ℕ → ℕ
unpad_code n segment output = first_refusal (unpad_rules n segment output)

abbrev pub unpad_answer : ℕ → List ℕ → List ℕ → Written
unpad_answer n segment output = unless_refused (unpad_code n segment output) refused (written n)

abbrev pub unpad_output : ℕ → List ℕ → List ℕ → List ℕ
unpad_output n segment output =
    unless_refused (unpad_code n segment output) (λ code. output) (splice output 0 (unpadded n segment))
