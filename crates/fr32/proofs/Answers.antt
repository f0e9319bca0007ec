-- The answers of `pad` and `unpad` by the tests on the way: one law for each answer of the code.
use Rattle.std.proofs.Common.{◌≡◌, ℕ, ◌<◌, ◌≤◌, true, false, leb, List, length, ◌∙◌, eq-eqb, ne_eqb, le-leb, leb-true}
use borrow.Author.Tests.{lt-leb}
use Rattle.rules.specs.RefusalLaws.{and_right}
use Rattle.octets.specs.Splice.{splice}
use Rattle.fr32.specs.Padding.{raw_length_allowed, segment_length, padded, unpadded, only_raw_bits}
use Rattle.fr32.specs.Answers.{Written, refused, written, pad_code, pad_answer, pad_output, unpad_code, unpad_answer}
use Rattle.fr32.specs.Answers.{unpad_output}

pub largest_raw : (n : ℕ) → raw_length_allowed n ≡ true → n ≤ 8323072
largest_raw n e = leb-true n 8323072 (and_right (leb 1 n) (leb n 8323072) e)

module _ (raw output : List ℕ) where
  -- an answer, and what the output holds afterwards
  abbrev PadAnswered : Written → List ℕ → Type 0
  PadAnswered answer after = (answer ≡ pad_answer raw output) × (after ≡ pad_output raw output)

  module _ {answer : Written} where
    pub pad_length_refused : answer ≡ refused 2 → raw_length_allowed (length raw) ≡ false → PadAnswered answer output
    unfolding pad_code
    pad_length_refused a t = (a ∙ rw t, rw t)

    pub pad_output_short : answer ≡ refused 12 → raw_length_allowed (length raw) ≡ true
        → length output < segment_length (length raw) → PadAnswered answer output
    unfolding pad_code
    pad_output_short a t h = let k = lt-leb (segment_length (length raw)) (length output) h in
        (a ∙ rw (t, k), rw (t, k))

    pub pad_done : {after : List ℕ} → answer ≡ written (segment_length (length raw))
        → raw_length_allowed (length raw) ≡ true → segment_length (length raw) ≤ length output
        → after ≡ splice output 0 (padded raw) → PadAnswered answer after
    unfolding pad_code
    pad_done a t h e = let k = le-leb (segment_length (length raw)) (length output) h in (a ∙ rw (t, k), e ∙ rw (t, k))

module _ (n : ℕ) (segment output : List ℕ) where
  abbrev UnpadAnswered : Written → List ℕ → Type 0
  UnpadAnswered answer after = (answer ≡ unpad_answer n segment output) × (after ≡ unpad_output n segment output)

  module _ {answer : Written} where
    pub unpad_length_refused : answer ≡ refused 2 → raw_length_allowed n ≡ false → UnpadAnswered answer output
    unfolding unpad_code
    unpad_length_refused a t = (a ∙ rw t, rw t)

    -- with a raw length that is allowed
    module _ (t : raw_length_allowed n ≡ true) where
      pub segment_refused : answer ≡ refused 24 → (length segment ≡ segment_length n → ⊥) → UnpadAnswered answer output
      unfolding unpad_code
      segment_refused a s = let l = ne_eqb (length segment) (segment_length n) s in (a ∙ rw (t, l), rw (t, l))

      -- and a segment of the length that it gives
      module _ (s : length segment ≡ segment_length n) where
        pub bits_refused : answer ≡ refused 11 → only_raw_bits n segment ≡ false → UnpadAnswered answer output
        unfolding unpad_code
        bits_refused a o = let l = eq-eqb (length segment) (segment_length n) s in (a ∙ rw (t, l, o), rw (t, l, o))

        pub unpad_output_short : answer ≡ refused 12 → only_raw_bits n segment ≡ true → length output < n
            → UnpadAnswered answer output
        unfolding unpad_code
        unpad_output_short a o h =
            let l = eq-eqb (length segment) (segment_length n) s in
            let k = lt-leb n (length output) h in
            (a ∙ rw (t, l, o, k), rw (t, l, o, k))

        pub unpad_done : {after : List ℕ} → answer ≡ written n → only_raw_bits n segment ≡ true → n ≤ length output
            → after ≡ splice output 0 (unpadded n segment) → UnpadAnswered answer after
        unfolding unpad_code
        unpad_done a o h e =
            let l = eq-eqb (length segment) (segment_length n) s in
            let k = le-leb n (length output) h in
            (a ∙ rw (t, l, o, k), e ∙ rw (t, l, o, k))
