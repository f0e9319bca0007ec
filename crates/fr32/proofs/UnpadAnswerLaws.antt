-- What code 0 says of `unpad`.
use Rattle.std.specs.Prelude.{◌≡◌, ℕ, List, length}
use Rattle.std.proofs.Common.{sym, ap, ◌∙◌, arith, eqb-true, leb-true, eq-eqb, le-leb}
use Rattle.rules.specs.Refusals.{unless_refused}
use Rattle.rules.specs.RefusalLaws.{Codes, none_refused, all_passed}
use Rattle.fr32.specs.Padding.{segment_length, unpadded}
use Rattle.fr32.specs.UnpaddingLaws.{length_unpadded}
use Rattle.fr32.specs.Answers.{refused, written, unpad_rules, unpad_code, unpad_answer}
use Rattle.fr32.specs.AnswerLaws.{unpad_written, answer_code, all_written, UnpadAllowed}

module _ (n : ℕ) (segment output : List ℕ) where
  pub unpad_allowed : (unpad_answer n segment output).code ≡ 0 → UnpadAllowed n segment output
  unfolding unpad_code
  unpad_allowed e =
      let code = sym (answer_code (unpad_code n segment output) n) ∙ e in
      let codes : Codes (unpad_rules n segment output) =
      (omega arith, (omega arith, (omega arith, (omega arith, tt)))) in
      let p = none_refused (unpad_rules n segment output) codes code in
      record {
        raw_length = p.0;
        sized = eqb-true (length segment) (segment_length n) p.1.0;
        only_raw = p.1.1.0;
        room = leb-true n (length output) p.1.1.1.0;
      }

  unpad_passes : UnpadAllowed n segment output → unpad_code n segment output ≡ 0
  unfolding unpad_code
  unpad_passes a =
      let sized = eq-eqb (length segment) (segment_length n) a.sized in
      let room = le-leb n (length output) a.room in
      all_passed (unpad_rules n segment output) (a.raw_length, (sized, (a.only_raw, (room, tt))))

  pub unpad_answers : UnpadAllowed n segment output → unpad_answer n segment output ≡ written n
  unpad_answers a = ap (λ (c : ℕ). unless_refused c refused (written n)) (unpad_passes a)

  pub unpad_writes : UnpadAllowed n segment output → unpad_written n segment output ≡ unpadded n segment
  unpad_writes a =
      all_written (unpad_code n segment output) n output (unpadded n segment) (unpad_passes a)
      (length_unpadded n segment) a.room
