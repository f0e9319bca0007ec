use Rattle.std.proofs.Common.{length, sym, refl, ◌∙◌, arith}
use Rattle.fr32.proofs.Answers.{largest_raw, pad_length_refused, pad_output_short, pad_done}
use Rattle.fr32.proofs.padding.pad.Goals as goal

pub returns-then-not-raw_length_allowed : goal.returns-then-not-raw_length_allowed
returns-then-not-raw_length_allowed c =
    let a = c.args in
    pad_length_refused a.raw.now a.output.now refl
    (sym c.raw_length_allowed.ensures ∙ c.if-not-raw_length_allowed.true)

pub segment_length-length-requires : goal.segment_length-length-requires
segment_length-length-requires c =
    largest_raw (length c.args.raw.now) (sym c.raw_length_allowed.ensures ∙ c.if-not-raw_length_allowed.false)

pub returns-then-output-length : goal.returns-then-output-length
returns-then-output-length c =
    let a = c.args in
    let allowed = sym c.raw_length_allowed.ensures ∙ c.if-not-raw_length_allowed.false in
    pad_output_short a.raw.now a.output.now refl allowed
    (omega (arith, c.segment_length-length.ensures, c.if-output-length.true))

pub write_segment-requires : goal.write_segment-requires
write_segment-requires c =
    let allowed = sym c.raw_length_allowed.ensures ∙ c.if-not-raw_length_allowed.false in (
      largest_raw (length c.args.raw.now) allowed,
      omega (arith, c.segment_length-length.ensures, c.if-output-length.false),
    )

pub returns : goal.returns
returns c =
    let a = c.args in
    let allowed = sym c.raw_length_allowed.ensures ∙ c.if-not-raw_length_allowed.false in
    pad_done a.raw.now a.output.now (rw c.segment_length-length.ensures) allowed
    (omega (arith, c.segment_length-length.ensures, c.if-output-length.false)) c.write_segment.ensures
