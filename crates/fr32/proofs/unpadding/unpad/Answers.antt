use Rattle.std.proofs.Common.{sym, refl, ◌∙◌}
use Rattle.fr32.proofs.Answers.{largest_raw, unpad_length_refused, segment_refused, bits_refused}
use Rattle.fr32.proofs.Answers.{unpad_output_short, unpad_done}
use Rattle.fr32.proofs.unpadding.unpad.Goals as goal

pub returns-then-not-raw_length_allowed : goal.returns-then-not-raw_length_allowed
returns-then-not-raw_length_allowed c =
    let a = c.args in
    unpad_length_refused a.raw_length a.segment.now a.output.now refl
    (sym c.raw_length_allowed.ensures ∙ c.if-not-raw_length_allowed.true)

pub segment_length-requires : goal.segment_length-requires
segment_length-requires c =
    largest_raw c.args.raw_length (sym c.raw_length_allowed.ensures ∙ c.if-not-raw_length_allowed.false)

pub returns-then-segment-segment_length : goal.returns-then-segment-segment_length
returns-then-segment-segment_length c =
    let a = c.args in
    let allowed = sym c.raw_length_allowed.ensures ∙ c.if-not-raw_length_allowed.false in
    segment_refused a.raw_length a.segment.now a.output.now allowed refl
    (λ e. c.if-segment-segment_length.true (e ∙ sym c.segment_length.ensures))

pub only_raw_bits-requires : goal.only_raw_bits-requires
only_raw_bits-requires c =
    let allowed = sym c.raw_length_allowed.ensures ∙ c.if-not-raw_length_allowed.false in
    let sized = c.if-segment-segment_length.false ∙ c.segment_length.ensures in
    (largest_raw c.args.raw_length allowed, sized)

pub returns-then-not-only_raw_bits : goal.returns-then-not-only_raw_bits
returns-then-not-only_raw_bits c =
    let a = c.args in
    let allowed = sym c.raw_length_allowed.ensures ∙ c.if-not-raw_length_allowed.false in
    let sized = c.if-segment-segment_length.false ∙ c.segment_length.ensures in
    bits_refused a.raw_length a.segment.now a.output.now allowed sized refl
    (sym c.only_raw_bits.ensures ∙ c.if-not-only_raw_bits.true)

pub returns-then-output-n : goal.returns-then-output-n
returns-then-output-n c =
    let a = c.args in
    let allowed = sym c.raw_length_allowed.ensures ∙ c.if-not-raw_length_allowed.false in
    let sized = c.if-segment-segment_length.false ∙ c.segment_length.ensures in
    unpad_output_short a.raw_length a.segment.now a.output.now allowed sized refl
    (sym c.only_raw_bits.ensures ∙ c.if-not-only_raw_bits.false) c.if-output-n.true

pub write_raw-requires : goal.write_raw-requires
write_raw-requires c =
    let allowed = sym c.raw_length_allowed.ensures ∙ c.if-not-raw_length_allowed.false in
    let sized = c.if-segment-segment_length.false ∙ c.segment_length.ensures in
    (largest_raw c.args.raw_length allowed, sized, c.if-output-n.false)

pub returns : goal.returns
returns c =
    let a = c.args in
    let allowed = sym c.raw_length_allowed.ensures ∙ c.if-not-raw_length_allowed.false in
    let sized = c.if-segment-segment_length.false ∙ c.segment_length.ensures in
    unpad_done a.raw_length a.segment.now a.output.now allowed sized refl
    (sym c.only_raw_bits.ensures ∙ c.if-not-only_raw_bits.false) c.if-output-n.false c.write_raw.ensures
